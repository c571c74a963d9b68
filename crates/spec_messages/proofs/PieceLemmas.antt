-- The pieces of a text, by its first cut.
use Rattle.std.proofs.Common.{◌≡◌, ℕ, Bool, true, false, ◌==◌, List, [], ◌∷◌, Option, Some, None, refl, ap, ◌∙◌}
use Rattle.spec_documents.specs.Text.{cut_at, onto_front, pieces, onto_first}

abbrev pub pieces_after : ℕ → List ℕ × Option (List ℕ) → List (List ℕ)
pieces_after c (front, None) = front ∷ []
pieces_after c (front, Some rest) = front ∷ pieces c rest

onto_pieces : (c b : ℕ) (cut : List ℕ × Option (List ℕ)) → onto_first b (pieces_after c cut) ≡ pieces_after c (onto_front b cut)
onto_pieces c b (front, None) = refl
onto_pieces c b (front, Some rest) = refl

cut_pieces_step : (t : Bool) (c b : ℕ) (bs : List ℕ) → (b == c) ≡ t → pieces c bs ≡ pieces_after c (cut_at c bs) → pieces c (b ∷ bs) ≡ pieces_after c (cut_at c (b ∷ bs))
cut_pieces_step true c b bs e h = rw e refl
cut_pieces_step false c b bs e h = rw e (ap (onto_first b) h ∙ onto_pieces c b (cut_at c bs))

pub cut_pieces : (c : ℕ) (bs : List ℕ) → pieces c bs ≡ pieces_after c (cut_at c bs)
cut_pieces c [] = refl
cut_pieces c (b ∷ bs) = cut_pieces_step (b == c) c b bs refl (cut_pieces c bs)
