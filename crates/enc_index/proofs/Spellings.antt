-- A text that has the opening of a hole in it.
use Rattle.std.proofs.Common.{◌≡◌, ℕ, List, [], ◌∷◌, ◌++◌, Bool, true, false, ◌||◌, ◌==◌, refl, sym, ap, ap₂, ◌∙◌, inl, inr}
use Rattle.std.specs.Prelude.{◌⊎◌, ◌↔◌}
use Rattle.std.specs.Str.Iter.{HasSubslice}
use Rattle.std.proofs.lemmas.Bool.{and_parts, and_from, or_left, or_right, or_cases, eqb-true, eq-eqb}
use Rattle.spec_documents.specs.Text.{begins, contains_text}
use Rattle.spec_documents.specs.Tree.{Tree, trees}
use Rattle.spec_documents.specs.Fields.{Field, fields}
use Rattle.spec_documents.specs.Hole.{has_hole_spelling, items_have_spelling, members_have_spelling}

-- an item, a member without a spelling
pub item_passed : (t : Tree) (all rest : List Tree) → all ≡ t ∷ rest → has_hole_spelling t ≡ false → items_have_spelling (trees all) ≡ items_have_spelling (trees rest)
item_passed t all rest cut none = ap (λ ts. items_have_spelling (trees ts)) cut ∙ ap (λ b. b || items_have_spelling (trees rest)) none

pub item_has : (t : Tree) (all rest : List Tree) → all ≡ t ∷ rest → has_hole_spelling t ≡ true → items_have_spelling (trees all) ≡ true
item_has t all rest cut has = ap (λ ts. items_have_spelling (trees ts)) cut ∙ ap (λ b. b || items_have_spelling (trees rest)) has

pub member_passed : (k : List ℕ) (t : Tree) (all rest : List Field) → all ≡ (k, t) ∷ rest → has_hole_spelling t ≡ false → members_have_spelling (fields all) ≡ members_have_spelling (fields rest)
member_passed k t all rest cut none = ap (λ es. members_have_spelling (fields es)) cut ∙ ap (λ b. b || members_have_spelling (fields rest)) none

pub member_has : (k : List ℕ) (t : Tree) (all rest : List Field) → all ≡ (k, t) ∷ rest → has_hole_spelling t ≡ true → members_have_spelling (fields all) ≡ true
member_has k t all rest cut has = ap (λ es. members_have_spelling (fields es)) cut ∙ ap (λ b. b || members_have_spelling (fields rest)) has

-- ---- a text within a text

begins-append : (n b : List ℕ) → begins n (n ++ b) ≡ true
begins-append [] b = refl
begins-append (c ∷ n) b = and_from _ _ (eq-eqb c c refl) (begins-append n b)

begins_split : (n s : List ℕ) → begins n s ≡ true → (b : List ℕ) × (s ≡ n ++ b)
begins_split [] s e = (s, refl)
begins_split (c ∷ n) [] e = cc
begins_split (c ∷ n) (d ∷ s) e =
    let both = and_parts (c == d) _ e in
    let more = begins_split n s both.1 in
    (more.0, ap₂ ◌∷◌ (sym (eqb-true c d both.0)) more.1)

contains_front : (n s : List ℕ) → begins n s ≡ true → contains_text n s ≡ true
contains_front n [] e = e
contains_front n (d ∷ s) e = or_left _ _ e

contains_later : (n a s : List ℕ) → contains_text n s ≡ true → contains_text n (a ++ s) ≡ true
contains_later n [] s e = e
contains_later n (c ∷ a) s e = or_right _ _ (contains_later n a s e)

contains_split : (n s : List ℕ) → contains_text n s ≡ true → HasSubslice s n
contains_split n [] e = let b = begins_split n [] e in ([], b.0, b.1)
contains_split n (d ∷ s) e = by (or_cases (begins n (d ∷ s)) _ e) (contains_split n s)
  where
    by : (begins n (d ∷ s) ≡ true) ⊎ (contains_text n s ≡ true) → (contains_text n s ≡ true → HasSubslice s n) → HasSubslice (d ∷ s) n
    by (inl h) more = let b = begins_split n (d ∷ s) h in ([], b.0, b.1)
    by (inr h) more = let r = more h in (d ∷ r.0, r.1, ap (λ x. d ∷ x) r.2)

same_test : (r q : Bool) → (r ≡ true → q ≡ true) → (q ≡ true → r ≡ true) → r ≡ q
same_test true q f g = sym (f refl)
same_test false true f g = g refl
same_test false false f g = refl

pub contains_is : (r : Bool) (n s : List ℕ) → (r ≡ true) ↔ HasSubslice s n → r ≡ contains_text n s
contains_is r n s told =
    same_test r (contains_text n s)
    (λ yes. let h = told.0 yes in ap (contains_text n) h.2 ∙ contains_later n h.0 (n ++ h.1) (contains_front n (n ++ h.1) (begins-append n h.1)))
    (λ yes. told.1 (contains_split n s yes))
