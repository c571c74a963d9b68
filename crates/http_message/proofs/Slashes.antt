-- Paths that do not begin with a slash.
use Rattle.std.proofs.Common.{◌≡◌, ◌≢◌, ℕ, Bool, true, false, ◌==◌, List, [], ◌∷◌, Option, None, refl, ap}
use Rattle.std.proofs.lemmas.Bool.{eqb-true}
use Rattle.spec_messages.specs.Message.{Part, segments_of}

no_slash_step : (t : Bool) (part : List ℕ → Option Part) (b : ℕ) (bs : List ℕ) → (b == 47) ≡ t → ((rest : List ℕ) → b ∷ bs ≢ 47 ∷ rest) → segments_of part (b ∷ bs) ≡ None
no_slash_step true part b bs e h = absurd (h bs (ap (λ x. x ∷ bs) (eqb-true b 47 e)))
no_slash_step false part b bs e h = rw e refl

pub no_slash : (part : List ℕ → Option Part) (bs : List ℕ) → ((rest : List ℕ) → bs ≢ 47 ∷ rest) → segments_of part bs ≡ None
no_slash part [] h = refl
no_slash part (b ∷ bs) h = no_slash_step (b == 47) part b bs refl h
