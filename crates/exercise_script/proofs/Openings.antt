-- The lines that are left of an opening.
use Rattle.std.proofs.Common.{◌≡◌, ℕ, ◌+◌, List, ◌∷◌, ◌++◌, drop, Some, ap}
use Rattle.std.specs.Prelude.{slice_get}
use Rattle.n32_values.proofs.Trees.{drop_at}

pub opening_step : {X : Type 0} (xs rest : List X) (k : ℕ) (x : X) → slice_get xs k ≡ Some x → drop k xs ++ rest ≡ x ∷ (drop (k + 1) xs ++ rest)
opening_step xs rest k x here = ap (λ ys. ys ++ rest) (drop_at xs k x here)
