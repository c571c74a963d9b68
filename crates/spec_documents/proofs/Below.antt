-- Facts on all numbers below a bound, by trying each.
use Rattle.std.proofs.Common.{◌≡◌, ◌<◌, ℕ, zero, suc, true, false, refl, Bool, arith, subst, inl, inr}
use Rattle.std.specs.Prelude.{◌&&◌, ◌==◌}
use Rattle.std.proofs.lemmas.Bool.{cases_lt, eqb-true}

-- whether p holds of each number below n
unfoldable pub all_below : ℕ → (ℕ → Bool) → Bool
all_below zero p = true
all_below (suc n) p = p n && all_below n p

both_true : (a b : Bool) → (a && b) ≡ true → (a ≡ true) × (b ≡ true)
both_true true b h = (refl, h)
both_true false b h = absurd cc

-- what a test says at each number below n
pub all_below-at : (n : ℕ) (p : ℕ → Bool) → all_below n p ≡ true → (k : ℕ) → k < n → p k ≡ true
unfolding all_below
all_below-at zero p h k lt = absurd (omega arith)
all_below-at (suc n) p h k lt =
    let both = both_true (p n) (all_below n p) h in
    elim (cases_lt k n) [
      | inl below ↦ all_below-at n p both.1 k below
      | inr above ↦ let e : n ≡ k = omega arith in subst (λ (x : ℕ). p x ≡ true) e both.0
    ]

-- two functions agree below n where a test of each number there says so
pub same_below : (n : ℕ) (f g : ℕ → ℕ) → all_below n (λ k. f k == g k) ≡ true → (k : ℕ) → k < n → f k ≡ g k
same_below n f g h k lt = eqb-true (f k) (g k) (all_below-at n (λ k. f k == g k) h k lt)
