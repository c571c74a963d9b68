-- What each byte of a string takes is what its escape has.
use Rattle.std.proofs.Common.{◌≡◌, ℕ, zero, suc, ◌<◌, Bool, true, ◌&&◌, ◌==◌, length, refl, arith, inl, inr, subst}
use Rattle.std.proofs.lemmas.Bool.{and_parts, eqb-true, cases_lt}
use Rattle.json.specs.Print.{escape_byte}
use Rattle.n32_values.specs.Costs.{byte_cost}

-- the test holds of each number below n
unfoldable all_below : ℕ → (ℕ → Bool) → Bool
all_below zero p = true
all_below (suc n) p = p n && all_below n p

below_at : (n : ℕ) (p : ℕ → Bool) → all_below n p ≡ true → (k : ℕ) → k < n → p k ≡ true
unfolding all_below
below_at zero p h k lt = absurd (omega arith)
below_at (suc n) p h k lt =
    let both = and_parts (p n) (all_below n p) h in
    elim (cases_lt k n) [
      | inl below ↦ below_at n p both.1 k below
      | inr above ↦ let e : n ≡ k = omega arith in subst (λ (x : ℕ). p x ≡ true) e both.0
    ]

costs : all_below 256 (λ b. byte_cost b == length (escape_byte b)) ≡ true
unfolding all_below escape_byte
costs = refl

pub byte_cost-escape : (b : ℕ) → b < 256 → byte_cost b ≡ length (escape_byte b)
byte_cost-escape b lt = eqb-true (byte_cost b) (length (escape_byte b)) (below_at 256 (λ b. byte_cost b == length (escape_byte b)) costs b lt)
