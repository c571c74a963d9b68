-- How often a number can be halved.
use Rattle.std.proofs.Common.{◌≡◌, ◌∙◌, ap, sym, subst, ℕ, ◌+◌, ◌-◌, ◌*◌, ◌^◌, ◌<◌, ◌≤◌, suc, ⊎_elim, arith}
use Rattle.std.proofs.Math.Nat.{pow-suc, mul_assoc, mul_comm, mul-le-mul_right}
use Rattle.std.proofs.Math.Pow.{pow_mono}
use Rattle.std.proofs.lemmas.Bool.{cases_lt}

-- so often that less than 2 ^ d of it is left
pub halved : (d taken n : ℕ) → 2 ^ taken ≤ 2 * n + 1 → n + 1 ≤ 2 ^ d → taken ≤ d
halved d taken n le lt = ⊎_elim (λ more. absurd (over more)) (λ fine. fine) (cases_lt d taken)
  where
    over : d < taken → ⊥
    over more =
        let grows : 2 ^ suc d ≤ 2 ^ taken = pow_mono {i = suc d} {j = taken} more in
        let twice : 2 ^ suc d ≡ 2 ^ d * 2 = pow-suc 2 d in
        omega (arith, grows, twice, le, lt)

-- what is left after one more step, and how many steps there were
pub record Left (small u s n : ℕ) : Type 0 where
  pub halved : small * 2 ^ (u - s) ≤ n
  pub few : 2 ^ (u - s) ≤ 2 * n + 1

pub halves : (size small t u s n : ℕ) → small * 2 ≤ size → 0 < size → s ≤ t → u ≡ t + 1 → size * 2 ^ (t - s) ≤ n → Left small u s n
halves size small t u s n half some since next le =
    let one : u - s ≡ suc (t - s) = omega (arith, next, since) in
    let twice : 2 ^ (u - s) ≡ 2 ^ (t - s) * 2 = ap (λ k. 2 ^ k) one ∙ pow-suc 2 (t - s) in
    let all : 1 * 2 ^ (t - s) ≤ size * 2 ^ (t - s) = mul-le-mul_right (2 ^ (t - s)) some in
    let part : (small * 2) * 2 ^ (t - s) ≤ size * 2 ^ (t - s) = mul-le-mul_right (2 ^ (t - s)) half in
    let moved : small * (2 ^ (t - s) * 2) ≡ (small * 2) * 2 ^ (t - s) = ap (λ z. small * z) (mul_comm (2 ^ (t - s)) 2) ∙ sym (mul_assoc small 2 (2 ^ (t - s))) in
    record {
      halved = subst (λ z. small * z ≤ n) (sym twice) (omega (arith, moved, part, le));
      few = omega (arith, twice, all, le);
    }
