-- An id that is read has 64 bits.
use Rattle.std.proofs.Common.{◌≡◌, ℕ, suc, ◌+◌, ◌-◌, ◌*◌, ◌^◌, ◌<◌, ◌≤◌, Bool, true, false, List, [], ◌∷◌, length, Some, None, refl, ap, cond, ⊎_elim, arith}
use Rattle.std.specs.Prelude.{◌||◌, ◌==◌, nat_le}
use Rattle.std.specs.List.{list_all}
use Rattle.std.specs.Char.{is_ascii_digit}
use Rattle.std.proofs.lemmas.Bool.{and_parts, or_cases, leb-true, eqb-true}
use Rattle.std.proofs.Math.Nat.{mul-le-mul_left}
use Rattle.spec_documents.specs.Text.{is_within, is_hex_digit, is_id}
use Rattle.spec_documents.specs.Ids.{hex_value, hex_after, id_of}

within_high : (low high b : ℕ) → is_within low high b ≡ true → b ≤ high
within_high low high b e = leb-true b high (and_parts (nat_le low b) (nat_le b high) e).1

-- a digit's value
digit_small : (d : ℕ) → is_hex_digit d ≡ true → hex_value d < 16
digit_small d e = by (is_within 65 70 d) refl (is_within 97 102 d) refl
  where
    by : (a : Bool) → is_within 65 70 d ≡ a → (b : Bool) → is_within 97 102 d ≡ b → cond a (d - 55) (cond b (d - 87) (d - 48)) < 16
    by true f b g = let high : d ≤ 70 = within_high 65 70 d f in omega (arith, high)
    by false f true g = let high : d ≤ 102 = within_high 97 102 d g in omega (arith, high)
    by false f false g =
        let decimal : is_ascii_digit d ≡ true = ⊎_elim (λ h. h) (λ h. cc) (or_cases (is_ascii_digit d) (is_within 65 70 d || is_within 97 102 d) e) in
        let high : d ≤ 57 = within_high 48 57 d decimal in
        omega (arith, high)

widened : (n v q : ℕ) → v < 16 → (16 * n + v + 1) * q ≤ (n + 1) * (16 * q)
widened n v q h =
    let fits : 16 * n + v + 1 ≤ 16 * (n + 1) = omega (arith, h) in
    let more : q * (16 * n + v + 1) ≤ q * (16 * (n + 1)) = mul-le-mul_left q fits in
    grind (arith, more)

hex_bound : (n : ℕ) (ds : List ℕ) → list_all is_hex_digit ds ≡ true → hex_after n ds < (n + 1) * 16 ^ length ds
hex_bound n [] e = omega arith
hex_bound n (d ∷ ds) e =
    let both = and_parts (is_hex_digit d) (list_all is_hex_digit ds) e in
    let rest : hex_after (16 * n + hex_value d) ds < (16 * n + hex_value d + 1) * 16 ^ length ds = hex_bound (16 * n + hex_value d) ds both.1 in
    let wide : (16 * n + hex_value d + 1) * 16 ^ length ds ≤ (n + 1) * (16 * 16 ^ length ds) = widened n (hex_value d) (16 ^ length ds) (digit_small d both.0) in
    let power : 16 ^ suc (length ds) ≡ 16 * 16 ^ length ds = omega arith in
    rw power (omega (arith, rest, wide))

pub id_bound : (s : List ℕ) (n : ℕ) → id_of s ≡ Some n → n < 2 ^ 64
id_bound s n e = by (is_id s) refl e
  where
    by : (b : Bool) → is_id s ≡ b → cond b (Some (hex_after 0 s)) None ≡ Some n → n < 2 ^ 64
    by true f h =
        let both = and_parts (length s == 16) (list_all is_hex_digit s) f in
        let same : hex_after 0 s ≡ n = cc in
        let long : length s ≡ 16 = eqb-true (length s) 16 both.0 in
        let bound : hex_after 0 s < 1 * 16 ^ length s = hex_bound 0 s both.1 in
        let power : 16 ^ length s ≡ 2 ^ 64 = ap (λ k. 16 ^ k) long in
        omega (arith, same, bound, power)
    by false f h = cc
