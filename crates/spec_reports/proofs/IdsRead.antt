-- An id that a text is read to has 64 bits.
use Rattle.std.proofs.Common.{◌≡◌, ℕ, suc, ◌+◌, ◌*◌, ◌^◌, ◌<◌, ◌≤◌, Bool, true, false, ◌==◌, List, [], ◌∷◌, length, Some, None, refl, ap, sym, ◌∙◌, subst, cond, arith}
use Rattle.std.specs.List.{list_all}
use Rattle.std.proofs.lemmas.Bool.{and_parts, eqb-true}
use Rattle.std.proofs.lemmas.Bool.Decides.{nat_tests}
use Rattle.std.proofs.Math.Nat.{mul-le-mul_right, mul_assoc, lt_of_lt_of_le}
use Rattle.spec_documents.specs.Text.{is_hex_digit, is_id}
use Rattle.spec_documents.specs.Ids.{hex_value, hex_after, id_of}

digit_small : (d : ℕ) → is_hex_digit d ≡ true → hex_value d < 16
digit_small d h = grind (arith, nat_tests)

after_below : (n : ℕ) (ds : List ℕ) → list_all is_hex_digit ds ≡ true → hex_after n ds < (n + 1) * 16 ^ length ds
after_below n [] h = omega arith
after_below n (d ∷ ds) h =
    let both = and_parts (is_hex_digit d) (list_all is_hex_digit ds) h in
    let small = digit_small d both.0 in
    let rest = after_below (16 * n + hex_value d) ds both.1 in
    let room : 16 * n + hex_value d + 1 ≤ (n + 1) * 16 = omega arith in
    let more : (16 * n + hex_value d + 1) * 16 ^ length ds ≤ (n + 1) * 16 * 16 ^ length ds = mul-le-mul_right (16 ^ length ds) room in
    let power : 16 ^ suc (length ds) ≡ 16 * 16 ^ length ds = omega arith in
    let bound : (n + 1) * 16 * 16 ^ length ds ≡ (n + 1) * 16 ^ suc (length ds) = mul_assoc (n + 1) 16 (16 ^ length ds) ∙ ap (λ z. (n + 1) * z) (sym power) in
    lt_of_lt_of_le rest (subst (λ z. (16 * n + hex_value d + 1) * 16 ^ length ds ≤ z) bound more)

pub id_fits : (s : List ℕ) (n : ℕ) → id_of s ≡ Some n → n < 2 ^ 64
id_fits s n e = by (is_id s) refl e
  where
    by : (b : Bool) → is_id s ≡ b → cond b (Some (hex_after 0 s)) None ≡ Some n → n < 2 ^ 64
    by true is h =
        let both = and_parts (length s == 16) (list_all is_hex_digit s) is in
        let long : length s ≡ 16 = eqb-true (length s) 16 both.0 in
        let below : hex_after 0 s < (0 + 1) * 16 ^ 16 = subst (λ k. hex_after 0 s < (0 + 1) * 16 ^ k) long (after_below 0 s both.1) in
        let same : hex_after 0 s ≡ n = cc in
        omega arith
    by false is h = cc
