-- The text of an id is read to it.
use Rattle.std.proofs.Common.{◌≡◌, ℕ, zero, suc, ◌+◌, ◌*◌, ◌/◌, ◌%◌, ◌^◌, ◌<◌, Bool, true, ◌&&◌, ◌==◌, Some, refl, ap, sym, ◌∙◌, inl, inr, arith}
use Rattle.std.specs.Prelude.{◌⊎◌}
use Rattle.std.specs.List.{list_all}
use Rattle.std.proofs.Math.Nat.{div-div-eq-div-mul}
use Rattle.std.proofs.lemmas.Bool.{and_parts, and_from, eqb-true}
use Rattle.spec_documents.specs.Text.{is_hex_digit, is_id}
use Rattle.spec_documents.specs.Ids.{hex_value, hex_after, hex_digit, hex_digits, id_of, id_text}

-- a test of each number below a bound
abbrev pub all_below : ℕ → (ℕ → Bool) → Bool
all_below zero p = true
all_below (suc k) p = p k && all_below k p

below_step : (k n : ℕ) (p : ℕ → Bool) → p k ≡ true → (n < k → p n ≡ true) → (n < k) ⊎ (n ≡ k) → p n ≡ true
below_step k n p here rest (inl less) = rest less
below_step k n p here rest (inr same) = rw same here

below_cases : (k n : ℕ) → n < suc k → (n < k) ⊎ (n ≡ k)
below_cases k n lt = grind arith

pub holds_below : (k n : ℕ) (p : ℕ → Bool) → all_below k p ≡ true → n < k → p n ≡ true
holds_below zero n p all lt = absurd (omega arith)
holds_below (suc k) n p all lt =
    let both = and_parts (p k) (all_below k p) all in
    below_step k n p both.0 (λ less. holds_below k n p both.1 less) (below_cases k n lt)

-- each of the 16 digits is one, and has its value
pub digit_back : (v : ℕ) → v < 16 → (is_hex_digit (hex_digit v) ≡ true) × (hex_value (hex_digit v) ≡ v)
digit_back v lt =
    let both = and_parts (is_hex_digit (hex_digit v)) _ (holds_below 16 v (λ w. is_hex_digit (hex_digit w) && (hex_value (hex_digit w) == w)) refl lt) in
    (both.0, eqb-true _ _ both.1)

are_digits : (k n : ℕ) → list_all is_hex_digit (hex_digits k n) ≡ true
are_digits zero n = refl
are_digits (suc k) n =
    and_from _ _ (digit_back (n / 16 ^ k % 16) (omega arith)).0 (are_digits k n)

-- a digit more
shifted : (k n : ℕ) → 16 * (n / 16 ^ suc k) + n / 16 ^ k % 16 ≡ n / 16 ^ k
shifted k n =
    let one : n / 16 ^ k / 16 ≡ n / (16 ^ k * 16) = div-div-eq-div-mul n (16 ^ k) 16 in
    let same : 16 ^ suc k ≡ 16 ^ k * 16 = omega arith in
    let e : n / 16 ^ suc k ≡ n / 16 ^ k / 16 = ap (λ d. n / d) same ∙ sym one in
    rw e (omega arith)

after_digits : (k n : ℕ) → hex_after (n / 16 ^ k) (hex_digits k n) ≡ n
after_digits zero n = omega arith
after_digits (suc k) n =
    let v : hex_value (hex_digit (n / 16 ^ k % 16)) ≡ n / 16 ^ k % 16 = (digit_back (n / 16 ^ k % 16) (omega arith)).1 in
    let next : 16 * (n / 16 ^ suc k) + hex_value (hex_digit (n / 16 ^ k % 16)) ≡ n / 16 ^ k = rw v (shifted k n) in
    ap (λ m. hex_after m (hex_digits k n)) next ∙ after_digits k n

is_id-id_text : (n : ℕ) → is_id (id_text n) ≡ true
unfolding id_text
is_id-id_text n = and_from _ _ refl (are_digits 16 n)

hex_after-id_text : (n : ℕ) → n < 2 ^ 64 → hex_after 0 (id_text n) ≡ n
unfolding id_text
hex_after-id_text n fits =
    let none : n / 16 ^ 16 ≡ 0 = omega arith in
    ap (λ m. hex_after m (hex_digits 16 n)) (sym none) ∙ after_digits 16 n

pub id_of-id_text : (n : ℕ) → n < 2 ^ 64 → id_of (id_text n) ≡ Some n
id_of-id_text n fits = rw (is_id-id_text n) (ap Some (hex_after-id_text n fits))
