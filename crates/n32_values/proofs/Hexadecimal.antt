-- The words of the crate `hex` on 16 digits are ids.
use Rattle.std.proofs.Common.{◌≡◌, ℕ, zero, suc, ◌+◌, ◌-◌, ◌*◌, ◌/◌, ◌%◌, ◌^◌, ◌<◌, List, [], ◌∷◌, Bool, true, false, ◌&&◌, ◌||◌, ◌==◌, nat_le, Option, Some, None, Result, Ok, Err, length, slice_index, if◌then◌else◌, refl, ap, sym, ◌∙◌, arith}
use Rattle.std.specs.List.{list_all}
use Rattle.std.specs.Int.{byte_at, bytes_high_first, from_be_bytes, w64}
use Rattle.std.proofs.Math.Nat.{div-div-eq-div-mul, pow-suc}
use Rattle.std.proofs.lemmas.Bool.{and_parts, and_from, eqb-true}
use Rattle.std.proofs.lemmas.List.Sums.{AllPass-from_list_all}
use Rattle.hex.specs.Hex as hex
use Rattle.hex.specs.Hex.{decode_pairs, decode_sized, decode_of, encode_with, encode_lower, lower_digits, hex_digit_value, value_at, pair_value, digit_or_error}
use Rattle.hex.specs.declared.error.FromHexError.{FromHexError}
use Rattle.hex.proofs.HexLemmas.{decode_sized-ok, decode_sized-twice, decode_of-even, decode_pairs-ok, IsOk-decode_sized}
use Rattle.std.specs.Result.{IsOk}
use Rattle.std.specs.Option.{is_some}
use Rattle.std.specs.Int.{to_be_bytes}
use Rattle.spec_documents.proofs.IdLemmas.{holds_below}
use Rattle.spec_documents.specs.Text.{is_hex_digit, is_id}
use Rattle.spec_documents.specs.Ids.{hex_value, hex_after, hex_digit, hex_digits, id_of, id_text}

-- ---- reading

by_case : (a b d : Bool) (x y z v : ℕ) → (if a then Some x else (if b then Some y else (if d then Some z else None))) ≡ Some v
    → ((if a then x else (if b then y else z)) ≡ v) × ((d || (a || b)) ≡ true)
by_case true true true x y z v e = (cc, refl)
by_case true true false x y z v e = (cc, refl)
by_case true false true x y z v e = (cc, refl)
by_case true false false x y z v e = (cc, refl)
by_case false true true x y z v e = (cc, refl)
by_case false true false x y z v e = (cc, refl)
by_case false false true x y z v e = (cc, refl)
by_case false false false x y z v e = cc

digit_read : (c i v : ℕ) → value_at c i ≡ Ok v → (hex_value c ≡ v) × (is_hex_digit c ≡ true)
digit_read c i v e = by_case (nat_le 65 c && nat_le c 70) (nat_le 97 c && nat_le c 102) (nat_le 48 c && nat_le c 57) (c - 55) (c - 87) (c - 48) v (told (hex_digit_value c) e)
  where
    told : (o : Option ℕ) → digit_or_error c i o ≡ Ok v → o ≡ Some v
    told None h = cc
    told (Some w) h = cc

bind_ok : {A B : Type 0} (r : Result A FromHexError) (f : A → Result B FromHexError) (y : B) → (hex.◌>>=◌ r f) ≡ Ok y → (x : A) × (r ≡ Ok x) × (f x ≡ Ok y)
bind_ok (Ok x) f y e = (x, refl, e)
bind_ok (Err w) f y e = cc

-- bytes from the highest on, after a number
abbrev bytes_after : ℕ → List ℕ → ℕ
bytes_after n [] = n
bytes_after n (b ∷ bs) = bytes_after (256 * n + b) bs

two_digits : (n a b h l byte : ℕ) → a ≡ h → b ≡ l → h * 16 + l ≡ byte → 16 * (16 * n + a) + b ≡ 256 * n + byte
two_digits n a b h l byte p q r = omega arith

pairs_read : (i n : ℕ) (s bytes : List ℕ) → decode_pairs i s ≡ Ok bytes → (hex_after n s ≡ bytes_after n bytes) × (list_all is_hex_digit s ≡ true)
unfolding decode_pairs
pairs_read i n [] [] e = (refl, refl)
pairs_read i n [] (b ∷ bs) e = cc
pairs_read i n (h ∷ []) bytes e = cc
pairs_read i n (h ∷ l ∷ rest) bytes e =
    let first = bind_ok (pair_value h l i) _ bytes e in
    let second = bind_ok (decode_pairs (i + 2) rest) _ bytes first.2 in
    let high = bind_ok (value_at h i) _ first.0 first.1 in
    let low = bind_ok (value_at l (i + 1)) _ first.0 high.2 in
    let hv = digit_read h i high.0 high.1 in
    let lv = digit_read l (i + 1) low.0 low.1 in
    let byte : high.0 * 16 + low.0 ≡ first.0 = cc low.2 in
    let whole : first.0 ∷ second.0 ≡ bytes = cc second.2 in
    let ih = pairs_read (i + 2) (256 * n + first.0) rest second.0 second.1 in
    let step = two_digits n (hex_value h) (hex_value l) high.0 low.0 first.0 hv.0 lv.0 byte in (
      ap (λ m. hex_after m rest) step ∙ ih.0 ∙ ap (bytes_after n) whole,
      and_from _ _ hv.1 (and_from _ _ lv.1 ih.1),
    )

eight : (bs : List ℕ) → length bs ≡ 8 → bytes_after 0 bs ≡ from_be_bytes w64 bs
eight [] e = absurd (omega arith)
eight (a ∷ []) e = absurd (omega arith)
eight (a ∷ b ∷ []) e = absurd (omega arith)
eight (a ∷ b ∷ c ∷ []) e = absurd (omega arith)
eight (a ∷ b ∷ c ∷ d ∷ []) e = absurd (omega arith)
eight (a ∷ b ∷ c ∷ d ∷ f ∷ []) e = absurd (omega arith)
eight (a ∷ b ∷ c ∷ d ∷ f ∷ g ∷ []) e = absurd (omega arith)
eight (a ∷ b ∷ c ∷ d ∷ f ∷ g ∷ h ∷ []) e = absurd (omega arith)
eight (a ∷ b ∷ c ∷ d ∷ f ∷ g ∷ h ∷ k ∷ []) e = omega arith
eight (a ∷ b ∷ c ∷ d ∷ f ∷ g ∷ h ∷ k ∷ l ∷ more) e = absurd (omega arith)

sixteen : (n : ℕ) → n ≡ 16 → (n == 16) ≡ true
sixteen n e = rw e refl

pub id_of-read : (s bytes : List ℕ) → decode_sized s 8 ≡ Ok bytes → id_of s ≡ Some (from_be_bytes w64 bytes)
id_of-read s bytes e =
    let len = decode_sized-ok s 8 bytes e in
    let pairs : decode_pairs 0 s ≡ Ok bytes = sym (decode_of-even s (omega arith)) ∙ sym (decode_sized-twice s 8 len) ∙ e in
    let read = pairs_read 0 0 s bytes pairs in
    let count : length bytes ≡ 8 = omega (arith, (decode_pairs-ok 0 s bytes pairs).1) in
    let id : is_id s ≡ true = and_from _ _ (sixteen (length s) (omega arith)) read.1 in
    rw (id, read.0, eight bytes count) refl

some_case : (a b d : Bool) (x y z : ℕ) → (d || (a || b)) ≡ true → is_some (if a then Some x else (if b then Some y else (if d then Some z else None))) ≡ true
some_case true b d x y z e = refl
some_case false true d x y z e = refl
some_case false false true x y z e = refl
some_case false false false x y z e = cc

is_digit : (c : ℕ) → is_hex_digit c ≡ true → hex.is_hex_digit c ≡ true
is_digit c e = some_case (nat_le 65 c && nat_le c 70) (nat_le 97 c && nat_le c 102) (nat_le 48 c && nat_le c 57) (c - 55) (c - 87) (c - 48) e

are_digits : (s : List ℕ) → list_all is_hex_digit s ≡ true → list_all hex.is_hex_digit s ≡ true
are_digits [] e = refl
are_digits (c ∷ s) e =
    let both = and_parts (is_hex_digit c) _ e in
    and_from _ _ (is_digit c both.0) (are_digits s both.1)

no_value : (r : Result (List ℕ) FromHexError) (e : FromHexError) → r ≡ Err e → IsOk r → ⊥
no_value (Ok x) e is ok = cc
no_value (Err w) e is ok = cc

pub id_of-unread : (s : List ℕ) (e : FromHexError) → decode_sized s 8 ≡ Err e → id_of s ≡ None
id_of-unread s e err = by_test (is_id s) refl
  where
    by_test : (b : Bool) → is_id s ≡ b → id_of s ≡ None
    by_test false is = rw is refl
    by_test true is =
        let both = and_parts (length s == 16) _ is in
        let len : length s ≡ 16 = eqb-true _ _ both.0 in
        let ok = (IsOk-decode_sized s 8).1 (omega arith, AllPass-from_list_all _ s (are_digits s both.1)) in
        absurd (no_value (decode_sized s 8) e err ok)

-- ---- writing

abbrev twice : ℕ → ℕ
twice zero = zero
twice (suc k) = suc (suc (twice k))

power : (k : ℕ) → 256 ^ k ≡ 16 ^ twice k
power zero = refl
power (suc k) =
    let inner : 16 ^ suc (twice k) ≡ 16 ^ twice k * 16 = pow-suc 16 (twice k) in
    let outer : 16 ^ suc (suc (twice k)) ≡ 16 ^ suc (twice k) * 16 = pow-suc 16 (suc (twice k)) in
    let both : 256 ^ suc k ≡ 16 ^ suc (suc (twice k)) = omega (arith, power k, pow-suc 256 k) in
    both

-- the bits of a byte, with a number's bytes above it
byte_digits : (k n : ℕ) → (byte_at k n / 16 ≡ n / 16 ^ suc (twice k) % 16) × (byte_at k n % 16 ≡ n / 16 ^ twice k % 16)
byte_digits zero n = (omega arith, omega arith)
byte_digits (suc k) n =
    let same : 256 ^ suc k ≡ 16 ^ twice (suc k) = power (suc k) in
    let next : 16 ^ suc (twice (suc k)) ≡ 256 ^ suc k * 16 = omega (arith, same) in
    let more : n / 256 ^ suc k / 16 ≡ n / (256 ^ suc k * 16) = div-div-eq-div-mul n (256 ^ suc k) 16 in
    (rw (next, ← more) (omega arith), rw (← same) (omega arith))

lower_digit : (v : ℕ) → v < 16 → slice_index lower_digits v ≡ hex_digit v
lower_digit v lt = eqb-true _ _ (holds_below 16 v (λ w. slice_index lower_digits w == hex_digit w) refl lt)

encoded : (k n : ℕ) → encode_lower (bytes_high_first k n) ≡ hex_digits (twice k) n
unfolding encode_with
encoded zero n = refl
encoded (suc k) n =
    let parts = byte_digits k n in
    let high : slice_index lower_digits (byte_at k n / 16) ≡ hex_digit (n / 16 ^ suc (twice k) % 16) = rw (parts.0) (lower_digit _ (omega arith)) in
    let low : slice_index lower_digits (byte_at k n % 16) ≡ hex_digit (n / 16 ^ twice k % 16) = rw (parts.1) (lower_digit _ (omega arith)) in
    λ i. high i ∷ low i ∷ encoded k n i

pub encode_lower-id : (n : ℕ) → encode_lower (to_be_bytes w64 n) ≡ id_text n
unfolding id_text
encode_lower-id n = encoded 8 n
