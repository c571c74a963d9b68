-- Status codes, as the crate `http` speaks of them.
use Rattle.std.proofs.Common.{◌≡◌, ℕ, ◌+◌, ◌-◌, ◌*◌, ◌/◌, ◌%◌, ◌<◌, ◌≤◌, List, [], ◌∷◌, length, Bool, true, false, not, ◌&&◌, ◌==◌, Some, None, Ok, Err, refl, sym, ap, ◌∙◌, arith, nat_le, if◌then◌else◌}
use Rattle.std.proofs.lemmas.Bool.{and_parts, and_from, le-leb, leb-true, ne_eqb, false≢true}
use Rattle.std.specs.Char.{is_ascii_digit}
use Rattle.std.specs.Str.{all_ascii_digits}
use Rattle.http.specs.StatusCode.{IsStatusCode, IsCodeText, code_digits}
use Rattle.spec_documents.specs.Place.{is_index, index_number}
use Rattle.spec_documents.specs.Text.{is_within, status_of}
use Rattle.spec_messages.specs.Message.{response, status_line, status_head}

-- ---- numbers

pub status_within : (n : ℕ) → is_within 100 999 n ≡ true → IsStatusCode n
status_within n e =
    let p = and_parts (nat_le 100 n) (nat_le n 999) e in
    let low : 100 ≤ n = leb-true 100 n p.0 in
    let high : n ≤ 999 = leb-true n 999 p.1 in
    (low, omega arith)

-- ---- texts

digit : (d : ℕ) → 48 ≤ d → d ≤ 57 → is_ascii_digit d ≡ true
digit d low high = and_from _ _ (le-leb 48 d low) (le-leb d 57 high)

chosen : (a : Bool) (n : ℕ) → a ≡ true → (if a && true then Some n else None) ≡ Some n
chosen true n e = refl
chosen false n e = cc

-- ---- texts that are none

abbrev number_of : ℕ → ℕ → ℕ → ℕ
number_of d e f = 10 * (10 * (10 * 0 + (d - 48)) + (e - 48)) + (f - 48)

code_text : (d e f : ℕ) → 48 < d → d ≤ 57 → 48 ≤ e → e ≤ 57 → 48 ≤ f → f ≤ 57 → d ∷ e ∷ f ∷ [] ≡ code_digits (number_of d e f)
code_text d e f dl dh el eh fl fh =
    let n : number_of d e f ≡ 100 * (d - 48) + 10 * (e - 48) + (f - 48) = omega arith in
    let a : d ≡ 48 + number_of d e f / 100 = omega arith in
    let b : e ≡ 48 + number_of d e f / 10 % 10 = omega arith in
    let c : f ≡ 48 + number_of d e f % 10 = omega arith in
    λ i. a i ∷ b i ∷ c i ∷ []

three_none : (t u : Bool) (d e f : ℕ) → is_index (d ∷ e ∷ f ∷ []) ≡ t → is_within 100 999 (number_of d e f) ≡ u → (IsCodeText (d ∷ e ∷ f ∷ []) → ⊥)
    → status_head (if t && true then Some (number_of d e f) else None) ≡ Err status_line
three_none false u d e f i w h = refl
three_none true false d e f i w h = rw (w) refl
three_none true true d e f i w h =
    let p = and_parts (is_ascii_digit d && not (d == 48)) (all_ascii_digits (e ∷ f ∷ [])) i in
    let q = and_parts (is_ascii_digit d) (not (d == 48)) p.0 in
    let r = and_parts (nat_le 48 d) (nat_le d 57) q.0 in
    let s = and_parts (is_ascii_digit e) (all_ascii_digits (f ∷ [])) p.1 in
    let x = and_parts (nat_le 48 e) (nat_le e 57) s.0 in
    let y = and_parts (is_ascii_digit f) true s.1 in
    let z = and_parts (nat_le 48 f) (nat_le f 57) y.0 in
    let low : 48 ≤ d = leb-true 48 d r.0 in
    let other : d ≡ 48 → ⊥ = λ is. zero_first d is q.1 in
    absurd (h (number_of d e f, status_within (number_of d e f) w, code_text d e f (omega (arith, other)) (leb-true d 57 r.1) (leb-true 48 e x.0) (leb-true e 57 x.1) (leb-true 48 f z.0) (leb-true f 57 z.1)))
  where
    zero_first : (d : ℕ) → d ≡ 48 → not (d == 48) ≡ true → ⊥
    zero_first d is other = let same : false ≡ true = ap (λ x. not (x == 48)) (sym is) ∙ other in false≢true same

other_length : (a : Bool) (n k : ℕ) → (k ≡ 3 → ⊥) → status_head (if a && (k == 3) then Some n else None) ≡ Err status_line
other_length a n k h = rw (ne_eqb k 3 h) (by a)
  where
    by : (a : Bool) → status_head (if a && false then Some n else None) ≡ Err status_line
    by true = refl
    by false = refl

pub not_status : (s : List ℕ) → (IsCodeText s → ⊥) → status_head (status_of s) ≡ Err status_line
not_status [] h = refl
not_status (d ∷ []) h = other_length (is_index (d ∷ [])) (index_number (d ∷ [])) 1 (λ e. omega arith)
not_status (d ∷ e ∷ []) h = other_length (is_index (d ∷ e ∷ [])) (index_number (d ∷ e ∷ [])) 2 (λ e. omega arith)
not_status (d ∷ e ∷ f ∷ []) h = three_none (is_index (d ∷ e ∷ f ∷ [])) (is_within 100 999 (number_of d e f)) d e f refl refl h
not_status (d ∷ e ∷ f ∷ g ∷ s) h = other_length (is_index (d ∷ e ∷ f ∷ g ∷ s)) (index_number (d ∷ e ∷ f ∷ g ∷ s)) (length (d ∷ e ∷ f ∷ g ∷ s)) (λ e. omega arith)
