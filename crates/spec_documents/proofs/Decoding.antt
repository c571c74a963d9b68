-- What is computed of base64url texts and of bytes is what the readers of both say.
use Rattle.std.proofs.Common.{◌≡◌, ◌≢◌, ℕ, zero, suc, ◌+◌, ◌*◌, ◌/◌, ◌%◌, ◌<◌, max, Bool, true, false, List, [], ◌∷◌, map, length, Option, Some, None, refl, sym, ap, ◌∙◌, cond, subst, arith}
use Rattle.std.specs.Prelude.{bytes_eq, slice_index, unwrap_or, option_and_then, ◌==◌}
use Rattle.std.specs.List.{position_from}
use Rattle.std.specs.Str.{is_utf8}
use Rattle.std.proofs.lemmas.Slice.Eq.{bytes_eq-Decides}
use Rattle.std.proofs.lemmas.Str.{IsUtf8-from_is_utf8, is_utf8-from_IsUtf8}
use Rattle.base64.specs.GeneralPurpose.{IsBytes}
use Rattle.base64.specs.Rfc4648.{encode_symbols}
use Rattle.serde_json.specs.Data as json
use Rattle.serde_json.specs.Read.{read}
use Rattle.spec_documents.proofs.Below as below
use Rattle.spec_documents.proofs.Below.{same_below}
use Rattle.spec_documents.specs.Tree.{Tree}
use Rattle.spec_documents.specs.Base64url.{base64url, url_symbols, six_bits, bytes_from, bytes_of}
use Rattle.spec_documents.specs.Reading.{tree_from, ReadsTo, HasOtherNumber, document_of}

-- ---- bytes from their text

symbol_back : (k : ℕ) → k < 64 → six_bits (slice_index url_symbols k) ≡ k
unfolding below.all_below
symbol_back k lt = same_below 64 (λ k. six_bits (slice_index url_symbols k)) (λ k. k) refl k lt

four_back : (a b c p q r s : ℕ) (tail : List ℕ) → a < 256 → b < 256 → c < 256 → p ≡ a / 4 → q ≡ a % 4 * 16 + b / 16 → r ≡ b % 16 * 4 + c / 64 → s ≡ c % 64
    → bytes_from (p ∷ q ∷ r ∷ s ∷ tail) ≡ a ∷ b ∷ c ∷ bytes_from tail
four_back a b c p q r s tail la lb lc ep eq er es =
    let first : p * 4 + q / 16 ≡ a = omega (arith, la, lb, ep, eq) in
    let second : q % 16 * 16 + r / 4 ≡ b = omega (arith, lb, lc, eq, er) in
    let third : r % 4 * 64 + s ≡ c = omega (arith, lc, er, es) in
    λ i. first i ∷ second i ∷ third i ∷ bytes_from tail

three_back : (a b p q r : ℕ) → a < 256 → b < 256 → p ≡ a / 4 → q ≡ a % 4 * 16 + b / 16 → r ≡ b % 16 * 4 → bytes_from (p ∷ q ∷ r ∷ []) ≡ a ∷ b ∷ []
three_back a b p q r la lb ep eq er =
    let first : p * 4 + q / 16 ≡ a = omega (arith, la, lb, ep, eq) in
    let second : q % 16 * 16 + r / 4 ≡ b = omega (arith, lb, eq, er) in
    λ i. first i ∷ second i ∷ []

two_back : (a p q : ℕ) → a < 256 → p ≡ a / 4 → q ≡ a % 4 * 16 → bytes_from (p ∷ q ∷ []) ≡ a ∷ []
two_back a p q la ep eq =
    let first : p * 4 + q / 16 ≡ a = omega (arith, la, ep, eq) in
    λ i. first i ∷ []

pub encoded_back : (bytes : List ℕ) → IsBytes bytes → bytes_from (map six_bits (base64url bytes)) ≡ bytes
unfolding encode_symbols
encoded_back [] h = refl
encoded_back (a ∷ []) h =
    two_back a _ _ (h 0) (symbol_back (a / 4) (omega (arith, h 0))) (symbol_back (a % 4 * 16) (omega arith))
encoded_back (a ∷ b ∷ []) h =
    three_back a b _ _ _ (h 0) (h 1) (symbol_back (a / 4) (omega (arith, h 0))) (symbol_back (a % 4 * 16 + b / 16) (omega (arith, h 1))) (symbol_back (b % 16 * 4) (omega arith))
encoded_back (a ∷ b ∷ c ∷ rest) h =
    four_back a b c _ _ _ _ (map six_bits (base64url rest)) (h 0) (h 1) (h 2)
    (symbol_back (a / 4) (omega (arith, h 0))) (symbol_back (a % 4 * 16 + b / 16) (omega (arith, h 1)))
    (symbol_back (b % 16 * 4 + c / 64) (omega (arith, h 2))) (symbol_back (c % 64) (omega arith))
    ∙ ap (λ t. a ∷ b ∷ c ∷ t) (encoded_back rest (λ i. h (suc (suc (suc i)))))

pub base64url-unique : (a b : List ℕ) → IsBytes a → IsBytes b → base64url a ≡ base64url b → a ≡ b
base64url-unique a b xs ys e = sym (encoded_back a xs) ∙ (ap (λ t. bytes_from (map six_bits t)) e ∙ encoded_back b ys)

pub bytes_of-base64url : (bytes : List ℕ) → IsBytes bytes → bytes_of (base64url bytes) ≡ Some bytes
bytes_of-base64url bytes h = rw (encoded_back bytes h, (bytes_eq-Decides (base64url bytes) (base64url bytes)).1 refl) refl

-- ---- what is found are bytes

below_end : (p : ℕ → Bool) (k : ℕ) (xs : List ℕ) → unwrap_or (position_from p k xs) 0 < max 1 (k + length xs)
below_end p k [] = omega arith
below_end p k (x ∷ xs) = found (p x) (below_end p (k + 1) xs)
  where
    found : (b : Bool) → unwrap_or (position_from p (k + 1) xs) 0 < max 1 (k + 1 + length xs) → unwrap_or (cond b (Some k) (position_from p (k + 1) xs)) 0 < max 1 (k + suc (length xs))
    found true h = omega arith
    found false h = omega (arith, h)

six_bits-below : (symbol : ℕ) → six_bits symbol < 64
six_bits-below symbol = below_end (λ s. s == symbol) 0 url_symbols

one_more : (x : ℕ) (xs : List ℕ) → x < 256 → IsBytes xs → IsBytes (x ∷ xs)
one_more x xs lt h zero = lt
one_more x xs lt h (suc i) = h i

none : IsBytes []
none i = omega arith

pub are_bytes : (text : List ℕ) → IsBytes (bytes_from (map six_bits text))
are_bytes [] = none
are_bytes (a ∷ []) = none
are_bytes (a ∷ b ∷ []) = one_more (six_bits a * 4 + six_bits b / 16) [] (omega (arith, six_bits-below a, six_bits-below b)) none
are_bytes (a ∷ b ∷ c ∷ []) =
    let second : ℕ = six_bits b % 16 * 16 + six_bits c / 4 in
    one_more (six_bits a * 4 + six_bits b / 16) (second ∷ []) (omega (arith, six_bits-below a, six_bits-below b)) (one_more second [] (omega (arith, six_bits-below b, six_bits-below c)) none)
are_bytes (a ∷ b ∷ c ∷ d ∷ rest) =
    let second : ℕ = six_bits b % 16 * 16 + six_bits c / 4 in
    let third : ℕ = six_bits c % 4 * 64 + six_bits d in
    let more : List ℕ = bytes_from (map six_bits rest) in
    one_more (six_bits a * 4 + six_bits b / 16) (second ∷ third ∷ more) (omega (arith, six_bits-below a, six_bits-below b))
    (one_more second (third ∷ more) (omega (arith, six_bits-below b, six_bits-below c))
    (one_more third more (omega (arith, six_bits-below c, six_bits-below d)) (are_bytes rest)))

-- what a text's bytes are
pub record HasText (text bytes : List ℕ) : Type 0 where
  pub are : IsBytes bytes
  pub is : text ≡ base64url bytes

pub bytes_of-is : (text bytes : List ℕ) → bytes_of text ≡ Some bytes → HasText text bytes
bytes_of-is text bytes e = tested (bytes_eq (base64url found) text) refl e
  where
    found : List ℕ
    found = bytes_from (map six_bits text)

    tested : (b : Bool) → bytes_eq (base64url found) text ≡ b → cond b (Some found) None ≡ Some bytes → HasText text bytes
    tested true h same =
        let is : found ≡ bytes = cc in
        record { are = subst IsBytes is (are_bytes text); is = sym ((bytes_eq-Decides (base64url found) text).0 h) ∙ ap base64url is }
    tested false h same = cc

-- ---- documents

pub document_of-reads : (bytes : List ℕ) (t : Tree) → ReadsTo bytes t → document_of bytes ≡ Some t
document_of-reads bytes t r = rw (is_utf8-from_IsUtf8 bytes r.has.utf8, r.has.value) r.tree

pub document_of-is : (bytes : List ℕ) (t : Tree) → document_of bytes ≡ Some t → ReadsTo bytes t
document_of-is bytes t e = tested (is_utf8 bytes) refl e
  where
    value : (o : Option json.Data) → read bytes ≡ o → is_utf8 bytes ≡ true → option_and_then tree_from o ≡ Some t → ReadsTo bytes t
    value None h u same = cc
    value (Some d) h u same = record { reading = d; has = record { utf8 = IsUtf8-from_is_utf8 bytes u; value = h }; tree = same }

    tested : (b : Bool) → is_utf8 bytes ≡ b → cond b (option_and_then tree_from (read bytes)) None ≡ Some t → ReadsTo bytes t
    tested true u same = value (read bytes) refl u same
    tested false u same = cc

-- ---- what has no bytes, and no document

pub bytes_of-none : (text : List ℕ) → ((bytes : List ℕ) → IsBytes bytes → text ≢ base64url bytes) → bytes_of text ≡ None
bytes_of-none text none = found (bytes_of text) refl
  where
    found : (o : Option (List ℕ)) → bytes_of text ≡ o → o ≡ None
    found None e = refl
    found (Some bytes) e = let is = bytes_of-is text bytes e in absurd (none bytes is.are is.is)

pub document_of-none : (bytes : List ℕ) → ((t : Tree) → ReadsTo bytes t → ⊥) → document_of bytes ≡ None
document_of-none bytes none = found (document_of bytes) refl
  where
    found : (o : Option Tree) → document_of bytes ≡ o → o ≡ None
    found None e = refl
    found (Some t) e = absurd (none t (document_of-is bytes t e))

-- a text has one reading
pub no_number : (bytes : List ℕ) → HasOtherNumber bytes → (t : Tree) → ReadsTo bytes t → ⊥
no_number bytes other t r =
    let same : other.reading ≡ r.reading = some_same other.reading r.reading (sym other.has.value ∙ r.has.value) in
    clash (sym other.none ∙ (ap tree_from same ∙ r.tree))
  where
    some_same : (a b : json.Data) → Some a ≡ Some b → a ≡ b
    some_same a b e = cc

    clash : None ≡ Some t → ⊥
    clash e = cc
