-- UTF-8 texts are bytes, and the text of a pointer is UTF-8.
use Rattle.std.proofs.Common.{◌≡◌, ℕ, zero, suc, ◌+◌, ◌/◌, ◌<◌, ◌≤◌, List, [], ◌∷◌, ◌++◌, map, length, get_or, Bool, true, false, ◌==◌, cond, IsUtf8, refl, sym, ap, ◌∙◌, subst, inl, inr, append_assoc, append-nil, if◌then◌else◌, arith}
use Rattle.std.proofs.lemmas.Bool.{and_parts, ltb-true, lt-ltb, cases_lt, ne_eqb}
use Rattle.std.proofs.lemmas.Str.{IsUtf8-append, IsUtf8-nil, IsUtf8-encode, encode_ascii, inside_one}
use lib.Dec.{ltb}
use lib.Utf8.{scalar, scalars, encode, encodes, next, scalar_cases}
use Rattle.base64.specs.GeneralPurpose.{IsBytes}
use Rattle.json.proofs.Printed.Utf8.{are_ascii, IsUtf8-are_ascii}
use Rattle.spec_documents.specs.Tree.{Tree, depth}
use Rattle.spec_documents.specs.Document.{IsDocument}
use Rattle.spec_documents.specs.Compact.{compact_text}
use Rattle.spec_documents.specs.Place.{Pointer, escaped, pointer_text}
use Rattle.spec_documents.proofs.RoundTrip.{reads_back}

-- ---- bytes

pub no_bytes : IsBytes []
no_bytes i = omega arith

pub bytes_more : (x : ℕ) (xs : List ℕ) → x < 256 → IsBytes xs → IsBytes (x ∷ xs)
bytes_more x xs low h zero = low
bytes_more x xs low h (suc i) = h i

pub bytes_append : (xs ys : List ℕ) → IsBytes xs → IsBytes ys → IsBytes (xs ++ ys)
bytes_append [] ys h k = k
bytes_append (x ∷ xs) ys h k = bytes_more x (xs ++ ys) (h 0) (bytes_append xs ys (λ i. h (suc i)) k)

pub bytes_map : (f : ℕ → ℕ) → ((x : ℕ) → f x < 256) → (xs : List ℕ) → IsBytes (map f xs)
bytes_map f low [] = no_bytes
bytes_map f low (x ∷ xs) = bytes_more (f x) (map f xs) (low x) (bytes_map f low xs)

-- ---- UTF-8

last : (c : ℕ) → IsBytes (next c ∷ [])
last c = bytes_more (next c) [] (omega arith) no_bytes

encode_bytes : (c : ℕ) → c < 1114112 → IsBytes (encode c)
unfolding encode
encode_bytes c bound = tested (ltb c 128) (ltb c 2048) (ltb c 65536) refl refl refl
  where
    tested : (x y z : Bool) → ltb c 128 ≡ x → ltb c 2048 ≡ y → ltb c 65536 ≡ z
        → IsBytes (cond x (c ∷ []) (cond y ((192 + c / 64) ∷ next c ∷ []) (cond z ((224 + c / 4096) ∷ next (c / 64) ∷ next c ∷ []) ((240 + c / 262144) ∷ next (c / 4096) ∷ next (c / 64) ∷ next c ∷ []))))
    tested true y z a b d = let low : c < 128 = ltb-true c 128 a in bytes_more c [] (omega arith) no_bytes
    tested false true z a b d = let low : c < 2048 = ltb-true c 2048 b in bytes_more (192 + c / 64) (next c ∷ []) (omega arith) (last c)
    tested false false true a b d = let low : c < 65536 = ltb-true c 65536 d in bytes_more (224 + c / 4096) (next (c / 64) ∷ next c ∷ []) (omega arith) (bytes_more (next (c / 64)) (next c ∷ []) (omega arith) (last c))
    tested false false false a b d =
        bytes_more (240 + c / 262144) (next (c / 4096) ∷ next (c / 64) ∷ next c ∷ []) (omega arith)
        (bytes_more (next (c / 4096)) (next (c / 64) ∷ next c ∷ []) (omega arith) (bytes_more (next (c / 64)) (next c ∷ []) (omega arith) (last c)))

scalar_bound : (c : ℕ) → scalar c ≡ true → c < 1114112
scalar_bound c e = elim (scalar_cases c e) [ inl low ↦ omega arith | inr high ↦ high.1 ]

encodes_bytes : (cs : List ℕ) → scalars cs ≡ true → IsBytes (encodes cs)
encodes_bytes [] e = no_bytes
encodes_bytes (c ∷ cs) e = let p = and_parts (scalar c) _ e in bytes_append (encode c) (encodes cs) (encode_bytes c (scalar_bound c p.0)) (encodes_bytes cs p.1)

pub utf8_bytes : (s : List ℕ) → IsUtf8 s → IsBytes s
utf8_bytes s u = subst IsBytes u.1.1 (encodes_bytes u.0 u.1.0)

-- the text of a document
pub text_bytes : (t : Tree) → IsDocument t → depth t ≤ 127 → IsBytes (compact_text t)
text_bytes t d shallow = utf8_bytes (compact_text t) (reads_back t d shallow).has.utf8

-- ---- pointers

escaped-append : (xs ys : List ℕ) → escaped (xs ++ ys) ≡ escaped xs ++ escaped ys
escaped-append [] ys = refl
escaped-append (x ∷ xs) ys = ap (λ l. (if x == 126 then 126 ∷ 48 ∷ [] else (if x == 47 then 126 ∷ 49 ∷ [] else x ∷ [])) ++ l) (escaped-append xs ys) ∙ sym (append_assoc (if x == 126 then 126 ∷ 48 ∷ [] else (if x == 47 then 126 ∷ 49 ∷ [] else x ∷ [])) _ _)

escaped_byte : (x : ℕ) → x < 128 → are_ascii (escaped (x ∷ [])) ≡ true
escaped_byte x low = tested (x == 126) (x == 47)
  where
    tested : (a b : Bool) → are_ascii ((if a then 126 ∷ 48 ∷ [] else (if b then 126 ∷ 49 ∷ [] else x ∷ [])) ++ []) ≡ true
    tested true b = refl
    tested false true = refl
    tested false false = rw (lt-ltb x 128 low) refl

escaped_high : (xs : List ℕ) → ((k : ℕ) → k < length xs → 128 ≤ get_or xs k 0) → escaped xs ≡ xs
escaped_high [] h = refl
escaped_high (x ∷ xs) h =
    let high : 128 ≤ x = h 0 (omega arith) in
    rw (ne_eqb x 126 (λ e. omega arith), ne_eqb x 47 (λ e. omega arith)) (ap (λ l. x ∷ l) (escaped_high xs (λ k below. h (suc k) (omega arith))))

one_char : (c : ℕ) → scalar c ≡ true → IsUtf8 (escaped (encode c))
one_char c ok = elim (cases_lt c 128) [
  | inl small ↦ rw (encode_ascii c small) (IsUtf8-are_ascii _ (escaped_byte c small))
  | inr big ↦
      let high : (k : ℕ) → k < length (encode c) → 128 ≤ get_or (encode c) k 0 = λ k below. elim (cases_lt (get_or (encode c) k 0) 128) [
        | inl low ↦ absurd (omega (arith, inside_one c [] (encode c) k (sym (append-nil _)) below low))
        | inr h ↦ h
      ] in
      subst IsUtf8 (sym (escaped_high (encode c) high)) (IsUtf8-encode c ok)
]

all_chars : (cs : List ℕ) → scalars cs ≡ true → IsUtf8 (escaped (encodes cs))
all_chars [] e = IsUtf8-nil
all_chars (c ∷ cs) e =
    let p = and_parts (scalar c) _ e in
    subst IsUtf8 (sym (escaped-append (encode c) (encodes cs))) (IsUtf8-append _ _ (one_char c p.0) (all_chars cs p.1))

escaped_utf8 : (s : List ℕ) → IsUtf8 s → IsUtf8 (escaped s)
escaped_utf8 s u = subst (λ l. IsUtf8 (escaped l)) u.1.1 (all_chars u.0 u.1.0)

-- each token is UTF-8
abbrev pub AreTokens : Pointer → Type 0
AreTokens [] = Unit {0}
AreTokens (x ∷ p) = IsUtf8 x × AreTokens p

pub tokens_more : (p : Pointer) (x : List ℕ) → AreTokens p → IsUtf8 x → AreTokens (p ++ x ∷ [])
tokens_more [] x h u = (u, tt)
tokens_more (y ∷ p) x h u = (h.0, tokens_more p x h.1 u)

pub pointer_utf8 : (p : Pointer) → AreTokens p → IsUtf8 (pointer_text p)
pointer_utf8 [] h = IsUtf8-nil
pointer_utf8 (x ∷ p) h = IsUtf8-append (47 ∷ []) _ (IsUtf8-are_ascii (47 ∷ []) refl) (IsUtf8-append (escaped x) _ (escaped_utf8 x h.0) (pointer_utf8 p h.1))
