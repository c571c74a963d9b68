-- Texts of the grammars are ASCII.
use Rattle.std.proofs.Common.{◌≡◌, ℕ, ◌+◌, ◌<◌, ◌≤◌, List, [], ◌∷◌, ◌++◌, Bool, true, false, not, ◌&&◌, ◌||◌, ◌==◌, refl, sym, subst, inl, inr, codes, if◌then◌else◌, arith}
use Rattle.std.proofs.lemmas.Bool.{and_parts, and_from, or_cases, leb-true, lt-ltb, ltb-true, eqb-true}
use Rattle.std.proofs.lemmas.Slice.Eq.{bytes_eq-Decides}
use Rattle.std.specs.Prelude.{nat_lt, nat_le, bytes_eq}
use Rattle.std.specs.Char.{is_ascii_digit}
use Rattle.std.specs.Str.{all_ascii_digits}
use Rattle.std.specs.List.{list_all}
use Rattle.json.proofs.Printed.Utf8.{are_ascii}
use Rattle.spec_documents.specs.Place.{is_index}
use Rattle.spec_documents.specs.Text.{is_one_of, is_within, is_alphanumeric, is_uri_byte, is_token_byte, is_visible, is_segment, is_query_byte, is_query_name, is_query_value, is_header_name, lower_byte, lower, is_header_value, is_method, is_scheme, is_authority, is_version, is_identity, is_hex_digit, is_id, index_text}
use Rattle.spec_documents.specs.Hole.{hole_opening, hole_text}
use Rattle.spec_documents.proofs.Digits.{is_index-index_text}

-- ---- bytes

one_of : (set : List ℕ) (b : ℕ) → are_ascii set ≡ true → is_one_of set b ≡ true → b < 128
one_of [] b ascii e = cc
one_of (c ∷ set) b ascii e =
    let p = and_parts (nat_lt c 128) _ ascii in
    elim (or_cases (c == b) _ e) [
      | inl same ↦ subst (λ x. x < 128) (eqb-true c b same) (ltb-true c 128 p.0)
      | inr more ↦ one_of set b p.1 more
    ]

up_to : (low high b : ℕ) → high < 128 → is_within low high b ≡ true → b < 128
up_to low high b bound e = let h : b ≤ high = leb-true b high (and_parts (nat_le low b) (nat_le b high) e).1 in omega arith

digit : (b : ℕ) → is_ascii_digit b ≡ true → b < 128
digit b e = let h : b ≤ 57 = leb-true b 57 (and_parts (nat_le 48 b) (nat_le b 57) e).1 in omega arith

alphanumeric : (b : ℕ) → is_alphanumeric b ≡ true → b < 128
alphanumeric b e = elim (or_cases (is_ascii_digit b) _ e) [
  | inl d ↦ digit b d
  | inr more ↦ elim (or_cases (is_within 65 90 b) _ more) [
    | inl upper ↦ up_to 65 90 b (omega arith) upper
    | inr low ↦ up_to 97 122 b (omega arith) low
  ]
]

uri_byte : (b : ℕ) → is_uri_byte b ≡ true → b < 128
uri_byte b e = elim (or_cases (is_alphanumeric b) _ e) [ inl a ↦ alphanumeric b a | inr mark ↦ one_of (codes "-._~!$&'()*+,;=:@%") b refl mark ]

token_byte : (b : ℕ) → is_token_byte b ≡ true → b < 128
token_byte b e = elim (or_cases (is_alphanumeric b) _ e) [ inl a ↦ alphanumeric b a | inr mark ↦ one_of (codes "!#$%&'*+-.^_`|~") b refl mark ]

query_byte : (b : ℕ) → is_query_byte b ≡ true → b < 128
query_byte b e = elim (or_cases (is_uri_byte b) _ (and_parts _ _ e).0) [ inl a ↦ uri_byte b a | inr mark ↦ one_of (codes "/?") b refl mark ]

hex_digit : (b : ℕ) → is_hex_digit b ≡ true → b < 128
hex_digit b e = elim (or_cases (is_ascii_digit b) _ e) [
  | inl d ↦ digit b d
  | inr more ↦ elim (or_cases (is_within 65 70 b) _ more) [
    | inl upper ↦ up_to 65 70 b (omega arith) upper
    | inr low ↦ up_to 97 102 b (omega arith) low
  ]
]

-- ---- texts

pub ascii_more : (b : ℕ) (s : List ℕ) → b < 128 → are_ascii s ≡ true → are_ascii (b ∷ s) ≡ true
ascii_more b s low e = and_from _ _ (lt-ltb b 128 low) e

pub ascii_append : (r s : List ℕ) → are_ascii r ≡ true → are_ascii s ≡ true → are_ascii (r ++ s) ≡ true
ascii_append [] s d e = e
ascii_append (b ∷ r) s d e = let p = and_parts (nat_lt b 128) _ d in and_from _ _ p.0 (ascii_append r s p.1 e)

all_ascii : (f : ℕ → Bool) → ((b : ℕ) → f b ≡ true → b < 128) → (s : List ℕ) → list_all f s ≡ true → are_ascii s ≡ true
all_ascii f low [] e = refl
all_ascii f low (b ∷ s) e = let p = and_parts (f b) _ e in ascii_more b s (low b p.0) (all_ascii f low s p.1)

pub segment_ascii : (s : List ℕ) → is_segment s ≡ true → are_ascii s ≡ true
segment_ascii s e = all_ascii is_uri_byte uri_byte s e

pub query_name_ascii : (s : List ℕ) → is_query_name s ≡ true → are_ascii s ≡ true
query_name_ascii s e = all_ascii (λ b. is_query_byte b && not (b == 61)) (λ b h. query_byte b (and_parts _ _ h).0) s e

pub query_value_ascii : (s : List ℕ) → is_query_value s ≡ true → are_ascii s ≡ true
query_value_ascii s e = all_ascii is_query_byte query_byte s e

pub header_name_ascii : (s : List ℕ) → is_header_name s ≡ true → are_ascii s ≡ true
header_name_ascii s e = all_ascii is_token_byte token_byte s (and_parts _ _ e).1

pub header_value_ascii : (s : List ℕ) → is_header_value s ≡ true → are_ascii s ≡ true
header_value_ascii s e = all_ascii (λ b. is_within 32 126 b || b == 9) value_byte s e
  where
    value_byte : (b : ℕ) → (is_within 32 126 b || b == 9) ≡ true → b < 128
    value_byte b h = elim (or_cases (is_within 32 126 b) _ h) [ inl seen ↦ up_to 32 126 b (omega arith) seen | inr tab ↦ let is : b ≡ 9 = eqb-true b 9 tab in omega arith ]

pub method_ascii : (s : List ℕ) → is_method s ≡ true → are_ascii s ≡ true
method_ascii s e = all_ascii is_token_byte token_byte s (and_parts _ _ e).1

same_ascii : (r s : List ℕ) → are_ascii r ≡ true → bytes_eq s r ≡ true → are_ascii s ≡ true
same_ascii r s e same = subst (λ t. are_ascii t ≡ true) (sym ((bytes_eq-Decides s r).0 same)) e

pub scheme_ascii : (s : List ℕ) → is_scheme s ≡ true → are_ascii s ≡ true
scheme_ascii s e = elim (or_cases (bytes_eq s (codes "http")) _ e) [ inl a ↦ same_ascii (codes "http") s refl a | inr b ↦ same_ascii (codes "https") s refl b ]

pub authority_ascii : (s : List ℕ) → is_authority s ≡ true → are_ascii s ≡ true
authority_ascii s e = all_ascii (λ b. is_uri_byte b || is_one_of (codes "[]") b) authority_byte s (and_parts _ _ e).1
  where
    authority_byte : (b : ℕ) → (is_uri_byte b || is_one_of (codes "[]") b) ≡ true → b < 128
    authority_byte b h = elim (or_cases (is_uri_byte b) _ h) [ inl a ↦ uri_byte b a | inr mark ↦ one_of (codes "[]") b refl mark ]

visible : (b : ℕ) → is_visible b ≡ true → b < 128
visible b e = up_to 33 126 b (omega arith) e

pub version_ascii : (s : List ℕ) → is_version s ≡ true → are_ascii s ≡ true
version_ascii s e = all_ascii is_visible visible s (and_parts _ _ e).1

-- an identity, or `null`
pub identity_ascii : (s : List ℕ) → (is_identity s || bytes_eq s (codes "null")) ≡ true → are_ascii s ≡ true
identity_ascii s e = elim (or_cases (is_identity s) _ e) [
  | inl one ↦ all_ascii is_visible visible s (and_parts _ _ (and_parts _ _ one).0).1
  | inr none ↦ same_ascii (codes "null") s refl none
]

pub id_ascii : (s : List ℕ) → is_id s ≡ true → are_ascii s ≡ true
id_ascii s e = all_ascii is_hex_digit hex_digit s (and_parts _ _ e).1

pub lower_ascii : (s : List ℕ) → are_ascii s ≡ true → are_ascii (lower s) ≡ true
lower_ascii [] e = refl
lower_ascii (b ∷ s) e = let p = and_parts (nat_lt b 128) _ e in ascii_more (lower_byte b) (lower s) (tested (is_within 65 90 b) refl (ltb-true b 128 p.0)) (lower_ascii s p.1)
  where
    tested : (t : Bool) → is_within 65 90 b ≡ t → b < 128 → (if t then b + 32 else b) < 128
    tested true h low = let bound : b ≤ 90 = leb-true b 90 (and_parts (nat_le 65 b) (nat_le b 90) h).1 in omega arith
    tested false h low = low

-- ---- numbers and holes

digits_ascii : (s : List ℕ) → all_ascii_digits s ≡ true → are_ascii s ≡ true
digits_ascii [] e = refl
digits_ascii (d ∷ s) e = let p = and_parts (is_ascii_digit d) _ e in ascii_more d s (digit d p.0) (digits_ascii s p.1)

is_index_ascii : (s : List ℕ) → is_index s ≡ true → are_ascii s ≡ true
is_index_ascii [] e = cc
is_index_ascii (d ∷ []) e = ascii_more d [] (digit d e) refl
is_index_ascii (d ∷ c ∷ s) e =
    let p = and_parts (is_ascii_digit d && not (d == 48)) _ e in
    ascii_more d (c ∷ s) (digit d (and_parts _ _ p.0).0) (digits_ascii (c ∷ s) p.1)

pub index_ascii : (n : ℕ) → are_ascii (index_text n) ≡ true
index_ascii n = is_index_ascii (index_text n) (is_index-index_text n)

pub hole_ascii : (n : ℕ) → are_ascii (hole_text n) ≡ true
hole_ascii n = ascii_append hole_opening (index_text n ++ codes "}") refl (ascii_append (index_text n) (codes "}") (index_ascii n) refl)
