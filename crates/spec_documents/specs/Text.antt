-- Byte classes and the grammars of texts (URI bytes after RFC 3986 section 3.3, header names, values and methods after RFC 9110 sections 5.1, 5.5 and 9.1; identities and ids are this project's own), and texts cut at a byte.
use Rattle.std.specs.Prelude.{ℕ, ◌+◌, List, [], ◌∷◌, ◌++◌, map, length, Bool, true, false, not, ◌&&◌, ◌||◌, ◌==◌, nat_le, nat_lt, Option, Some, None, if◌then◌else◌, bytes_eq, codes}
use Rattle.std.specs.List.{list_any, list_all}
use Rattle.std.specs.Char.{is_ascii_digit}
use Rattle.std.specs.Int.Digits.{digits_of}
use Rattle.spec_documents.specs.Place.{is_index, index_number}

-- ---- classes of bytes

abbrev pub is_one_of : List ℕ → ℕ → Bool
is_one_of set b = list_any (λ c. c == b) set

abbrev pub is_within : ℕ → ℕ → ℕ → Bool
is_within low high b = nat_le low b && nat_le b high

abbrev pub is_alphanumeric : ℕ → Bool
is_alphanumeric b = is_ascii_digit b || (is_within 65 90 b || is_within 97 122 b)

abbrev pub is_uri_byte : ℕ → Bool
is_uri_byte b = is_alphanumeric b || is_one_of (codes "-._~!$&'()*+,;=:@%") b

abbrev pub is_token_byte : ℕ → Bool
is_token_byte b = is_alphanumeric b || is_one_of (codes "!#$%&'*+-.^_`|~") b

abbrev pub is_visible : ℕ → Bool
is_visible b = is_within 33 126 b

abbrev pub has_length : ℕ → ℕ → List ℕ → Bool
has_length low high s = is_within low high (length s)

-- ---- texts

abbrev pub is_segment : List ℕ → Bool
is_segment s = list_all is_uri_byte s

abbrev pub is_query_byte : ℕ → Bool
is_query_byte b = (is_uri_byte b || is_one_of (codes "/?") b) && not (b == 38)

abbrev pub is_query_name : List ℕ → Bool
is_query_name s = list_all (λ b. is_query_byte b && not (b == 61)) s

abbrev pub is_query_value : List ℕ → Bool
is_query_value s = list_all is_query_byte s

abbrev pub is_header_name : List ℕ → Bool
is_header_name s = has_length 1 255 s && list_all is_token_byte s

abbrev pub lower_byte : ℕ → ℕ
lower_byte b = if is_within 65 90 b then b + 32 else b

abbrev pub lower : List ℕ → List ℕ
lower s = map lower_byte s

abbrev pub is_header_value : List ℕ → Bool
is_header_value s = list_all (λ b. is_within 32 126 b || b == 9) s

abbrev pub is_method : List ℕ → Bool
is_method s = has_length 1 15 s && list_all is_token_byte s

abbrev pub is_scheme : List ℕ → Bool
is_scheme s = bytes_eq s (codes "http") || bytes_eq s (codes "https")

abbrev pub is_authority : List ℕ → Bool
is_authority s = nat_lt 0 (length s) && list_all (λ b. is_uri_byte b || is_one_of (codes "[]") b) s

abbrev pub is_version : List ℕ → Bool
is_version s = has_length 1 16 s && list_all is_visible s

abbrev pub is_identity : List ℕ → Bool
is_identity s = (has_length 1 255 s && list_all is_visible s) && not (bytes_eq s (codes "null"))

-- an identity, or the text `null`
abbrev pub is_node_name : List ℕ → Bool
is_node_name s = is_identity s || bytes_eq s (codes "null")

abbrev pub is_hex_digit : ℕ → Bool
is_hex_digit b = is_ascii_digit b || (is_within 65 70 b || is_within 97 102 b)

-- an id of 16 hexadecimal digits
abbrev pub is_id : List ℕ → Bool
is_id s = (length s == 16) && list_all is_hex_digit s

-- ---- numbers

-- a number in decimal digits
abbrev pub index_text : ℕ → List ℕ
index_text n = if n == 0 then 48 ∷ [] else map (λ d. d + 48) (digits_of 10 n)

-- three digits, from 100 on
abbrev pub status_of : List ℕ → Option ℕ
status_of s = if is_index s && (length s == 3) then Some (index_number s) else None

-- ---- cuts

abbrev pub onto_first : ℕ → List (List ℕ) → List (List ℕ)
onto_first b [] = (b ∷ []) ∷ []
onto_first b (p ∷ ps) = (b ∷ p) ∷ ps

-- the pieces between the bytes c, one more than there are such bytes
abbrev pub pieces : ℕ → List ℕ → List (List ℕ)
pieces c [] = [] ∷ []
pieces c (b ∷ bs) = if b == c then [] ∷ pieces c bs else onto_first b (pieces c bs)

abbrev pub joined : ℕ → List (List ℕ) → List ℕ
joined c [] = []
joined c (p ∷ []) = p
joined c (p ∷ q ∷ ps) = p ++ c ∷ joined c (q ∷ ps)

-- what stands before the first byte c, and what stands after it, if there is one
abbrev pub onto_front : ℕ → List ℕ × Option (List ℕ) → List ℕ × Option (List ℕ)
onto_front b cut = (b ∷ cut.0, cut.1)

abbrev pub cut_at : ℕ → List ℕ → List ℕ × Option (List ℕ)
cut_at c [] = ([], None)
cut_at c (b ∷ bs) = if b == c then ([], Some bs) else onto_front b (cut_at c bs)

abbrev pub begins : List ℕ → List ℕ → Bool
begins [] s = true
begins (c ∷ cs) [] = false
begins (c ∷ cs) (b ∷ bs) = (c == b) && begins cs bs

abbrev pub contains_text : List ℕ → List ℕ → Bool
contains_text part [] = begins part []
contains_text part (b ∷ bs) = begins part (b ∷ bs) || contains_text part bs
