-- base64url without padding (RFC 4648 section 5).
use Rattle.std.specs.Prelude.{ℕ, ◌+◌, ◌*◌, ◌/◌, ◌%◌, ◌==◌, List, [], ◌∷◌, map, Option, Some, None, unwrap_or, if◌then◌else◌, bytes_eq, codes}
use Rattle.std.specs.List.{position_from}
use Rattle.base64.specs.Rfc4648.{encode_symbols}

-- the 64 characters of its alphabet
abbrev pub url_symbols : List ℕ
url_symbols = codes "ABCDEFGHIJKLMNOPQRSTUVWXYZabcdefghijklmnopqrstuvwxyz0123456789-_"

-- the text of some bytes
abbrev pub base64url : List ℕ → List ℕ
base64url bytes = encode_symbols url_symbols bytes

-- the six bits that a symbol stands for (section 5); another byte counts as 0
abbrev pub six_bits : ℕ → ℕ
six_bits symbol = unwrap_or (position_from (λ s. s == symbol) 0 url_symbols) 0

-- four times six bits are three bytes; two or three at the end are one or two bytes
abbrev pub bytes_from : List ℕ → List ℕ
bytes_from [] = []
bytes_from (a ∷ []) = []
bytes_from (a ∷ b ∷ []) = (a * 4 + b / 16) ∷ []
bytes_from (a ∷ b ∷ c ∷ []) = (a * 4 + b / 16) ∷ (b % 16 * 16 + c / 4) ∷ []
bytes_from (a ∷ b ∷ c ∷ d ∷ rest) = (a * 4 + b / 16) ∷ (b % 16 * 16 + c / 4) ∷ (c % 4 * 64 + d) ∷ bytes_from rest

-- the bytes whose base64url text this is, without padding or spare bits
abbrev pub bytes_of : List ℕ → Option (List ℕ)
bytes_of text =
    let bytes = bytes_from (map six_bits text) in
    if bytes_eq (base64url bytes) text then Some bytes else None
