-- The bytes that may be the front of a record's text (this project's own).
use Rattle.std.specs.Prelude.{ℕ, List, [], ◌∷◌, Bool, true, ◌&&◌, ◌||◌, ◌==◌, nat_le, codes}

-- a hexadecimal digit in lower case (RFC 4648 section 8)
abbrev pub is_digit : ℕ → Bool
is_digit byte = (nat_le 48 byte && nat_le byte 57) || (nat_le 97 byte && nat_le byte 102)

-- the byte of a pattern; its 0 (48) stands for any digit
abbrev pub fits_byte : ℕ → ℕ → Bool
fits_byte byte wanted = (byte == wanted) || ((wanted == 48) && is_digit byte)

-- a text is as the pattern, so far as both go
abbrev pub agrees : List ℕ → List ℕ → Bool
agrees [] pattern = true
agrees (byte ∷ text) [] = true
agrees (byte ∷ text) (wanted ∷ pattern) = fits_byte byte wanted && agrees text pattern

-- a record's text begins with its id and its kind, or with its first number
abbrev pub may_begin_record : List ℕ → Bool
may_begin_record text = agrees text (codes "{\"id\":\"0000000000000000\",\"is\":\"") || agrees text (codes "{\"first\":0")
