-- Ids of 16 hexadecimal digits, and the ids of operators' networks.
use Rattle.std.specs.Prelude.{ℕ, zero, suc, ◌+◌, ◌-◌, ◌*◌, ◌/◌, ◌%◌, ◌^◌, List, [], ◌∷◌, Bool, ◌&&◌, nat_lt, Option, Some, None, if◌then◌else◌}
use Rattle.std.specs.List.{list_all}
use Rattle.std.specs.Char.{is_ascii_digit}
use Rattle.spec_documents.specs.Text.{is_within, has_length, is_id}

-- the value of a hexadecimal digit of either case
abbrev pub hex_value : ℕ → ℕ
hex_value b = if is_within 65 70 b then b - 55 else (if is_within 97 102 b then b - 87 else b - 48)

abbrev pub hex_after : ℕ → List ℕ → ℕ
hex_after n [] = n
hex_after n (d ∷ ds) = hex_after (16 * n + hex_value d) ds

-- the id that a text is: the number of its 16 digits
abbrev pub id_of : List ℕ → Option ℕ
id_of s = if is_id s then Some (hex_after 0 s) else None

abbrev pub hex_digit : ℕ → ℕ
hex_digit v = if nat_lt v 10 then v + 48 else v + 87

-- the last digits of a number, so many of them, in lower case
abbrev pub hex_digits : ℕ → ℕ → List ℕ
hex_digits zero n = []
hex_digits (suc count) n = hex_digit (n / 16 ^ count % 16) ∷ hex_digits count n

-- the text of an id
unfoldable pub id_text : ℕ → List ℕ
id_text n = hex_digits 16 n

-- 5 or 6 decimal digits
abbrev pub is_plmn : List ℕ → Bool
is_plmn s = has_length 5 6 s && list_all is_ascii_digit s

abbrev pub plmn_of : List ℕ → Option (List ℕ)
plmn_of s = if is_plmn s then Some s else None
