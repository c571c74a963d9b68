-- The bytes of a text, wherever they stand.
use Rattle.std.specs.Prelude.{List, ℕ, string_bytes}
use Rattle.n32_values.specs.declared.text.Chars.{Chars}
use Rattle.n32_values.specs.declared.text.Chars.TheVariants.{Short, Long}

abbrev pub chars_bytes : Chars → List ℕ
chars_bytes (Short text) = text.bytes
chars_bytes (Long text) = string_bytes text
