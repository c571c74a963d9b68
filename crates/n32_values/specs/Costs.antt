-- How many bytes of a JSON text a byte of a string takes (RFC 8259 section 7, the shortest escapes).
use Rattle.std.specs.Prelude.{ℕ, Bool, ◌||◌, ◌==◌, nat_le, if◌then◌else◌}

-- backspace, form feed, newline, carriage return and tab have a short escape, `\b` and the like
abbrev pub is_short_control : ℕ → Bool
is_short_control b = b == 8 || (b == 12 || (b == 10 || (b == 13 || b == 9)))

abbrev pub byte_cost : ℕ → ℕ
byte_cost b = if (b == 34 || b == 92) || is_short_control b then 2 else (if nat_le 32 b then 1 else 6)
