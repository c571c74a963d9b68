-- A number in 15 digits, as the formatter pads it.
use Rattle.std.proofs.Common.{◌≡◌, ℕ, ◌-◌, List, [], ◌++◌, length, replicate, ap, append-nil, ◌∙◌, arith}
use Rattle.std.specs.Fmt.{decimal, styled_decimal, padded_integral, char_count, format_spec}
use Rattle.spec_exercise.specs.Documents.{fifteen_digits}

nothing_taken : (n : ℕ) → n - 0 - 0 ≡ n
nothing_taken n = omega arith

pub padded_to_fifteen : (n : ℕ) → styled_decimal (format_spec 32 0 4 15 18446744073709551615) n ≡ fifteen_digits n
unfolding padded_integral char_count
padded_to_fifteen n =
    ap (λ zeros. replicate zeros 48 ++ (decimal n ++ [])) (nothing_taken (15 - length (decimal n)))
    ∙ ap (λ tail. replicate (15 - length (decimal n)) 48 ++ tail) (append-nil (decimal n))
