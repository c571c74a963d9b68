use Rattle.std.proofs.Common.{◌≡◌, ◌+◌, ◌-◌}
use Rattle.n32_values.proofs.Lengths.{digit_number}
use Rattle.n32_values.proofs.length.digit_count.Given as goal

abbrev pub invariant-digits : goal.invariant-digits
invariant-digits l = digit_number (64 - l.turn) l.left + l.turn ≡ digit_number 64 l.number
