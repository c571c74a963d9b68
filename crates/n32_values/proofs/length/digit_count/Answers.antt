use Rattle.std.proofs.Common.{◌≡◌, ◌+◌, ◌-◌, ◌/◌, ap, ◌∙◌, arith}
use Rattle.n32_values.proofs.Lengths.{digit_number, decimal_length, last_digit, more_digits, no_digits}
use Rattle.n32_values.proofs.length.digit_count.Goals as goal

pub returns-then-left-lt10-clause-value : goal.returns-then-left-lt10-clause-value
returns-then-left-lt10-clause-value c = omega (arith, last_digit (64 - c.digits.turn) c.digits.left (omega arith) (omega arith), c.digits.invariant, decimal_length c.args.number)

pub digits-preserved : goal.digits-preserved
digits-preserved c =
    let less : (64 - c.digits.turn) - 1 ≡ 64 - (c.digits.turn + 1) = omega arith in
    let more = more_digits (64 - c.digits.turn) c.digits.left (omega arith) (omega arith) ∙ ap (λ k. digit_number k (c.digits.left / 10) + 1) less in
    omega (arith, more, c.digits.invariant)

pub returns-clause-value : goal.returns-clause-value
returns-clause-value c =
    let all : 64 - c.digits.turn ≡ 0 = omega arith in
    let none = ap (λ k. digit_number k c.digits.left) all ∙ no_digits c.digits.left in
    omega (arith, none, c.digits.invariant, decimal_length c.args.number)
