use Rattle.std.proofs.Common.{◌++◌, ◌∙◌, ap, codes}
use Rattle.std.specs.Fmt.{styled_decimal}
use Rattle.exercise_script.proofs.Digits.{padded_to_fifteen}
use Rattle.exercise_script.proofs.turn.path.Goals as goal

pub returns : goal.returns
returns c =
    c.from_string.ensures ∙ c.in_ok-format.ensures.ok
    ∙ ap (λ digits. codes "/n/v1/u/imsi-" ++ digits) (ap (λ s. styled_decimal s c.args.turn) c.laid_out.ensures ∙ padded_to_fifteen c.args.turn)
