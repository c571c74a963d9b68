use Rattle.std.proofs.Common.{◌∙◌}
use Rattle.std.specs.Fmt.{decimal}
use Rattle.exercise_script.proofs.Sums.{lines_join}
use Rattle.exercise_script.proofs.summary.five_lines.Goals as goal

pub returns : goal.returns
returns c = c.from_string.ensures ∙ c.in_ok-format.ensures.ok
    ∙ lines_join (decimal c.args.messages) (decimal c.args.answers) (decimal c.args.delivered) (decimal c.args.refused) c.args.digest.now
