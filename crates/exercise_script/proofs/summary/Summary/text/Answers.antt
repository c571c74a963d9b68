use Rattle.std.proofs.Common.{◌∙◌, ap}
use Rattle.hex.specs.Hex.{encode_lower}
use Rattle.exercise_script.proofs.Sums.{summary_is}
use Rattle.exercise_script.proofs.summary.Summary.text.Goals as goal

pub returns : goal.returns
returns c = λ answers taken few. summary_is c.args.self c.args.messages answers c.as_str.result.now _ taken few
    (c.as_str.ensures.value ∙ c.in_ok-digest.ensures ∙ ap encode_lower (c.finalize.ensures _ taken.lines_are))
    c.in_ok-text.ensures
