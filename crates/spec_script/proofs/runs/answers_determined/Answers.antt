use Rattle.spec_script.specs.Events.{line_event}
use Rattle.spec_script.proofs.FaultLemmas.{line_determined}
use Rattle.spec_script.proofs.runs.answers_determined.Goals as goal

pub returns : goal.returns
returns c m s f by line e = line_determined m s f by (line_event line) e
