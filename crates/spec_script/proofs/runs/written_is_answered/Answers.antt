use Rattle.spec_script.proofs.OutputLemmas.{run-written}
use Rattle.spec_script.proofs.runs.written_is_answered.Goals as goal

pub returns : goal.returns
returns c m s n lines out last h = let w = run-written m s n lines out last h in (w.answers, w.answered, w.text)
