use Rattle.spec_script.proofs.OutputLemmas.{run-grown}
use Rattle.spec_script.proofs.runs.records_grow.Goals as goal

pub returns : goal.returns
returns c m s n lines answers last h = let g = run-grown m s n lines answers last h in (g.more, g.are, g.most)
