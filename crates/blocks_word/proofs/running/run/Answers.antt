use Rattle.blocks_word.proofs.BlockLemmas.{runs_told}
use Rattle.blocks_word.proofs.running.run.Goals as goal

pub returns-clause-runs : goal.returns-clause-runs
returns-clause-runs g c = runs_told (g.S.Source.left c.args.source.now) _ _ _ _ _ _ c.run.ensures.script c.run.ensures.complete c.run.ensures.taken
