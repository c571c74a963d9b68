use Rattle.std.proofs.Common.{arith}
use Rattle.spec_exchange.proofs.RunLemmas.{alone}
use Rattle.spec_script.proofs.OutputLemmas.{run-numbered}
use Rattle.spec_script.proofs.runs.numbered_once.Goals as goal

pub returns-clause-once : goal.returns-clause-once
returns-clause-once c m s n lines answers last h node id kind seq = omega (arith, run-numbered m s n lines answers last h node id kind seq)

pub returns-clause-held : goal.returns-clause-held
returns-clause-held c m s n lines answers last h node id kind seq e = alone _ _ (run-numbered m s n lines answers last h node id kind seq) e
