use Rattle.std.proofs.Common.{arith}
use Rattle.spec_exchange.proofs.RunLemmas.{alone}
use Rattle.spec_script.proofs.OutputLemmas.{run-delivered}
use Rattle.spec_script.proofs.runs.delivered_at_most_once.Goals as goal

pub returns-clause-once : goal.returns-clause-once
returns-clause-once c m s n lines answers last h node id kind message = omega (arith, run-delivered m s n lines answers last h node id kind message)

pub returns-clause-held : goal.returns-clause-held
returns-clause-held c m s n lines answers last h node id kind message e = alone _ _ (run-delivered m s n lines answers last h node id kind message) e
