use Rattle.std.proofs.Common.{arith}
use Rattle.spec_exchange.proofs.RunLemmas.{alone, delivered-once}
use Rattle.spec_exchange.proofs.runs.delivered_at_most_once.Goals as goal

pub returns-clause-once : goal.returns-clause-once
returns-clause-once c passes records events node id kind message = omega (arith, delivered-once passes records events node id kind message)

pub returns-clause-held : goal.returns-clause-held
returns-clause-held c passes records events node id kind message e = alone _ _ (delivered-once passes records events node id kind message) e
