use Rattle.std.proofs.Common.{arith}
use Rattle.spec_exchange.proofs.RunLemmas.{alone, numbered-once}
use Rattle.spec_exchange.proofs.runs.numbered_once.Goals as goal

pub returns-clause-once : goal.returns-clause-once
returns-clause-once c passes records events node id kind seq = omega (arith, numbered-once passes records events node id kind seq)

pub returns-clause-held : goal.returns-clause-held
returns-clause-held c passes records events node id kind seq e = alone _ _ (numbered-once passes records events node id kind seq) e
