use Rattle.std.proofs.Common.{None}
use Rattle.spec_exchange.specs.EntryChecks.{by_meaning}
use Rattle.spec_exchange.proofs.EntryLemmas.{accepting_fails, by_meaning-never}
use Rattle.spec_exchange.proofs.accepting.verifier_failure_is_one.Goals as goal

pub returns-clause-fails : goal.returns-clause-fails
returns-clause-fails c = accepting_fails

pub returns-clause-meant : goal.returns-clause-meant
returns-clause-meant c passes meaning records node t number e = by_meaning-never meaning number (accepting_fails passes (by_meaning meaning None) records node t number e)
