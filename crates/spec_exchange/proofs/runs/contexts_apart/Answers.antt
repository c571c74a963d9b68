use Rattle.spec_exchange.proofs.IsolationLemmas.{apart}
use Rattle.spec_exchange.proofs.runs.contexts_apart.Goals as goal

pub returns : goal.returns
returns c = apart
