use Rattle.spec_exchange.proofs.IsolationLemmas.{same_delivery}
use Rattle.spec_exchange.proofs.runs.replays_name_one_record.Goals as goal

pub returns : goal.returns
returns c = same_delivery
