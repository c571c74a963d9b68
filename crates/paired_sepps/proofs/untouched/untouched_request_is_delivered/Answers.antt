use Rattle.spec_exchange.specs.Calls.{Asks}
use Rattle.paired_sepps.proofs.untouched.untouched_request_is_delivered.Goals as goal

pub returns : goal.returns
returns c = c.untouched_message_is_delivered.ensures Asks c.requires.kind tt
