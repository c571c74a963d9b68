use Rattle.spec_exchange.specs.Calls.{Replies}
use Rattle.paired_sepps.proofs.untouched.untouched_reply_is_delivered.Goals as goal

pub returns : goal.returns
returns c = c.untouched_message_is_delivered.ensures (Replies c.args.answers.value) c.requires.kind c.has_64_bits.ensures
