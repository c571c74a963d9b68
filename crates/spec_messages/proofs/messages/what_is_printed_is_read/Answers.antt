use Rattle.spec_messages.proofs.PrintedRead.{printed_read}
use Rattle.spec_messages.proofs.messages.what_is_printed_is_read.Goals as goal

pub returns : goal.returns
returns c = λ m w. printed_read m w
