use Rattle.spec_messages.proofs.SentDepth.{sent-low}
use Rattle.spec_messages.proofs.plain.sent_block_is_shallow.Goals as goal

pub returns : goal.returns
returns c pol k m meta d = sent-low pol k m meta d
