use Rattle.spec_messages.proofs.WholeRead.{read_whole}
use Rattle.spec_messages.proofs.messages.what_is_read_is_whole.Goals as goal

pub returns : goal.returns
returns c = λ t m e. read_whole t m e
