use Rattle.spec_documents.specs.Tree.{members}
use Rattle.http_message.proofs.WholeRead.{reads_whole}
use Rattle.http_message.proofs.read.take_message.Goals as goal

pub returns-in-Members-clause-whole : goal.returns-in-Members-clause-whole
returns-in-Members-clause-whole c = reads_whole c.moved_parts.result (members c.in-Members.map) c.moved_parts.ensures
