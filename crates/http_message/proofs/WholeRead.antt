-- What is read is whole.
use Rattle.std.proofs.Common.{Result, Ok, Err}
use Rattle.std.specs.Prelude.{IsTrue, IfOk}
use Rattle.spec_documents.specs.Tree.{Tree}
use Rattle.spec_messages.specs.Message.{message_of, is_whole}
use Rattle.spec_messages.proofs.WholeRead.{read_whole}
use Rattle.http_message.specs.Reading.{Reads, message_view}
use Rattle.http_message.specs.declared.message.Message.{Message}
use Rattle.http_message.specs.declared.refusal.MessageRead.{MessageRead}

pub reads_whole : (r : Result Message MessageRead) (t : Tree) → Reads r (message_of t) → IfOk r (λ m. IsTrue (is_whole (message_view m)))
reads_whole (Ok m) t h = read_whole t (message_view m) h.0
reads_whole (Err e) t h = tt
