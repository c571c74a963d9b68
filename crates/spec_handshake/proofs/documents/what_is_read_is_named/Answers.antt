use Rattle.spec_handshake.proofs.NamesRead.{document_named-is}
use Rattle.spec_handshake.proofs.documents.what_is_read_is_named.Goals as goal

pub returns : goal.returns
returns c = document_named-is
