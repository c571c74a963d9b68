use Rattle.spec_handshake.proofs.Depth.{document_level}
use Rattle.spec_handshake.proofs.ReadBack.{document_back}
use Rattle.spec_handshake.proofs.documents.written_document_is_read.Goals as goal

pub returns-clause-shallow : goal.returns-clause-shallow
returns-clause-shallow c = document_level

pub returns-clause-read : goal.returns-clause-read
returns-clause-read c = document_back
