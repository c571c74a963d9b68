use Rattle.spec_documents.proofs.Decoding.{document_of-reads, document_of-is, document_of-none, no_number}
use Rattle.spec_documents.proofs.readings.documents_are_read.Goals as goal

pub returns-clause-there : goal.returns-clause-there
returns-clause-there c bytes t r = document_of-reads bytes t r

pub returns-clause-read : goal.returns-clause-read
returns-clause-read c bytes t e = document_of-is bytes t e

pub returns-clause-syntax : goal.returns-clause-syntax
returns-clause-syntax c bytes none = document_of-none bytes (λ t r. none r.reading r.has)

pub returns-clause-number : goal.returns-clause-number
returns-clause-number c bytes other = document_of-none bytes (no_number bytes other)
