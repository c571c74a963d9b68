use Rattle.spec_documents.specs.Compact.{compact_text}
use Rattle.spec_documents.proofs.Decoding.{document_of-reads}
use Rattle.spec_documents.proofs.RoundTrip.{reads_back}
use Rattle.spec_documents.proofs.readings.written_documents_are_read.Goals as goal

pub returns : goal.returns
returns c t document shallow = document_of-reads (compact_text t) t (reads_back t document shallow)
