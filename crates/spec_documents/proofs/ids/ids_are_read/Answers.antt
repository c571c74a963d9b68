use Rattle.spec_documents.proofs.IdLemmas.{id_of-id_text}
use Rattle.spec_documents.proofs.ids.ids_are_read.Goals as goal

pub returns : goal.returns
returns c = id_of-id_text
