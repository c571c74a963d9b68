use Rattle.std.proofs.Common.{refl}
use Rattle.std.specs.Fmt.{digits}
use Rattle.json.specs.Print.{escape_byte}
use Rattle.spec_documents.specs.Ids.{id_text}
use Rattle.spec_records.proofs.rows.document_rows.Goals as goal

pub returns-clause-offered : goal.returns-clause-offered
unfolding escape_byte id_text
returns-clause-offered c = refl

pub returns-clause-sent : goal.returns-clause-sent
unfolding escape_byte digits id_text
returns-clause-sent c = refl

pub returns-clause-delivered : goal.returns-clause-delivered
unfolding escape_byte digits id_text
returns-clause-delivered c = refl
