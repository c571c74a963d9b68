use Rattle.std.proofs.Common.{refl}
use Rattle.json.specs.Print.{escape_byte}
use Rattle.spec_documents.specs.Ids.{id_text}
use Rattle.spec_reports.proofs.rows.document_rows.Goals as goal

pub returns-clause-plain : goal.returns-clause-plain
unfolding escape_byte id_text
returns-clause-plain c = refl

pub returns-clause-named : goal.returns-clause-named
unfolding escape_byte id_text
returns-clause-named c = refl
