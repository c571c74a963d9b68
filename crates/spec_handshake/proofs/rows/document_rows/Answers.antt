use Rattle.std.proofs.Common.{refl}
use Rattle.json.specs.Print.{escape_byte}
use Rattle.spec_documents.specs.Ids.{id_text}
use Rattle.spec_handshake.proofs.rows.document_rows.Goals as goal

pub returns-clause-supports : goal.returns-clause-supports
unfolding escape_byte id_text
returns-clause-supports c = refl

pub returns-clause-chooses : goal.returns-clause-chooses
unfolding escape_byte id_text
returns-clause-chooses c = refl

pub returns-clause-asks : goal.returns-clause-asks
unfolding escape_byte id_text
returns-clause-asks c = refl

pub returns-clause-selects : goal.returns-clause-selects
unfolding escape_byte id_text
returns-clause-selects c = refl

pub returns-clause-terminates : goal.returns-clause-terminates
unfolding escape_byte id_text
returns-clause-terminates c = refl

pub returns-clause-terminated : goal.returns-clause-terminated
unfolding escape_byte id_text
returns-clause-terminated c = refl
