use Rattle.std.proofs.Common.{refl}
use Rattle.spec_documents.specs.Chain.{◌>>=◌}
use Rattle.spec_documents.specs.Ids.{id_text}
use Rattle.spec_handshake.proofs.rows.handshake_rows.Goals as goal

pub returns-clause-opened : goal.returns-clause-opened
unfolding ◌>>=◌ id_text
returns-clause-opened c = refl

pub returns-clause-waiting : goal.returns-clause-waiting
unfolding ◌>>=◌ id_text
returns-clause-waiting c = refl

pub returns-clause-again : goal.returns-clause-again
unfolding ◌>>=◌ id_text
returns-clause-again c = refl

pub returns-clause-used : goal.returns-clause-used
unfolding ◌>>=◌ id_text
returns-clause-used c = refl

pub returns-clause-unkept : goal.returns-clause-unkept
unfolding ◌>>=◌ id_text
returns-clause-unkept c = refl

pub returns-clause-untold : goal.returns-clause-untold
unfolding ◌>>=◌ id_text
returns-clause-untold c = refl
