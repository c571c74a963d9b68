use Rattle.std.proofs.Common.{refl}
use Rattle.spec_documents.specs.Chain.{◌>>=◌}
use Rattle.spec_documents.specs.Ids.{id_text}
use Rattle.spec_handshake.proofs.rows.termination_rows.Goals as goal

pub returns-clause-terminate : goal.returns-clause-terminate
unfolding ◌>>=◌ id_text
returns-clause-terminate c = refl

pub returns-clause-ended : goal.returns-clause-ended
unfolding ◌>>=◌ id_text
returns-clause-ended c = refl

pub returns-clause-expected : goal.returns-clause-expected
unfolding ◌>>=◌ id_text
returns-clause-expected c = refl

pub returns-clause-gone : goal.returns-clause-gone
unfolding ◌>>=◌ id_text
returns-clause-gone c = refl
