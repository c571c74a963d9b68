use Rattle.std.proofs.Common.{refl}
use Rattle.spec_documents.specs.Chain.{◌>>=◌}
use Rattle.spec_handshake.proofs.rows.answer_rows.Goals as goal

pub returns-clause-expected : goal.returns-clause-expected
unfolding ◌>>=◌
returns-clause-expected c = refl

pub returns-clause-capability : goal.returns-clause-capability
unfolding ◌>>=◌
returns-clause-capability c = refl

pub returns-clause-suite : goal.returns-clause-suite
unfolding ◌>>=◌
returns-clause-suite c = refl

pub returns-clause-policy : goal.returns-clause-policy
unfolding ◌>>=◌
returns-clause-policy c = refl

pub returns-clause-used : goal.returns-clause-used
unfolding ◌>>=◌
returns-clause-used c = refl
