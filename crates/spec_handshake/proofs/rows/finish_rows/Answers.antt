use Rattle.std.proofs.Common.{refl}
use Rattle.spec_documents.specs.Chain.{◌>>=◌}
use Rattle.spec_handshake.proofs.rows.finish_rows.Goals as goal

pub returns-clause-sender : goal.returns-clause-sender
unfolding ◌>>=◌
returns-clause-sender c = refl

pub returns-clause-call : goal.returns-clause-call
unfolding ◌>>=◌
returns-clause-call c = refl

pub returns-clause-node : goal.returns-clause-node
unfolding ◌>>=◌
returns-clause-node c = refl

pub returns-clause-waiting : goal.returns-clause-waiting
unfolding ◌>>=◌
returns-clause-waiting c = refl

pub returns-clause-capability : goal.returns-clause-capability
unfolding ◌>>=◌
returns-clause-capability c = refl

pub returns-clause-first : goal.returns-clause-first
unfolding ◌>>=◌
returns-clause-first c = refl

pub returns-clause-tls : goal.returns-clause-tls
unfolding ◌>>=◌
returns-clause-tls c = refl

pub returns-clause-suite : goal.returns-clause-suite
unfolding ◌>>=◌
returns-clause-suite c = refl

pub returns-clause-policy : goal.returns-clause-policy
unfolding ◌>>=◌
returns-clause-policy c = refl

pub returns-clause-opened : goal.returns-clause-opened
unfolding ◌>>=◌
returns-clause-opened c = refl
