use Rattle.std.proofs.Common.{refl}
use Rattle.spec_exchange.specs.Chain as chain
use Rattle.spec_exchange.proofs.rows.sending_rows.Goals as goal

pub returns-clause-context : goal.returns-clause-context
unfolding chain.◌>>=◌
returns-clause-context c = refl

pub returns-clause-keys : goal.returns-clause-keys
unfolding chain.◌>>=◌
returns-clause-keys c = refl

pub returns-clause-spent : goal.returns-clause-spent
unfolding chain.◌>>=◌
returns-clause-spent c = refl

pub returns-clause-request : goal.returns-clause-request
unfolding chain.◌>>=◌
returns-clause-request c = refl

pub returns-clause-answered : goal.returns-clause-answered
unfolding chain.◌>>=◌
returns-clause-answered c = refl
