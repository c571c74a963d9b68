use Rattle.std.proofs.Common.{refl}
use Rattle.spec_exchange.specs.Chain as chain
use Rattle.spec_script.proofs.rows.context_rows.Goals as goal

pub returns-clause-opened : goal.returns-clause-opened
unfolding chain.◌>>=◌
returns-clause-opened c = refl

pub returns-clause-used : goal.returns-clause-used
unfolding chain.◌>>=◌
returns-clause-used c = refl

pub returns-clause-policy : goal.returns-clause-policy
unfolding chain.◌>>=◌
returns-clause-policy c = refl

pub returns-clause-journal : goal.returns-clause-journal
unfolding chain.◌>>=◌
returns-clause-journal c = refl

pub returns-clause-keys : goal.returns-clause-keys
unfolding chain.◌>>=◌
returns-clause-keys c = refl

pub returns-clause-twice : goal.returns-clause-twice
unfolding chain.◌>>=◌
returns-clause-twice c = refl

pub returns-clause-twice_unfit : goal.returns-clause-twice_unfit
unfolding chain.◌>>=◌
returns-clause-twice_unfit c = refl

pub returns-clause-unfit : goal.returns-clause-unfit
unfolding chain.◌>>=◌
returns-clause-unfit c = refl

pub returns-clause-none : goal.returns-clause-none
unfolding chain.◌>>=◌
returns-clause-none c = refl

pub returns-clause-untold : goal.returns-clause-untold
unfolding chain.◌>>=◌
returns-clause-untold c = refl
