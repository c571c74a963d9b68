use Rattle.std.proofs.Common.{refl}
use Rattle.spec_exchange.specs.Chain as chain
use Rattle.spec_script.proofs.rows.node_rows.Goals as goal

pub returns-clause-fresh : goal.returns-clause-fresh
unfolding chain.◌>>=◌
returns-clause-fresh c = refl

pub returns-clause-again : goal.returns-clause-again
unfolding chain.◌>>=◌
returns-clause-again c = refl

pub returns-clause-known : goal.returns-clause-known
unfolding chain.◌>>=◌
returns-clause-known c = refl

pub returns-clause-unknown : goal.returns-clause-unknown
unfolding chain.◌>>=◌
returns-clause-unknown c = refl

pub returns-clause-second : goal.returns-clause-second
unfolding chain.◌>>=◌
returns-clause-second c = refl

pub returns-clause-wire : goal.returns-clause-wire
unfolding chain.◌>>=◌
returns-clause-wire c = refl

pub returns-clause-from_one : goal.returns-clause-from_one
unfolding chain.◌>>=◌
returns-clause-from_one c = refl

pub returns-clause-below : goal.returns-clause-below
unfolding chain.◌>>=◌
returns-clause-below c = refl

pub returns-clause-first : goal.returns-clause-first
unfolding chain.◌>>=◌
returns-clause-first c = refl

pub returns-clause-node_first : goal.returns-clause-node_first
unfolding chain.◌>>=◌
returns-clause-node_first c = refl
