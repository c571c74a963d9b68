use Rattle.std.proofs.Common.{refl}
use Rattle.json.specs.Print.{escape_byte}
use Rattle.spec_exchange.specs.Chain as chain
use Rattle.spec_script.proofs.rows.alter_rows.Goals as goal

pub returns-clause-unknown : goal.returns-clause-unknown
unfolding chain.◌>>=◌ escape_byte
returns-clause-unknown c = refl

pub returns-clause-same : goal.returns-clause-same
unfolding chain.◌>>=◌ escape_byte
returns-clause-same c = refl

pub returns-clause-replaced : goal.returns-clause-replaced
unfolding chain.◌>>=◌ escape_byte
returns-clause-replaced c = refl

pub returns-clause-missing : goal.returns-clause-missing
unfolding chain.◌>>=◌ escape_byte
returns-clause-missing c = refl

pub returns-clause-second : goal.returns-clause-second
unfolding chain.◌>>=◌ escape_byte
returns-clause-second c = refl

pub returns-clause-deep : goal.returns-clause-deep
unfolding chain.◌>>=◌ escape_byte
returns-clause-deep c = refl

pub returns-clause-less_deep : goal.returns-clause-less_deep
unfolding chain.◌>>=◌ escape_byte
returns-clause-less_deep c = refl

pub returns-clause-long : goal.returns-clause-long
unfolding chain.◌>>=◌ escape_byte
returns-clause-long c op t u p d l = rw (p, d, l) refl
