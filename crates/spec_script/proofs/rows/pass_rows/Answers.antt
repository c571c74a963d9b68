use Rattle.std.proofs.Common.{refl}
use Rattle.spec_exchange.specs.Chain as chain
use Rattle.spec_script.proofs.rows.pass_rows.Goals as goal

pub returns-clause-unknown : goal.returns-clause-unknown
unfolding chain.◌>>=◌
returns-clause-unknown c = refl

pub returns-clause-form : goal.returns-clause-form
unfolding chain.◌>>=◌
returns-clause-form c = refl

pub returns-clause-form_first : goal.returns-clause-form_first
unfolding chain.◌>>=◌
returns-clause-form_first c = refl

pub returns-clause-passed : goal.returns-clause-passed
unfolding chain.◌>>=◌
returns-clause-passed c t d room e = rw (room, e) refl

pub returns-clause-signer : goal.returns-clause-signer
unfolding chain.◌>>=◌
returns-clause-signer c t parts room e = rw (room, e) refl
