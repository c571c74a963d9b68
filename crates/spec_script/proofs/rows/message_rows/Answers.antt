use Rattle.std.proofs.Common.{refl}
use Rattle.spec_exchange.specs.Chain as chain
use Rattle.spec_script.proofs.rows.message_rows.Goals as goal

pub returns-clause-response : goal.returns-clause-response
unfolding chain.◌>>=◌
returns-clause-response c = refl

pub returns-clause-alone : goal.returns-clause-alone
unfolding chain.◌>>=◌
returns-clause-alone c = refl

pub returns-clause-reply : goal.returns-clause-reply
unfolding chain.◌>>=◌
returns-clause-reply c = refl

pub returns-clause-status : goal.returns-clause-status
unfolding chain.◌>>=◌
returns-clause-status c = refl

pub returns-clause-message : goal.returns-clause-message
unfolding chain.◌>>=◌
returns-clause-message c = refl

pub returns-clause-deep : goal.returns-clause-deep
unfolding chain.◌>>=◌
returns-clause-deep c = refl

pub returns-clause-answers : goal.returns-clause-answers
unfolding chain.◌>>=◌
returns-clause-answers c = refl

pub returns-clause-context : goal.returns-clause-context
unfolding chain.◌>>=◌
returns-clause-context c = refl
