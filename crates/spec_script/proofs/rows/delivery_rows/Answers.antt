use Rattle.std.proofs.Common.{refl}
use Rattle.std.specs.Fmt.{digits}
use Rattle.json.specs.Print.{escape_byte}
use Rattle.spec_exchange.specs.Chain as chain
use Rattle.spec_script.proofs.rows.delivery_rows.Goals as goal

pub returns-clause-delivered : goal.returns-clause-delivered
unfolding chain.◌>>=◌
returns-clause-delivered c t d e = rw e refl

pub returns-clause-verifier : goal.returns-clause-verifier
unfolding chain.◌>>=◌
returns-clause-verifier c t e = rw e refl

pub returns-clause-screen : goal.returns-clause-screen
unfolding chain.◌>>=◌
returns-clause-screen c t e = rw e refl

pub returns-clause-outside : goal.returns-clause-outside
returns-clause-outside c = refl

pub returns-clause-own : goal.returns-clause-own
returns-clause-own c = refl

pub returns-clause-text : goal.returns-clause-text
unfolding escape_byte digits
returns-clause-text c = refl
