use Rattle.std.proofs.Common.{refl}
use Rattle.std.specs.Fmt.{digits}
use Rattle.json.specs.Print.{escape_byte}
use Rattle.spec_exchange.specs.Chain as chain
use Rattle.spec_script.proofs.rows.full_rows.Goals as goal

pub returns-clause-injected : goal.returns-clause-injected
unfolding chain.◌>>=◌ escape_byte digits
returns-clause-injected c ts e = rw e refl

pub returns-clause-passed : goal.returns-clause-passed
unfolding chain.◌>>=◌ escape_byte digits
returns-clause-passed c ts e = rw e refl

pub returns-clause-altered : goal.returns-clause-altered
unfolding chain.◌>>=◌ escape_byte digits
returns-clause-altered c ts e = rw e refl

pub returns-clause-sent : goal.returns-clause-sent
unfolding chain.◌>>=◌ escape_byte digits
returns-clause-sent c ts e = rw e refl

pub returns-clause-sender : goal.returns-clause-sender
unfolding chain.◌>>=◌ escape_byte digits
returns-clause-sender c ts e = refl

pub returns-clause-text : goal.returns-clause-text
unfolding chain.◌>>=◌ escape_byte digits
returns-clause-text c = refl
