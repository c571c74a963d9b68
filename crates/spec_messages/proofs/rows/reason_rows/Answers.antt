use Rattle.std.proofs.Common.{refl}
use Rattle.std.specs.Fmt.{digits}
use Rattle.json.specs.Print.{escape_byte}
use Rattle.spec_messages.proofs.rows.reason_rows.Goals as goal

pub returns-clause-meta : goal.returns-clause-meta
unfolding escape_byte digits
returns-clause-meta c = refl

pub returns-clause-block : goal.returns-clause-block
unfolding escape_byte digits
returns-clause-block c = refl

pub returns-clause-moved : goal.returns-clause-moved
unfolding escape_byte digits
returns-clause-moved c = refl

pub returns-clause-fixed : goal.returns-clause-fixed
unfolding escape_byte digits
returns-clause-fixed c = refl

pub returns-clause-allowed : goal.returns-clause-allowed
unfolding escape_byte digits
returns-clause-allowed c = refl
