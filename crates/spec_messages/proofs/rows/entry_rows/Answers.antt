use Rattle.std.proofs.Common.{refl}
use Rattle.std.specs.Fmt.{digits}
use Rattle.json.specs.Print.{escape_byte}
use Rattle.spec_messages.proofs.rows.entry_rows.Goals as goal

pub returns-clause-second : goal.returns-clause-second
unfolding escape_byte digits
returns-clause-second c = refl

pub returns-clause-back : goal.returns-clause-back
unfolding escape_byte digits
returns-clause-back c = refl
