use Rattle.std.proofs.Common.{refl}
use Rattle.std.specs.Fmt.{digits}
use Rattle.json.specs.Print.{escape_byte}
use Rattle.spec_handshake.proofs.rows.difference_rows.Goals as goal

pub returns-clause-text : goal.returns-clause-text
unfolding escape_byte digits
returns-clause-text c = refl

pub returns-clause-other : goal.returns-clause-other
returns-clause-other c = refl

pub returns-clause-missing : goal.returns-clause-missing
returns-clause-missing c = refl

pub returns-clause-further : goal.returns-clause-further
returns-clause-further c = refl

pub returns-clause-missing_text : goal.returns-clause-missing_text
unfolding escape_byte digits
returns-clause-missing_text c = refl

pub returns-clause-swapped : goal.returns-clause-swapped
returns-clause-swapped c = refl

pub returns-clause-types : goal.returns-clause-types
returns-clause-types c = refl

pub returns-clause-same : goal.returns-clause-same
returns-clause-same c = refl
