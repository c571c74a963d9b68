use Rattle.std.proofs.Common.{refl}
use Rattle.json.specs.Print as print
use Rattle.spec_sealing.proofs.rows.plaintext_rows.Goals as goal

pub returns-clause-some : goal.returns-clause-some
unfolding print.escape_byte
returns-clause-some c = refl

pub returns-clause-none : goal.returns-clause-none
unfolding print.escape_byte
returns-clause-none c = refl
