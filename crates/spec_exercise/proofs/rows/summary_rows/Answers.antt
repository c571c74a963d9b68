use Rattle.std.proofs.Common.{refl}
use Rattle.std.specs.Fmt.{digits}
use Rattle.spec_exercise.proofs.rows.summary_rows.Goals as goal

pub returns-clause-counted : goal.returns-clause-counted
unfolding digits
returns-clause-counted c = refl
