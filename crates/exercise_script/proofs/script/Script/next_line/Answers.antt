use Rattle.std.proofs.Common.{sym}
use Rattle.spec_exercise.specs.Script.{opening}
use Rattle.exercise_script.proofs.Openings.{opening_step}
use Rattle.exercise_script.proofs.script.Script.next_line.Goals as goal

pub returns-in-Some-clause-line : goal.returns-in-Some-clause-line
returns-in-Some-clause-line c = rw (sym c.self.view_is) (rw c.in-Opening.is (opening_step opening _ _ _ (sym c.in-Some.ensures.line)))
