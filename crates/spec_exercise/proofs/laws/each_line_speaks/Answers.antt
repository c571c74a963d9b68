use Rattle.spec_exercise.proofs.LineCounts.{lines_few}
use Rattle.spec_exercise.proofs.laws.each_line_speaks.Goals as goal

pub returns-clause-few : goal.returns-clause-few
returns-clause-few c n = lines_few n
