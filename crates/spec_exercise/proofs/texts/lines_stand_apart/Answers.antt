use Rattle.spec_exercise.proofs.Apart.{lines_apart}
use Rattle.spec_exercise.proofs.texts.lines_stand_apart.Goals as goal

pub returns : goal.returns
returns c n = lines_apart n
