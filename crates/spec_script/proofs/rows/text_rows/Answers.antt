use Rattle.std.proofs.Common.{refl}
use Rattle.std.specs.Fmt.{digits}
use Rattle.json.specs.Print.{escape_byte}
use Rattle.spec_script.proofs.rows.text_rows.Goals as goal

pub returns-clause-node : goal.returns-clause-node
unfolding escape_byte digits
returns-clause-node c = refl

pub returns-clause-wire : goal.returns-clause-wire
unfolding escape_byte digits
returns-clause-wire c = refl

pub returns-clause-fly : goal.returns-clause-fly
unfolding escape_byte digits
returns-clause-fly c = refl

pub returns-clause-spent : goal.returns-clause-spent
unfolding escape_byte digits
returns-clause-spent c = refl

pub returns-clause-replay : goal.returns-clause-replay
unfolding escape_byte digits
returns-clause-replay c = refl

pub returns-clause-message : goal.returns-clause-message
unfolding escape_byte digits
returns-clause-message c = refl

pub returns-clause-overlap : goal.returns-clause-overlap
unfolding escape_byte digits
returns-clause-overlap c = refl

pub returns-clause-bad_hole : goal.returns-clause-bad_hole
unfolding escape_byte digits
returns-clause-bad_hole c = refl

pub returns-clause-clear : goal.returns-clause-clear
unfolding escape_byte digits
returns-clause-clear c = refl
