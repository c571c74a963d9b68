use Rattle.std.proofs.Common.{refl}
use Rattle.std.specs.Str.{is_utf8, chars}
use Rattle.serde_json.proofs.OnLiterals.{serde_json_on_literals}
use Rattle.spec_exercise.proofs.rows.answer_rows.Goals as goal

pub returns-clause-delivered : goal.returns-clause-delivered
unfolding serde_json_on_literals is_utf8 chars
returns-clause-delivered c = refl

pub returns-clause-refused : goal.returns-clause-refused
unfolding serde_json_on_literals is_utf8 chars
returns-clause-refused c = refl

pub returns-clause-beneath : goal.returns-clause-beneath
unfolding serde_json_on_literals is_utf8 chars
returns-clause-beneath c = refl

pub returns-clause-no_object : goal.returns-clause-no_object
unfolding serde_json_on_literals is_utf8 chars
returns-clause-no_object c = refl

pub returns-clause-nothing : goal.returns-clause-nothing
unfolding serde_json_on_literals is_utf8 chars
returns-clause-nothing c = refl
