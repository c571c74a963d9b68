use Rattle.std.proofs.Common.{refl}
use Rattle.json.specs.Print.{escape_byte}
use Rattle.std.specs.Fmt.{digits}
use Rattle.spec_exercise.proofs.rows.line_rows.Goals as goal

pub returns-clause-node : goal.returns-clause-node
unfolding escape_byte digits
returns-clause-node c = refl

pub returns-clause-peer_node : goal.returns-clause-peer_node
unfolding escape_byte digits
returns-clause-peer_node c = refl

pub returns-clause-context : goal.returns-clause-context
unfolding escape_byte digits
returns-clause-context c = refl

pub returns-clause-peer_context : goal.returns-clause-peer_context
unfolding escape_byte digits
returns-clause-peer_context c = refl

pub returns-clause-keys : goal.returns-clause-keys
unfolding escape_byte digits
returns-clause-keys c = refl

pub returns-clause-peer_keys : goal.returns-clause-peer_keys
unfolding escape_byte digits
returns-clause-peer_keys c = refl

pub returns-clause-send : goal.returns-clause-send
unfolding escape_byte digits
returns-clause-send c = refl

pub returns-clause-pass : goal.returns-clause-pass
unfolding escape_byte digits
returns-clause-pass c = refl

pub returns-clause-deliver : goal.returns-clause-deliver
unfolding escape_byte digits
returns-clause-deliver c = refl

pub returns-clause-digits : goal.returns-clause-digits
unfolding escape_byte digits
returns-clause-digits c = refl
