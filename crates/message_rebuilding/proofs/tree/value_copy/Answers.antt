use Rattle.std.proofs.Common.{sym}
use Rattle.message_rebuilding.proofs.Values.{value_none}
use Rattle.message_rebuilding.proofs.tree.value_copy.Goals as goal

pub returns-in-None : goal.returns-in-None
returns-in-None c = sym (value_none c.args.values.now c.args.index c.in-None.ensures.value)
