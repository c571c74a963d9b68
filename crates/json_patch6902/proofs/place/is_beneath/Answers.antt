use Rattle.std.proofs.Common.{sym, ◌∙◌, arith}
use Rattle.json_patch6902.proofs.OpLaws.{not_less, beneath_short, beneath_long}
use Rattle.json_patch6902.proofs.place.is_beneath.Goals as goal

pub returns-then-len : goal.returns-then-len
returns-then-len c = c.is_prefix.ensures ∙ sym (beneath_long c.args.above.now c.args.path.now (omega arith))

pub returns-else-len : goal.returns-else-len
returns-else-len c = not_less c.len.result c.len-2.result (omega arith) ∙ sym (beneath_short c.args.above.now c.args.path.now (omega arith))
