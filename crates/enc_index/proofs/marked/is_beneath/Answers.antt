use Rattle.std.proofs.Common.{◌∙◌, arith}
use Rattle.enc_index.proofs.AboutLemmas.{beneath_short, beneath_long}
use Rattle.enc_index.proofs.marked.is_beneath.Goals as goal

pub returns-then-len : goal.returns-then-len
returns-then-len c = c.is_prefix.ensures ∙ beneath_long c.args.above.now c.args.place.now (omega arith)

pub returns : goal.returns
returns c = beneath_short c.args.above.now c.args.place.now (omega arith)
