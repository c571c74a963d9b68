use Rattle.std.proofs.Common.{◌∙◌, arith}
use Rattle.block_patch.proofs.PlaceLists.{pointer_same, pointer_not}
use Rattle.block_patch.proofs.step.is_same_pointer.Goals as goal

pub returns-then-len : goal.returns-then-len
returns-then-len c = pointer_not c.args.one.now c.args.other.now (λ e. absurd (omega (arith, e, c.len.ensures, c.len-2.ensures, c.if-len.true)))

pub returns : goal.returns
returns c = c.is_prefix.ensures ∙ pointer_same c.args.one.now c.args.other.now (omega (arith, c.len.ensures, c.len-2.ensures, c.if-len.false))
