use Rattle.std.proofs.Common.{◌<◌, ◌≤◌, ◌+◌, min, slice_get, sym, ap, ◌∙◌, arith}
use Rattle.n32_values.specs.View.{tree_of}
use Rattle.block_forms.proofs.Deep.{is_over, is_under}
use Rattle.block_forms.proofs.depths.is_deep.Goals as goal

pub loop-i-preserved : goal.loop-i-preserved
loop-i-preserved c =
    let under : min (c.from-depth.result + c.len.result) 18446744073709551615 ≤ 64 = omega arith in
    sym (is_under (tree_of c.item.result.now) c.args.list.now c.loop-i.i c.item-in-loop-i.result.now c.len.result c.from-depth.result c.item.ensures
    (sym (ap (λ ps. slice_get ps c.loop-i.i) c.requires) ∙ c.item-in-loop-i.ensures) c.len.ensures (c.from-depth.ensures ∙ c.value_depth.ensures) under)
    ∙ c.loop-i.invariant

pub returns-then-saturating_add-gt64 : goal.returns-then-saturating_add-gt64
returns-then-saturating_add-gt64 c =
    let over : 64 < min (c.from-depth.result + c.len.result) 18446744073709551615 = omega arith in
    sym (is_over (tree_of c.item.result.now) c.args.list.now c.loop-i.i c.item-in-loop-i.result.now c.len.result c.from-depth.result c.item.ensures
    (sym (ap (λ ps. slice_get ps c.loop-i.i) c.requires) ∙ c.item-in-loop-i.ensures) c.len.ensures (c.from-depth.ensures ∙ c.value_depth.ensures) over)
    ∙ c.loop-i.invariant
