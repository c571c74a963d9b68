use Rattle.std.proofs.Common.{sym, ◌∙◌}
use Rattle.spec_messages.specs.Fault.{is_item_node}
use Rattle.n32_values.specs.View.{tree_of}
use Rattle.block_forms.proofs.Loops.{pass_at, fail_at}
use Rattle.block_forms.proofs.lists.all_items.Goals as goal

pub loop-i-preserved : goal.loop-i-preserved
loop-i-preserved c =
    sym (pass_at is_item_node c.args.list.now c.loop-i.i (tree_of c.item.result.now) c.item.ensures (sym c.is_item.ensures ∙ c.if-not-is_item.false)) ∙ c.loop-i.invariant

pub returns-then-not-is_item : goal.returns-then-not-is_item
returns-then-not-is_item c =
    sym (fail_at is_item_node c.args.list.now c.loop-i.i (tree_of c.item.result.now) c.item.ensures (sym c.is_item.ensures ∙ c.if-not-is_item.true)) ∙ c.loop-i.invariant
