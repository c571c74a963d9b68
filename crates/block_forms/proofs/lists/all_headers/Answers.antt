use Rattle.std.proofs.Common.{sym, ◌∙◌}
use Rattle.spec_messages.specs.Fault.{is_header_node}
use Rattle.n32_values.specs.View.{tree_of}
use Rattle.block_forms.proofs.Loops.{pass_at, fail_at}
use Rattle.block_forms.proofs.lists.all_headers.Goals as goal

pub loop-i-preserved : goal.loop-i-preserved
loop-i-preserved c =
    sym (pass_at is_header_node c.args.list.now c.loop-i.i (tree_of c.item.result.now) c.item.ensures (sym c.is_header.ensures ∙ c.if-not-is_header.false)) ∙ c.loop-i.invariant

pub returns-then-not-is_header : goal.returns-then-not-is_header
returns-then-not-is_header c =
    sym (fail_at is_header_node c.args.list.now c.loop-i.i (tree_of c.item.result.now) c.item.ensures (sym c.is_header.ensures ∙ c.if-not-is_header.true)) ∙ c.loop-i.invariant
