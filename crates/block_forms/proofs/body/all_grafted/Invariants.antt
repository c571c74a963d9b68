use Rattle.std.proofs.Common.{◌≡◌, drop}
use Rattle.spec_documents.specs.Tree.{members, no_members}
use Rattle.spec_messages.specs.Block.{all_grafted}
use Rattle.n32_values.specs.View.{tree_of}
use Rattle.block_forms.specs.Kept.{items_with}
use Rattle.block_forms.proofs.body.all_grafted.Given as goal

abbrev pub invariant-loop-i : goal.invariant-loop-i
invariant-loop-i l = all_grafted (items_with (drop l.i l.paths) (drop l.i l.items)) (tree_of l.node) ≡ all_grafted (items_with l.paths l.items) (members no_members)
