use Rattle.std.proofs.Common.{◌≡◌, ◌+◌, ◌*◌, ◌++◌, drop, length}
use Rattle.spec_documents.specs.Tree.{depth, members_depth}
use Rattle.spec_documents.specs.Fields.{fields, field_list}
use Rattle.spec_messages.specs.Block.{members_leaves}
use Rattle.spec_messages.specs.Policy.{outermost_members}
use Rattle.spec_messages.specs.Split.{hide_members}
use Rattle.n32_values.specs.View.{tree_of}
use Rattle.reformat_blocks.specs.Rules.{node_test}
use Rattle.reformat_blocks.specs.Sent.{item_trees, stood}
use Rattle.reformat_blocks.proofs.body.+items.Given as goal

abbrev pub decreases-push_items : goal.decreases-push_items
decreases-push_items l = 2 * depth (tree_of l.node.now)

abbrev pub decreases-push_members : goal.decreases-push_members
decreases-push_members l = 2 * members_depth l.map.now + 1

abbrev pub invariant-push_members-loop-i : goal.invariant-push_members-loop-i
invariant-push_members-loop-i l = record {
  deep : l.depth ≡ length l.initial.pointer;
  pointer : l.pointer ≡ l.initial.pointer;
  items : l.items ++ item_trees (members_leaves l.initial.pointer (hide_members (node_test l.body) l.initial.pointer (length l.values) (fields (drop l.i (field_list l.map)))))
      ≡ l.initial.items ++ item_trees (members_leaves l.initial.pointer (hide_members (node_test l.body) l.initial.pointer (length l.initial.values) l.map));
  values : l.values ++ stood (outermost_members (node_test l.body) l.initial.pointer (fields (drop l.i (field_list l.map))))
      ≡ l.initial.values ++ stood (outermost_members (node_test l.body) l.initial.pointer l.map);
}
