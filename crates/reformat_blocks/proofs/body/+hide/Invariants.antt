use Rattle.std.proofs.Common.{◌≡◌, ◌+◌, ◌*◌, ◌++◌, drop, length}
use Rattle.spec_documents.specs.Tree.{trees, tree_list, depth, items_depth, members_depth}
use Rattle.spec_documents.specs.Fields.{fields, field_list}
use Rattle.spec_messages.specs.Policy.{outermost_items, outermost_members}
use Rattle.spec_messages.specs.Split.{hide_items, hide_members}
use Rattle.n32_values.specs.View.{tree_of}
use Rattle.reformat_blocks.specs.Rules.{node_test}
use Rattle.reformat_blocks.specs.Sent.{stood}
use Rattle.reformat_blocks.proofs.body.+hide.Given as goal

abbrev pub decreases-hidden_node : goal.decreases-hidden_node
decreases-hidden_node l = 2 * depth (tree_of l.node.now)

abbrev pub decreases-hidden_list : goal.decreases-hidden_list
decreases-hidden_list l = 2 * items_depth (trees l.list.now) + 1

abbrev pub decreases-hidden_map : goal.decreases-hidden_map
decreases-hidden_map l = 2 * members_depth l.map.now + 1

abbrev pub invariant-hidden_list-loop-i : goal.invariant-hidden_list-loop-i
invariant-hidden_list-loop-i l = record {
  deep : l.depth ≡ length l.initial.pointer;
  pointer : l.pointer ≡ l.initial.pointer;
  list : l.hidden ++ tree_list (hide_items (node_test l.body) l.initial.pointer l.i (length l.values) (trees (drop l.i l.list)))
      ≡ tree_list (hide_items (node_test l.body) l.initial.pointer 0 (length l.initial.values) (trees l.list));
  values : l.values ++ stood (outermost_items (node_test l.body) l.initial.pointer l.i (trees (drop l.i l.list)))
      ≡ l.initial.values ++ stood (outermost_items (node_test l.body) l.initial.pointer 0 (trees l.list));
}

abbrev pub invariant-hidden_map-loop-i : goal.invariant-hidden_map-loop-i
invariant-hidden_map-loop-i l = record {
  deep : l.depth ≡ length l.initial.pointer;
  pointer : l.pointer ≡ l.initial.pointer;
  map : field_list l.hidden ++ field_list (hide_members (node_test l.body) l.initial.pointer (length l.values) (fields (drop l.i (field_list l.map))))
      ≡ field_list (hide_members (node_test l.body) l.initial.pointer (length l.initial.values) l.map);
  values : l.values ++ stood (outermost_members (node_test l.body) l.initial.pointer (fields (drop l.i (field_list l.map))))
      ≡ l.initial.values ++ stood (outermost_members (node_test l.body) l.initial.pointer l.map);
}
