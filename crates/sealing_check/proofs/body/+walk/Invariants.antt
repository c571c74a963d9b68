use Rattle.std.proofs.Common.{◌≡◌, ◌+◌, ◌*◌, drop, length, option_map}
use Rattle.spec_documents.specs.Tree.{trees, depth, items_depth, members_depth}
use Rattle.spec_documents.specs.Fields.{fields, field_list}
use Rattle.n32_values.specs.View.{tree_of}
use Rattle.sealing_check.specs.Rules.{node_test}
use Rattle.sealing_check.specs.Found.{clear_items, clear_members}
use Rattle.sealing_check.proofs.body.+walk.Given as goal

abbrev pub decreases-clear_node : goal.decreases-clear_node
decreases-clear_node l = 2 * depth (tree_of l.node.now)

abbrev pub decreases-clear_item : goal.decreases-clear_item
decreases-clear_item l = 2 * items_depth (trees l.list.now) + 1

abbrev pub decreases-clear_member : goal.decreases-clear_member
decreases-clear_member l = 2 * members_depth l.map.now + 1

abbrev pub invariant-clear_item-loop-i : goal.invariant-clear_item-loop-i
invariant-clear_item-loop-i l = record {
  deep : l.depth ≡ length l.initial.pointer;
  pointer : l.pointer ≡ l.initial.pointer;
  place : clear_items (node_test l.body) (option_map (λ n. tree_of n.now) l.holed) l.initial.pointer l.i (trees (drop l.i l.list))
      ≡ clear_items (node_test l.body) (option_map (λ n. tree_of n.now) l.holed) l.initial.pointer 0 (trees l.list);
}

abbrev pub invariant-clear_member-loop-i : goal.invariant-clear_member-loop-i
invariant-clear_member-loop-i l = record {
  deep : l.depth ≡ length l.initial.pointer;
  pointer : l.pointer ≡ l.initial.pointer;
  place : clear_members (node_test l.body) (option_map (λ n. tree_of n.now) l.holed) l.initial.pointer (fields (drop l.i (field_list l.map)))
      ≡ clear_members (node_test l.body) (option_map (λ n. tree_of n.now) l.holed) l.initial.pointer l.map;
}
