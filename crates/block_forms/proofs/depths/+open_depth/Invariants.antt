use Rattle.std.proofs.Common.{◌≡◌, ◌<◌, ◌+◌, ◌*◌, min, max, drop}
use Rattle.spec_documents.specs.Tree.{trees, depth, items_depth, members_depth}
use Rattle.spec_documents.specs.Fields.{fields, field_list}
use Rattle.spec_messages.specs.Block.{items_open_depth, members_open_depth}
use Rattle.n32_values.specs.View.{tree_of}
use Rattle.block_forms.proofs.depths.+open_depth.Given as goal

abbrev pub decreases-open_depth : goal.decreases-open_depth
decreases-open_depth l = 2 * depth (tree_of l.node.now)

abbrev pub decreases-deepest_item : goal.decreases-deepest_item
decreases-deepest_item l = 2 * items_depth (trees l.list.now) + 1

abbrev pub decreases-deepest_member : goal.decreases-deepest_member
decreases-deepest_member l = 2 * members_depth l.map.now + 1

abbrev pub invariant-deepest_item-loop-i : goal.invariant-deepest_item-loop-i
invariant-deepest_item-loop-i l = record {
  deep : min (max l.deepest (items_open_depth (trees (drop l.i l.list)))) 4294967295 ≡ min (items_open_depth (trees l.list)) 4294967295;
  fits : l.deepest < 4294967296;
}

abbrev pub invariant-deepest_member-loop-i : goal.invariant-deepest_member-loop-i
invariant-deepest_member-loop-i l = record {
  deep : min (max l.deepest (members_open_depth (fields (drop l.i (field_list l.map))))) 4294967295 ≡ min (members_open_depth l.map) 4294967295;
  fits : l.deepest < 4294967296;
}
