use Rattle.std.proofs.Common.{◌≡◌, ◌+◌, ◌*◌, map, take}
use Rattle.spec_documents.specs.Tree.{trees, depth, items_depth, members_depth}
use Rattle.spec_documents.specs.Fields.{field_list}
use Rattle.n32_values.specs.View.{tree_of}
use Rattle.spec_documents.specs.Hole.{fill}
use Rattle.message_rebuilding.proofs.Fillings.{field_filled}
use Rattle.message_rebuilding.proofs.tree.+filled.Given as goal

abbrev pub decreases-filled_node : goal.decreases-filled_node
decreases-filled_node l = 2 * depth (tree_of l.node.now)

abbrev pub decreases-filled_list : goal.decreases-filled_list
decreases-filled_list l = 2 * items_depth (trees l.list.now) + 1

abbrev pub decreases-filled_map : goal.decreases-filled_map
decreases-filled_map l = 2 * members_depth l.map.now + 1

abbrev pub invariant-filled_list-loop-i : goal.invariant-filled_list-loop-i
invariant-filled_list-loop-i l = l.filled ≡ map (fill l.values) (take l.i l.list)

abbrev pub invariant-filled_map-loop-i : goal.invariant-filled_map-loop-i
invariant-filled_map-loop-i l = field_list l.filled ≡ map (field_filled l.values) (take l.i (field_list l.map))
