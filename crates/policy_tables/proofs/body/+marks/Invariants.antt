use Rattle.std.proofs.Common.{◌≡◌, ◌+◌, ◌*◌, drop}
use Rattle.spec_documents.specs.Tree.{trees, depth, items_depth, members_depth}
use Rattle.spec_documents.specs.Fields.{fields, field_list}
use Rattle.spec_documents.specs.Hole.{items_have_marked, members_have_marked}
use Rattle.n32_values.specs.View.{tree_of}
use Rattle.policy_tables.proofs.body.+marks.Given as goal

abbrev pub decreases-holds_mark : goal.decreases-holds_mark
decreases-holds_mark l = 2 * depth (tree_of l.node.now)

abbrev pub decreases-items_hold : goal.decreases-items_hold
decreases-items_hold l = 2 * items_depth (trees l.list.now) + 1

abbrev pub decreases-members_hold : goal.decreases-members_hold
decreases-members_hold l = 2 * members_depth l.map.now + 1

abbrev pub invariant-items_hold-loop-i : goal.invariant-items_hold-loop-i
invariant-items_hold-loop-i l = items_have_marked (trees l.list) ≡ items_have_marked (trees (drop l.i l.list))

abbrev pub invariant-members_hold-loop-i : goal.invariant-members_hold-loop-i
invariant-members_hold-loop-i l = members_have_marked l.map ≡ members_have_marked (fields (drop l.i (field_list l.map)))
