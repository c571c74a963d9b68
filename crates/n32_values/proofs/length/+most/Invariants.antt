use Rattle.std.proofs.Common.{◌+◌, ◌*◌, ◌^◌, ◌-◌, ◌≤◌, min, length, drop, nat_lt, false}
use Rattle.spec_documents.specs.Tree.{trees, depth, items_depth, members_depth}
use Rattle.spec_documents.specs.Fields.{fields, field_list}
use Rattle.spec_documents.specs.Compact.{items_text, members_text}
use Rattle.n32_values.specs.View.{tree_of}
use Rattle.n32_values.proofs.length.+most.Given as goal

abbrev pub decreases-most_length : goal.decreases-most_length
decreases-most_length l = 2 * depth (tree_of l.node.now)

abbrev pub decreases-most_items : goal.decreases-most_items
decreases-most_items l = 2 * items_depth (trees l.list.now) + 1

abbrev pub decreases-most_members : goal.decreases-most_members
decreases-most_members l = 2 * members_depth l.map.now + 1

abbrev pub invariant-most_items-loop-i : goal.invariant-most_items-loop-i
invariant-most_items-loop-i l =
    min (1 + length (items_text false (trees l.list))) (2 ^ 64 - 1) + 1 ≤ l.total + length (items_text (nat_lt 0 l.i) (trees (drop l.i l.list)))

abbrev pub invariant-most_members-loop-i : goal.invariant-most_members-loop-i
invariant-most_members-loop-i l =
    min (1 + length (members_text false l.map)) (2 ^ 64 - 1) + 1 ≤ l.total + length (members_text (nat_lt 0 l.i) (fields (drop l.i (field_list l.map))))
