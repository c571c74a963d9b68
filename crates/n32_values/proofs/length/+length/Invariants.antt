use Rattle.std.proofs.Common.{◌≡◌, ◌+◌, ◌*◌, ◌^◌, ◌-◌, min, length, drop, nat_lt, false}
use Rattle.spec_documents.specs.Tree.{trees, depth, items_depth, members_depth}
use Rattle.spec_documents.specs.Fields.{fields, field_list}
use Rattle.spec_documents.specs.Compact.{items_text, members_text}
use Rattle.n32_values.specs.View.{tree_of}
use Rattle.n32_values.proofs.length.+length.Given as goal

abbrev pub decreases-text_length : goal.decreases-text_length
decreases-text_length l = 2 * depth (tree_of l.node.now)

abbrev pub decreases-items_length : goal.decreases-items_length
decreases-items_length l = 2 * items_depth (trees l.list.now) + 1

abbrev pub decreases-members_length : goal.decreases-members_length
decreases-members_length l = 2 * members_depth l.map.now + 1

abbrev pub invariant-items_length-loop-i : goal.invariant-items_length-loop-i
invariant-items_length-loop-i l =
    min (l.total + length (items_text (nat_lt 0 l.i) (trees (drop l.i l.list)))) (2 ^ 64 - 1) ≡ min (1 + length (items_text false (trees l.list))) (2 ^ 64 - 1)

abbrev pub invariant-members_length-loop-i : goal.invariant-members_length-loop-i
invariant-members_length-loop-i l =
    min (l.total + length (members_text (nat_lt 0 l.i) (fields (drop l.i (field_list l.map))))) (2 ^ 64 - 1) ≡ min (1 + length (members_text false l.map)) (2 ^ 64 - 1)
