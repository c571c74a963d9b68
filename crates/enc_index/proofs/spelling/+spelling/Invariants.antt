use Rattle.std.proofs.Common.{◌≡◌, ◌+◌, ◌*◌, drop}
use Rattle.spec_documents.specs.Tree.{trees, depth, items_depth, members_depth}
use Rattle.spec_documents.specs.Fields.{fields, field_list}
use Rattle.spec_documents.specs.Hole.{items_have_spelling, members_have_spelling}
use Rattle.n32_values.specs.View.{tree_of}
use Rattle.enc_index.proofs.spelling.+spelling.Given as goal

abbrev pub decreases-has_hole_spelling : goal.decreases-has_hole_spelling
decreases-has_hole_spelling l = 2 * depth (tree_of l.node.now)

abbrev pub decreases-items_have : goal.decreases-items_have
decreases-items_have l = 2 * items_depth (trees l.list.now) + 1

abbrev pub decreases-members_have : goal.decreases-members_have
decreases-members_have l = 2 * members_depth l.map.now + 1

abbrev pub invariant-items_have-loop-i : goal.invariant-items_have-loop-i
invariant-items_have-loop-i l = items_have_spelling (trees l.list) ≡ items_have_spelling (trees (drop l.i l.list))

abbrev pub invariant-members_have-loop-i : goal.invariant-members_have-loop-i
invariant-members_have-loop-i l = members_have_spelling l.map ≡ members_have_spelling (fields (drop l.i (field_list l.map)))
