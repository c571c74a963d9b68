use Rattle.std.proofs.Common.{◌+◌, ◌*◌, take}
use Rattle.spec_documents.specs.Tree.{trees, depth, items_depth, members_depth}
use Rattle.spec_documents.specs.Fields.{fields, field_list}
use Rattle.spec_documents.specs.Document.{ItemsAreDocuments, MembersAreDocuments}
use Rattle.n32_values.specs.View.{tree_of}
use Rattle.paired_sepps.proofs.bodies.+walk.Given as goal

abbrev pub decreases-is_document : goal.decreases-is_document
decreases-is_document l = 2 * depth (tree_of l.node.now)

abbrev pub decreases-are_documents : goal.decreases-are_documents
decreases-are_documents l = 2 * items_depth (trees l.list.now) + 1

abbrev pub decreases-are_members : goal.decreases-are_members
decreases-are_members l = 2 * members_depth l.map.now + 1

abbrev pub invariant-are_documents-loop-i : goal.invariant-are_documents-loop-i
invariant-are_documents-loop-i l = ItemsAreDocuments (trees (take l.i l.list))

abbrev pub invariant-are_members-loop-i : goal.invariant-are_members-loop-i
invariant-are_members-loop-i l = MembersAreDocuments (fields (take l.i (field_list l.map)))
