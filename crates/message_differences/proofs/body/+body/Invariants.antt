use Rattle.std.proofs.Common.{◌≡◌, ◌+◌, ◌*◌, ◌-◌, map, drop, find, length}
use Rattle.spec_documents.specs.Tree.{depth, members_depth}
use Rattle.spec_documents.specs.Fields.{fields, field_list}
use Rattle.spec_messages.specs.Policy.{body_at, members_changed}
use Rattle.n32_values.specs.View.{tree_of}
use Rattle.message_differences.specs.Fixed.{fixed_by}
use Rattle.message_differences.proofs.body.+body.Given as goal

abbrev pub decreases-first_in_node : goal.decreases-first_in_node
decreases-first_in_node l = 4 * depth (tree_of l.before.now)

abbrev pub decreases-first_in_members : goal.decreases-first_in_members
decreases-first_in_members l = 4 * members_depth l.before.now + 3

abbrev pub decreases-fixed_at_next : goal.decreases-fixed_at_next
decreases-fixed_at_next l = 4 * members_depth l.before.now + 2

abbrev pub decreases-first_in_member : goal.decreases-first_in_member
decreases-first_in_member l = 4 * depth (tree_of l.before.now) + 1

abbrev pub invariant-first_in_members-members : goal.invariant-first_in_members-members
invariant-first_in_members-members l = find (fixed_by l.change) (map body_at (members_changed l.place (fields (drop l.i (field_list l.before))) (fields (drop l.j (field_list l.after))))) ≡ find (fixed_by l.change) (map body_at (members_changed l.place l.before l.after))

abbrev pub decreases-first_in_members-members : goal.decreases-first_in_members-members
decreases-first_in_members-members l = (length (field_list l.before) - l.i) + (length (field_list l.after) - l.j)
