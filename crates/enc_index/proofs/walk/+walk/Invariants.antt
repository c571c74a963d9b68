use Rattle.std.proofs.Common.{◌≡◌, ◌++◌, ◌+◌, ◌*◌, map, drop, length}
use Rattle.spec_documents.specs.Tree.{trees, depth, items_depth, members_depth}
use Rattle.spec_documents.specs.Fields.{fields, field_list}
use Rattle.spec_documents.specs.Hole.{items_marks, members_marks}
use Rattle.n32_values.specs.View.{tree_of}
use Rattle.enc_index.specs.Marks.{mark_view, under, tokens}
use Rattle.enc_index.proofs.walk.+walk.Given as goal

abbrev pub decreases-walk : goal.decreases-walk
decreases-walk l = 2 * depth (tree_of l.node.now)

abbrev pub decreases-walk_items : goal.decreases-walk_items
decreases-walk_items l = 2 * items_depth (trees l.list.now) + 1

abbrev pub decreases-walk_members : goal.decreases-walk_members
decreases-walk_members l = 2 * members_depth l.object.now + 1

abbrev pub invariant-walk_items-loop-i : goal.invariant-walk_items-loop-i
invariant-walk_items-loop-i l = record {
  deep : l.depth ≡ length l.initial.path.items;
  path : l.path.items ≡ l.initial.path.items;
  marks : map mark_view l.found ++ map (under (tokens l.initial.path.items)) (items_marks l.i (trees (drop l.i l.list)))
      ≡ map mark_view l.initial.found ++ map (under (tokens l.initial.path.items)) (items_marks 0 (trees l.list));
}

abbrev pub invariant-walk_members-loop-i : goal.invariant-walk_members-loop-i
invariant-walk_members-loop-i l = record {
  deep : l.depth ≡ length l.initial.path.items;
  path : l.path.items ≡ l.initial.path.items;
  marks : map mark_view l.found ++ map (under (tokens l.initial.path.items)) (members_marks (fields (drop l.i (field_list l.object))))
      ≡ map mark_view l.initial.found ++ map (under (tokens l.initial.path.items)) (members_marks l.object);
}
