use Rattle.std.proofs.Common.{◌≡◌, ◌++◌, ◌∷◌, [], map, drop}
use Rattle.spec_documents.specs.Tree.{trees}
use Rattle.spec_documents.specs.Hole.{value_marks}
use Rattle.enc_index.specs.Marks.{mark_view, under, list_name, list_look}
use Rattle.enc_index.proofs.walk.push_list.Given as goal

abbrev pub invariant-loop-i : goal.invariant-loop-i
invariant-loop-i l =
    map mark_view l.found ++ map (under (list_name l.values ∷ [])) (value_marks (list_look l.values) l.i (trees (drop l.i l.list)))
    ≡ map mark_view l.initial.found ++ map (under (list_name l.values ∷ [])) (value_marks (list_look l.values) 0 (trees l.list))
