use Rattle.std.proofs.Common.{◌≡◌, map, drop}
use Rattle.std.specs.List.{list_any}
use Rattle.enc_index.specs.Marks.{mark_view}
use Rattle.enc_index.specs.About.{is_object_above}
use Rattle.enc_index.proofs.marked.is_any_above.Given as goal

abbrev pub invariant-loop-i : goal.invariant-loop-i
invariant-loop-i l = list_any (is_object_above l.place) (map mark_view (drop l.i l.found)) ≡ list_any (is_object_above l.place) (map mark_view l.found)
