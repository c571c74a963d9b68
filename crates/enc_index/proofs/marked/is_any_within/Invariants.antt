use Rattle.std.proofs.Common.{◌≡◌, map, drop}
use Rattle.std.specs.List.{list_any}
use Rattle.spec_documents.specs.Place.{is_prefix}
use Rattle.enc_index.specs.Marks.{mark_view}
use Rattle.enc_index.proofs.marked.is_any_within.Given as goal

abbrev pub invariant-loop-i : goal.invariant-loop-i
invariant-loop-i l = list_any (λ m. is_prefix l.place m.place.pointer) (map mark_view (drop l.i l.found)) ≡ list_any (λ m. is_prefix l.place m.place.pointer) (map mark_view l.found)
