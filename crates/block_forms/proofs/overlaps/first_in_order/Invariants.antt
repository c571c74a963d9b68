use Rattle.std.proofs.Common.{◌∷◌, map, drop}
use Rattle.block_forms.specs.Numbered.{number_view}
use Rattle.block_forms.proofs.Overlap.{Passed}
use Rattle.block_forms.proofs.overlaps.first_in_order.Given as goal

abbrev pub invariant-loop-i : goal.invariant-loop-i
invariant-loop-i l = Passed (map number_view l.items) l.found (number_view l.kept ∷ map number_view (drop l.i l.items))
