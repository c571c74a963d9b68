use Rattle.std.proofs.Common.{◌≡◌, drop}
use Rattle.spec_messages.specs.Outcome.{same_place_list}
use Rattle.block_patch.proofs.step.has_same_places.Given as goal

abbrev pub invariant-loop-i : goal.invariant-loop-i
invariant-loop-i l = same_place_list (drop l.i l.one) (drop l.i l.other) ≡ same_place_list l.one l.other
