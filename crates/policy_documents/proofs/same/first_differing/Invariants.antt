use Rattle.std.proofs.Common.{◌≡◌, ◌≤◌, map, take, length}
use Rattle.policy_documents.specs.View.{mapping_view}
use Rattle.policy_documents.proofs.same.first_differing.Given as goal

abbrev pub invariant-loop-i : goal.invariant-loop-i
invariant-loop-i l = record { same : take l.i (map mapping_view l.one) ≡ take l.i (map mapping_view l.other); within : l.i ≤ length l.other }
