use Rattle.std.proofs.Common.{◌≡◌, take}
use Rattle.policy_documents.proofs.copy.copy_elements.Given as goal

abbrev pub invariant-loop-i : goal.invariant-loop-i
invariant-loop-i l = l.copies ≡ take l.i l.elements
