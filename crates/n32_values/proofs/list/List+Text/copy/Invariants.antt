use Rattle.std.proofs.Common.{◌≡◌, take}
use Rattle.n32_values.proofs.list.«List+Text».copy.Given as goal

abbrev pub invariant-loop-text : goal.invariant-loop-text
invariant-loop-text l = l.copies ≡ take l.text-index l.text-items
