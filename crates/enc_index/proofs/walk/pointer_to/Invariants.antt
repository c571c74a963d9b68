use Rattle.std.proofs.Common.{◌≡◌, take}
use Rattle.enc_index.specs.Marks.{tokens}
use Rattle.enc_index.proofs.walk.pointer_to.Given as goal

abbrev pub invariant-loop-i : goal.invariant-loop-i
invariant-loop-i l = l.pointer ≡ tokens (take l.i l.path)
