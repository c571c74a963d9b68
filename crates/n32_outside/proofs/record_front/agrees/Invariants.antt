use Rattle.std.proofs.Common.{◌≡◌, drop}
use Rattle.n32_outside.specs.RecordFront.{agrees}
use Rattle.n32_outside.proofs.record_front.agrees.Given as goal

-- those before agree
abbrev pub invariant-loop-i : goal.invariant-loop-i
invariant-loop-i l = agrees (drop l.i l.text) (drop l.i l.pattern) ≡ agrees l.text l.pattern
