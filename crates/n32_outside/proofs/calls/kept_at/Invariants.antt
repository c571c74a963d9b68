use Rattle.std.proofs.Common.{◌≡◌, drop}
use Rattle.n32_outside.specs.Calls.{keeps_at}
use Rattle.n32_outside.proofs.calls.kept_at.Given as goal

-- those before don't decide
abbrev pub invariant-loop-item : goal.invariant-loop-item
invariant-loop-item l = keeps_at (drop l.item-index l.item-items) l.call ≡ keeps_at l.item-items l.call
