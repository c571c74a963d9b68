use Rattle.std.proofs.Common.{◌≡◌, nat_lt, drop}
use Rattle.spec_messages.specs.Fault.{items_depth}
use Rattle.block_forms.proofs.depths.is_deep.Given as goal

abbrev pub invariant-loop-i : goal.invariant-loop-i
invariant-loop-i l = nat_lt 64 (items_depth (drop l.i l.list)) ≡ nat_lt 64 (items_depth l.list)
