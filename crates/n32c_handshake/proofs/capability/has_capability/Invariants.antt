use Rattle.std.proofs.Common.{◌≡◌, map, drop}
use Rattle.spec_handshake.specs.Calls.{has_capability}
use Rattle.n32c_handshake.specs.View.{capability_view}
use Rattle.n32c_handshake.proofs.capability.has_capability.Given as goal

abbrev pub invariant-loop-i : goal.invariant-loop-i
invariant-loop-i l = has_capability (map capability_view (drop l.i l.list)) (capability_view l.capability) ≡ has_capability (map capability_view l.list) (capability_view l.capability)
