use Rattle.std.proofs.Common.{◌≡◌, find, map, take, None}
use Rattle.spec_handshake.specs.Starts.{waits}
use Rattle.n32c_handshake.specs.View.{start_view, waiting_view}
use Rattle.n32c_handshake.proofs.starts.first_in.Given as goal

abbrev pub invariant-loop-i : goal.invariant-loop-i
invariant-loop-i l = find (waits l.node l.call.value l.sender (waiting_view l.waiting)) (take l.i (map start_view l.starts)) ≡ None
