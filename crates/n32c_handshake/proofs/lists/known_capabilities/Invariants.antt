use Rattle.std.proofs.Common.{◌≡◌, map, drop}
use Rattle.spec_handshake.specs.Documents.{capability_of}
use Rattle.n32c_handshake.specs.View.{capability_view}
use Rattle.n32c_handshake.specs.Reading.{known_words}
use Rattle.n32c_handshake.proofs.Words.{with_front}
use Rattle.n32c_handshake.proofs.lists.known_capabilities.Given as goal

abbrev pub invariant-loop-i : goal.invariant-loop-i
invariant-loop-i l = with_front (map capability_view l.capabilities) (known_words capability_of (drop l.i l.list)) ≡ known_words capability_of l.list
