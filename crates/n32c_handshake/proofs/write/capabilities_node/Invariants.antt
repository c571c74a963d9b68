use Rattle.std.proofs.Common.{◌≡◌, map, take}
use Rattle.spec_documents.specs.Tree.{words}
use Rattle.spec_handshake.specs.Documents.{capability_text}
use Rattle.n32c_handshake.specs.View.{capability_view}
use Rattle.n32c_handshake.proofs.write.capabilities_node.Given as goal

abbrev pub invariant-loop-i : goal.invariant-loop-i
invariant-loop-i l = l.list ≡ map (λ c. words (capability_text c)) (map capability_view (take l.i l.capabilities))
