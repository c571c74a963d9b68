use Rattle.std.proofs.Common.{◌≡◌, map, take}
use Rattle.spec_handshake.specs.Documents.{provider_tree}
use Rattle.n32c_handshake.proofs.write.providers_node.Given as goal

abbrev pub invariant-loop-i : goal.invariant-loop-i
invariant-loop-i l = l.list ≡ map provider_tree (map (λ s. s) (take l.i l.identities))
