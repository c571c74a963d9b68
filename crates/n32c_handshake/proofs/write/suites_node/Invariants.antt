use Rattle.std.proofs.Common.{◌≡◌, map, take}
use Rattle.spec_documents.specs.Tree.{words}
use Rattle.spec_sealing.specs.Suites.{suite_name}
use Rattle.jwe_flat.specs.View.{suite_view}
use Rattle.n32c_handshake.proofs.write.suites_node.Given as goal

abbrev pub invariant-loop-i : goal.invariant-loop-i
invariant-loop-i l = l.list ≡ map (λ c. words (suite_name c)) (map suite_view (take l.i l.suites))
