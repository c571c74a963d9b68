use Rattle.std.proofs.Common.{◌≡◌, map, take}
use Rattle.spec_messages.specs.PolicyDocument.{element_tree}
use Rattle.policy_documents.specs.View.{element_view}
use Rattle.policy_documents.proofs.write.elements_node.Given as goal

abbrev pub invariant-loop-i : goal.invariant-loop-i
invariant-loop-i l = l.list ≡ map element_tree (map element_view (take l.i l.elements))
