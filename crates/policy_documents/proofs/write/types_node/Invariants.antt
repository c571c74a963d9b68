use Rattle.std.proofs.Common.{◌≡◌, map, take}
use Rattle.spec_messages.specs.PolicyDocument.{sort_tree}
use Rattle.policy_documents.specs.Words.{sort_view}
use Rattle.policy_documents.proofs.write.types_node.Given as goal

abbrev pub invariant-loop-i : goal.invariant-loop-i
invariant-loop-i l = l.list ≡ map sort_tree (map sort_view (take l.i l.types))
