use Rattle.std.proofs.Common.{◌≡◌, map, take}
use Rattle.spec_messages.specs.PolicyDocument.{mapping_tree}
use Rattle.policy_documents.specs.View.{mapping_view}
use Rattle.policy_documents.proofs.write.mappings_node.Given as goal

abbrev pub invariant-loop-i : goal.invariant-loop-i
invariant-loop-i l = l.list ≡ map mapping_tree (map mapping_view (take l.i l.mappings))
