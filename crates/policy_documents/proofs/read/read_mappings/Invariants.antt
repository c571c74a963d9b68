use Rattle.std.proofs.Common.{◌≡◌, ◌+◌, map, drop}
use Rattle.spec_messages.specs.PolicyDocument.{mappings_from}
use Rattle.policy_documents.specs.View.{mapping_view}
use Rattle.policy_documents.proofs.Lists.{onto}
use Rattle.policy_documents.proofs.read.read_mappings.Given as goal

abbrev pub invariant-loop-i : goal.invariant-loop-i
invariant-loop-i l = onto (map mapping_view l.mappings) (mappings_from (l.i + 1) (drop l.i l.list)) ≡ mappings_from 1 l.list
