use Rattle.std.proofs.Common.{◌≡◌, map, drop, Some}
use Rattle.spec_messages.specs.Message.{all_read}
use Rattle.spec_messages.specs.PolicyDocument.{chosen, sort_of}
use Rattle.policy_documents.specs.Words.{sort_view}
use Rattle.policy_documents.proofs.Lists.{with_front}
use Rattle.policy_documents.proofs.read.read_type_list.Given as goal

abbrev pub invariant-loop-i : goal.invariant-loop-i
invariant-loop-i l = with_front (map sort_view l.types) (all_read (λ t. chosen sort_of (Some t)) (drop l.i l.list)) ≡ all_read (λ t. chosen sort_of (Some t)) l.list
