use Rattle.std.proofs.Common.{◌≡◌, drop}
use Rattle.std.specs.List.{list_all}
use Rattle.std.proofs.Common.{is_some}
use Rattle.spec_documents.specs.Fields.{field_list}
use Rattle.spec_messages.specs.PolicyDocument.{grant_of}
use Rattle.policy_documents.proofs.grants.are_members.Given as goal

abbrev pub invariant-loop-i : goal.invariant-loop-i
invariant-loop-i l = list_all (λ e. is_some (grant_of e)) (drop l.i (field_list l.map)) ≡ list_all (λ e. is_some (grant_of e)) (field_list l.map)
