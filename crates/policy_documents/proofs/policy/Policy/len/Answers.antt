use Rattle.std.proofs.lemmas.List.{length-map}
use Rattle.spec_messages.specs.PolicyDocument.{policy_tree}
use Rattle.spec_messages.proofs.PolicyBack.{policy_few}
use Rattle.policy_documents.specs.View.{mapping_view, policy_view}
use Rattle.policy_documents.proofs.policy.Policy.len.Goals as goal

pub returns-clause-few : goal.returns-clause-few
returns-clause-few c =
    let few = policy_few (policy_tree (policy_view c.self.inside.mappings c.self.inside.types)) (policy_view c.self.inside.mappings c.self.inside.types) c.self.invariant in
    rw (c.len.ensures) (rw (length-map c.self.inside.mappings mapping_view) at few)
