use Rattle.n32_values.specs.View.{tree_of}
use Rattle.spec_messages.proofs.PolicyBack.{policy_back}
use Rattle.policy_documents.specs.View.{policy_view}
use Rattle.policy_documents.proofs.read.read_policy.Goals as goal

pub of_parts-requires : goal.of_parts-requires
of_parts-requires c = policy_back (tree_of c.args.node.now) (policy_view c.in_ok-mappings.mappings c.in_ok-mappings.types) c.in_ok-mappings.ensures
