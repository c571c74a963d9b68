use Rattle.std.proofs.Common.{◌∙◌, ap}
use Rattle.n32_values.specs.View.{tree_of}
use Rattle.spec_messages.specs.PolicyDocument.{grants_tree}
use Rattle.policy_documents.proofs.GrantLemmas.{written}
use Rattle.policy_documents.proofs.grants.Grants.node.Goals as goal

pub returns : goal.returns
returns c = c.in_ok-node.ensures ∙ written (tree_of c.self.inside.node) c.self.invariant ∙ ap grants_tree c.self.view_is
