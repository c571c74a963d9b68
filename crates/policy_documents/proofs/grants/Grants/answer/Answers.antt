use Rattle.std.proofs.Common.{◌∙◌, ap}
use Rattle.n32_values.specs.View.{tree_of}
use Rattle.policy_documents.specs.Granted.{truth_in}
use Rattle.policy_documents.proofs.GrantLemmas.{answer_at}
use Rattle.policy_documents.proofs.grants.Grants.answer.Goals as goal

pub returns : goal.returns
returns c = c.truth_in.ensures ∙ ap truth_in c.get.ensures ∙ answer_at c.args.ipx.now (tree_of c.self.inside.node) c.in-Members.map c.args.self.now (ap tree_of c.in-Members.is) c.self.invariant c.self.view_is
