use Rattle.std.proofs.Common.{sym, ◌∙◌, ap}
use Rattle.n32_values.specs.View.{tree_of}
use Rattle.policy_documents.specs.Granted.{grants_in}
use Rattle.policy_documents.proofs.GrantLemmas.{same_written}
use Rattle.policy_documents.proofs.grants.Grants.is_same.Goals as goal

pub returns : goal.returns
returns c = (
  λ t. sym c.self.view_is ∙ ap grants_in (c.is_same_doc.ensures.0 t) ∙ c.other.view_is,
  λ e. c.is_same_doc.ensures.1 (same_written (tree_of c.self.inside.node) (tree_of c.other.inside.node) c.self.invariant c.other.invariant (c.self.view_is ∙ e ∙ sym c.other.view_is)),
)
