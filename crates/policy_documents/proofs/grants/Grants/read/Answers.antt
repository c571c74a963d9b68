use Rattle.std.proofs.Common.{sym, ◌∙◌}
use Rattle.n32_values.specs.View.{tree_of}
use Rattle.policy_documents.proofs.GrantLemmas.{none_given}
use Rattle.policy_documents.proofs.grants.Grants.read.Goals as goal

pub returns-then-not-are_grants : goal.returns-then-not-are_grants
returns-then-not-are_grants c = none_given (tree_of c.args.node.now) (sym c.are_grants.ensures ∙ c.if-not-are_grants.true)
