use Rattle.std.proofs.Common.{sym, ◌∙◌}
use Rattle.policy_documents.proofs.SameLemmas.{pointer_then, pointer_else}
use Rattle.policy_documents.proofs.same.is_equal.Goals as goal

pub returns-then-is_prefix : goal.returns-then-is_prefix
returns-then-is_prefix c = c.is_prefix-then-is_prefix.ensures ∙ pointer_then c.args.one.now c.args.other.now (sym c.is_prefix.ensures ∙ c.if-is_prefix.true)

pub returns-else-is_prefix : goal.returns-else-is_prefix
returns-else-is_prefix c = c.is_prefix.ensures ∙ pointer_else c.args.one.now c.args.other.now (sym c.is_prefix.ensures ∙ c.if-is_prefix.false)
