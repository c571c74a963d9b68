use Rattle.std.proofs.Common.{sym, ◌∙◌}
use Rattle.spec_messages.specs.Policy.{same_sort}
use Rattle.policy_documents.specs.Words.{sort_view}
use Rattle.policy_documents.proofs.SameLemmas.{same_at, differ_at}
use Rattle.policy_documents.proofs.same.is_same_types.Goals as goal

pub loop-i-preserved : goal.loop-i-preserved
loop-i-preserved c = same_at sort_view same_sort c.args.one.now c.args.other.now c.loop-i.i c.item.result.now c.item-in-loop-i.result.now _ c.item.ensures c.item-in-loop-i.ensures c.loop-i.invariant (sym c.is_same.ensures ∙ c.if-not-is_same.false)

pub returns-then-not-is_same : goal.returns-then-not-is_same
returns-then-not-is_same c = differ_at sort_view same_sort c.args.one.now c.args.other.now c.loop-i.i c.item.result.now c.item-in-loop-i.result.now _ c.item.ensures c.item-in-loop-i.ensures c.loop-i.invariant (sym c.is_same.ensures ∙ c.if-not-is_same.true)
