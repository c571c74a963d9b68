use Rattle.std.proofs.Common.{sym, ◌∙◌}
use Rattle.spec_messages.specs.Policy.{same_sort}
use Rattle.policy_documents.specs.Words.{sort_view}
use Rattle.policy_documents.proofs.Lists.{any_here, any_later}
use Rattle.policy_documents.proofs.read.is_listed.Goals as goal

pub loop-i-preserved : goal.loop-i-preserved
loop-i-preserved c = any_later sort_view (same_sort (sort_view c.args.sort)) c.args.types.now c.loop-i.i c.item.result.now _ c.item.ensures c.loop-i.invariant (sym c.is_same.ensures ∙ c.if-is_same.false)

pub returns-then-is_same : goal.returns-then-is_same
returns-then-is_same c = any_here sort_view (same_sort (sort_view c.args.sort)) c.args.types.now c.loop-i.i c.item.result.now _ c.item.ensures c.loop-i.invariant (sym c.is_same.ensures ∙ c.if-is_same.true)
