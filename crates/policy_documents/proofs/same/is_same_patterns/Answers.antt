use Rattle.std.proofs.Common.{sym, ◌∙◌}
use Rattle.policy_documents.specs.Same.{same_pattern}
use Rattle.policy_documents.specs.View.{pattern_view}
use Rattle.policy_documents.proofs.SameLemmas.{same_at, differ_at}
use Rattle.policy_documents.proofs.same.is_same_patterns.Goals as goal

pub loop-i-preserved : goal.loop-i-preserved
loop-i-preserved c = same_at pattern_view same_pattern c.args.one.now c.args.other.now c.loop-i.i c.item.result.now c.item-in-loop-i.result.now _ c.item.ensures c.item-in-loop-i.ensures c.loop-i.invariant (sym c.is_same_pattern.ensures ∙ c.if-not-is_same_pattern.false)

pub returns-then-not-is_same_pattern : goal.returns-then-not-is_same_pattern
returns-then-not-is_same_pattern c = differ_at pattern_view same_pattern c.args.one.now c.args.other.now c.loop-i.i c.item.result.now c.item-in-loop-i.result.now _ c.item.ensures c.item-in-loop-i.ensures c.loop-i.invariant (sym c.is_same_pattern.ensures ∙ c.if-not-is_same_pattern.true)
