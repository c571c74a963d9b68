use Rattle.std.proofs.Common.{sym, ◌∙◌}
use Rattle.policy_documents.specs.Same.{same_element}
use Rattle.policy_documents.specs.View.{element_view}
use Rattle.policy_documents.proofs.SameLemmas.{same_at, differ_at}
use Rattle.policy_documents.proofs.same.is_same_elements.Goals as goal

pub loop-i-preserved : goal.loop-i-preserved
loop-i-preserved c = same_at element_view same_element c.args.one.now c.args.other.now c.loop-i.i c.item.result.now c.item-in-loop-i.result.now _ c.item.ensures c.item-in-loop-i.ensures c.loop-i.invariant (sym c.is_same_element.ensures ∙ c.if-not-is_same_element.false)

pub returns-then-not-is_same_element : goal.returns-then-not-is_same_element
returns-then-not-is_same_element c = differ_at element_view same_element c.args.one.now c.args.other.now c.loop-i.i c.item.result.now c.item-in-loop-i.result.now _ c.item.ensures c.item-in-loop-i.ensures c.loop-i.invariant (sym c.is_same_element.ensures ∙ c.if-not-is_same_element.true)
