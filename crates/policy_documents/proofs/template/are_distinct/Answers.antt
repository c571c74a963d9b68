use Rattle.std.proofs.Common.{Some, sym, ap, ◌∙◌}
use Rattle.policy_documents.proofs.TemplateLemmas.{distinct_fixed, distinct_more, distinct_twice}
use Rattle.policy_documents.proofs.template.are_distinct.Goals.{in-Fixed, in-Variable+else-has_variable}
use Rattle.policy_documents.proofs.template.are_distinct.Goals as goal

pub loop-i-preserved : goal.loop-i-preserved
loop-i-preserved c = elim c.match-item.branch [
  | in-Fixed w ↦ distinct_fixed c.args.patterns.now c.loop-i.i _ _ (c.item.ensures ∙ ap Some w.in-Fixed.is) c.loop-i.invariant
  | in-Variable+else-has_variable w ↦ distinct_more c.args.patterns.now c.loop-i.i w.in-Variable.name _ (c.item.ensures ∙ ap Some w.in-Variable.is) c.loop-i.invariant (sym (rw w.as_str.ensures at w.has_variable.ensures) ∙ w.if-has_variable.false)
]

pub returns-then-has_variable : goal.returns-then-has_variable
returns-then-has_variable c =
    distinct_twice c.args.patterns.now c.loop-i.i c.in-Variable.name _ (c.item.ensures ∙ ap Some c.in-Variable.is) c.loop-i.invariant (sym (rw c.as_str.ensures at c.has_variable.ensures) ∙ c.if-has_variable.true)
