use Rattle.std.proofs.Common.{sym, ◌∙◌}
use Rattle.policy_documents.proofs.TemplateLemmas.{named_here, named_later}
use Rattle.policy_documents.proofs.template.has_variable.Goals as goal

pub loop-i-preserved : goal.loop-i-preserved
loop-i-preserved c = named_later c.args.patterns.now c.loop-i.i c.item.result.now c.args.name.now _ c.item.ensures c.loop-i.invariant (sym c.is_variable.ensures ∙ c.if-is_variable.false)

pub returns-then-is_variable : goal.returns-then-is_variable
returns-then-is_variable c = named_here c.args.patterns.now c.loop-i.i c.item.result.now c.args.name.now _ c.item.ensures c.loop-i.invariant (sym c.is_variable.ensures ∙ c.if-is_variable.true)
