use Rattle.policy_documents.proofs.PrintLemmas.{template_step}
use Rattle.policy_documents.proofs.write.push_template.Goals as goal

pub loop-i-preserved : goal.loop-i-preserved
loop-i-preserved c = template_step c.args.patterns.now c.loop-i.i c.item.result.now _ _ _ _ c.item.ensures c.in_ok-push_str.ensures.bytes c.in_ok-push_pattern.ensures c.loop-i.invariant
