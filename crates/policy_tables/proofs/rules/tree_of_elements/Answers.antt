use Rattle.spec_messages.specs.Policy.{is_sensitive}
use Rattle.http_message.specs.Reading.{kind_view}
use Rattle.policy_documents.specs.View.{element_view}
use Rattle.policy_tables.proofs.CoverTree.{element_at}
use Rattle.policy_tables.proofs.rules.tree_of_elements.Goals as goal

pub loop-i-preserved : goal.loop-i-preserved
loop-i-preserved c = element_at element_view (kind_view c.args.kind) (is_sensitive c.args.policy.now) c.args.elements.now c.loop-i.i c.item.result.now _ _ _ c.item.ensures c.in_ok-more.ensures c.loop-i.invariant
