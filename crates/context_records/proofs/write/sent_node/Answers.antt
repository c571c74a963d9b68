use Rattle.context_records.proofs.Lists.{always}
use Rattle.context_records.proofs.write.sent_node.Goals as goal

pub returns-clause-range : goal.returns-clause-range
returns-clause-range c = always c.with_name.result _ (c.with_name.ensures.range, (c.number_node.ensures.range, c.in_ok-map.ensures.range))
