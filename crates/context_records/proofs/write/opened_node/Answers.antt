use Rattle.context_records.proofs.Lists.{always}
use Rattle.context_records.proofs.write.opened_node.Goals as goal

pub returns-clause-range : goal.returns-clause-range
returns-clause-range c =
    always c.with_name.result _ (record {
      id = c.with_name.ensures.range;
      peer = c.id_node.ensures.range;
      plmn = rw c.as_str.ensures.value at c.as_str.ensures.digits;
      policy = c.len-mappings.ensures.again;
    })
