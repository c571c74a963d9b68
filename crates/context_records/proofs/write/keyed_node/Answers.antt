use Rattle.context_records.proofs.Lists.{always}
use Rattle.context_records.proofs.write.keyed_node.Goals as goal

pub returns-clause-range : goal.returns-clause-range
returns-clause-range c =
    always c.with_name.result _ (
      c.with_name.ensures.range,
      record {
        send_request = c.in_ok-send.ensures.request;
        send_response = c.in_ok-send.ensures.response;
        receive_request = c.in_ok-receive.ensures.request;
        receive_response = c.in_ok-receive.ensures.response;
        first = c.number_node.ensures.range;
      },
    )
