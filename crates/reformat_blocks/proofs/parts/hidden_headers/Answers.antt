use Rattle.spec_messages.specs.Policy.{header_spot, part_value}
use Rattle.spec_messages.specs.Split.{hide_header}
use Rattle.http_message.specs.Reading.{header_view}
use Rattle.reformat_blocks.specs.Rules.{header_test}
use Rattle.reformat_blocks.proofs.Hiding.{hidden_step, stood_step, pushed}
use Rattle.reformat_blocks.proofs.parts.hidden_headers.Goals as goal

pub loop-i-preserved : goal.loop-i-preserved
loop-i-preserved c =
    let test = header_test c.args.rules.now in record {
      headers = hidden_step header_view test hide_header (λ h. part_value h.value) c.args.headers.now c.loop-i.i c.item.result.now c.loop-i.values c.hidden_header.new.values _ _ _ c.item.ensures c.in_ok-hidden_header.ensures.values
          (pushed header_view c.loop-i.hidden c.push.new.self c.in_ok-hidden_header.field-0 _ c.in_ok-push.ensures.ok c.in_ok-hidden_header.ensures.header) c.loop-i.invariant.headers;
      values = stood_step header_view test header_spot (λ h. part_value h.value) c.args.headers.now c.loop-i.i c.item.result.now c.loop-i.values c.hidden_header.new.values _ c.item.ensures c.in_ok-hidden_header.ensures.values c.loop-i.invariant.values;
    }
