use Rattle.spec_messages.specs.Policy.{segment_spot, part_value}
use Rattle.spec_messages.specs.Split.{hide_part}
use Rattle.http_message.specs.Reading.{part_view}
use Rattle.reformat_blocks.specs.Rules.{segment_test}
use Rattle.reformat_blocks.proofs.Hiding.{hidden_step, stood_step, pushed}
use Rattle.reformat_blocks.proofs.parts.hidden_segments.Goals as goal

pub loop-i-preserved : goal.loop-i-preserved
loop-i-preserved c =
    let test = segment_test c.args.rules.now in record {
      parts = hidden_step part_view test hide_part part_value c.args.parts.now c.loop-i.i c.item.result.now c.loop-i.values c.hidden_segment.new.values _ _ _ c.item.ensures c.in_ok-hidden_segment.ensures.values
          (pushed part_view c.loop-i.hidden c.push.new.self c.in_ok-hidden_segment.field-0 _ c.in_ok-push.ensures.ok c.in_ok-hidden_segment.ensures.part) c.loop-i.invariant.parts;
      values = stood_step part_view test segment_spot part_value c.args.parts.now c.loop-i.i c.item.result.now c.loop-i.values c.hidden_segment.new.values _ c.item.ensures c.in_ok-hidden_segment.ensures.values c.loop-i.invariant.values;
    }
