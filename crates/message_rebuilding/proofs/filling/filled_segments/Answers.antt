use Rattle.std.proofs.Common.{◌≤◌, length, arith}
use Rattle.spec_messages.specs.Split.{fill_part}
use Rattle.http_message.specs.Reading.{part_view}
use Rattle.message_rebuilding.proofs.Values.{one_filled, all_filled}
use Rattle.message_rebuilding.proofs.filling.filled_segments.Goals as goal

pub loop-i-preserved : goal.loop-i-preserved
loop-i-preserved c =
    one_filled part_view (fill_part c.args.values.now) c.args.parts.now c.loop-i.i c.item.result.now _ c.loop-i.filled c.push.new.self c.item.ensures c.in_ok-filled_part.ensures c.in_ok-push.ensures.ok c.loop-i.invariant

pub returns : goal.returns
returns c =
    let all : length c.args.parts.now ≤ c.loop-i.i = omega arith in
    all_filled part_view (fill_part c.args.values.now) c.args.parts.now c.loop-i.i c.loop-i.filled all c.loop-i.invariant
