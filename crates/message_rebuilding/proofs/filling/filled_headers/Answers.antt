use Rattle.std.proofs.Common.{◌≤◌, length, arith}
use Rattle.spec_messages.specs.Split.{fill_header}
use Rattle.http_message.specs.Reading.{header_view}
use Rattle.message_rebuilding.proofs.Values.{one_filled, all_filled}
use Rattle.message_rebuilding.proofs.filling.filled_headers.Goals as goal

pub loop-i-preserved : goal.loop-i-preserved
loop-i-preserved c =
    one_filled header_view (fill_header c.args.values.now) c.args.headers.now c.loop-i.i c.item.result.now _ c.loop-i.filled c.push.new.self c.item.ensures c.in_ok-filled_header.ensures c.in_ok-push.ensures.ok c.loop-i.invariant

pub returns : goal.returns
returns c =
    let all : length c.args.headers.now ≤ c.loop-i.i = omega arith in
    all_filled header_view (fill_header c.args.values.now) c.args.headers.now c.loop-i.i c.loop-i.filled all c.loop-i.invariant
