use Rattle.std.proofs.Common.{◌≤◌, length, arith}
use Rattle.spec_messages.specs.Split.{fill_pair}
use Rattle.http_message.specs.Reading.{pair_view}
use Rattle.message_rebuilding.proofs.Values.{one_filled, all_filled}
use Rattle.message_rebuilding.proofs.filling.filled_pairs.Goals as goal

pub loop-i-preserved : goal.loop-i-preserved
loop-i-preserved c =
    one_filled pair_view (fill_pair c.args.values.now) c.args.pairs.now c.loop-i.i c.item.result.now _ c.loop-i.filled c.push.new.self c.item.ensures c.in_ok-filled_pair.ensures c.in_ok-push.ensures.ok c.loop-i.invariant

pub returns : goal.returns
returns c =
    let all : length c.args.pairs.now ≤ c.loop-i.i = omega arith in
    all_filled pair_view (fill_pair c.args.values.now) c.args.pairs.now c.loop-i.i c.loop-i.filled all c.loop-i.invariant
