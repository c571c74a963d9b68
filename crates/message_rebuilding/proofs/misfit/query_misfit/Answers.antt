use Rattle.std.proofs.Common.{◌≤◌, length, arith}
use Rattle.spec_messages.specs.Rebuilt.{value_misfit}
use Rattle.http_message.specs.Reading.{pair_view}
use Rattle.message_rebuilding.proofs.Values.{one_less, all_less}
use Rattle.message_rebuilding.proofs.misfit.query_misfit.Goals as goal

pub loop-i-preserved : goal.loop-i-preserved
loop-i-preserved c = one_less pair_view (λ p. value_misfit c.args.values.now p.value) c.args.pairs.now c.loop-i.i c.item.result.now c.loop-i.least _ _ c.item.ensures c.pair_misfit.ensures c.lesser-least.ensures c.loop-i.invariant

pub returns : goal.returns
returns c =
    let all : length c.args.pairs.now ≤ c.loop-i.i = omega arith in
    all_less pair_view (λ p. value_misfit c.args.values.now p.value) c.args.pairs.now c.loop-i.i c.loop-i.least all c.loop-i.invariant
