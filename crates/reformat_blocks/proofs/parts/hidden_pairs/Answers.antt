use Rattle.spec_messages.specs.Policy.{pair_spot, value_or_null}
use Rattle.spec_messages.specs.Split.{hide_pair}
use Rattle.http_message.specs.Reading.{pair_view}
use Rattle.reformat_blocks.specs.Rules.{pair_test}
use Rattle.reformat_blocks.proofs.Hiding.{hidden_step, stood_step, pushed}
use Rattle.reformat_blocks.proofs.parts.hidden_pairs.Goals as goal

pub loop-i-preserved : goal.loop-i-preserved
loop-i-preserved c =
    let test = pair_test c.args.rules.now in record {
      pairs = hidden_step pair_view test hide_pair (λ p. value_or_null p.value) c.args.pairs.now c.loop-i.i c.item.result.now c.loop-i.values c.hidden_pair.new.values _ _ _ c.item.ensures c.in_ok-hidden_pair.ensures.values
          (pushed pair_view c.loop-i.hidden c.push.new.self c.in_ok-hidden_pair.field-0 _ c.in_ok-push.ensures.ok c.in_ok-hidden_pair.ensures.pair) c.loop-i.invariant.pairs;
      values = stood_step pair_view test pair_spot (λ p. value_or_null p.value) c.args.pairs.now c.loop-i.i c.item.result.now c.loop-i.values c.hidden_pair.new.values _ c.item.ensures c.in_ok-hidden_pair.ensures.values c.loop-i.invariant.values;
    }
