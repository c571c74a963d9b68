use Rattle.std.proofs.Common.{◌≤◌, length, arith}
use Rattle.spec_documents.specs.Text.{is_segment}
use Rattle.spec_messages.specs.Rebuilt.{misfit}
use Rattle.http_message.specs.Reading.{part_view}
use Rattle.message_rebuilding.proofs.Values.{one_less, all_less}
use Rattle.message_rebuilding.proofs.misfit.segments_misfit.Goals as goal

pub loop-i-preserved : goal.loop-i-preserved
loop-i-preserved c = one_less part_view (misfit is_segment c.args.values.now) c.args.parts.now c.loop-i.i c.item.result.now c.loop-i.least _ _ c.item.ensures c.misfit.ensures c.lesser-least.ensures c.loop-i.invariant

pub returns : goal.returns
returns c =
    let all : length c.args.parts.now ≤ c.loop-i.i = omega arith in
    all_less part_view (misfit is_segment c.args.values.now) c.args.parts.now c.loop-i.i c.loop-i.least all c.loop-i.invariant
