use Rattle.std.proofs.Common.{◌≤◌, length, arith}
use Rattle.spec_documents.specs.Text.{is_header_value}
use Rattle.spec_messages.specs.Rebuilt.{misfit}
use Rattle.http_message.specs.Reading.{header_view}
use Rattle.message_rebuilding.proofs.Values.{one_less, all_less}
use Rattle.message_rebuilding.proofs.misfit.headers_misfit.Goals as goal

pub loop-i-preserved : goal.loop-i-preserved
loop-i-preserved c = one_less header_view (λ h. misfit is_header_value c.args.values.now h.value) c.args.headers.now c.loop-i.i c.item.result.now c.loop-i.least _ _ c.item.ensures c.misfit.ensures c.lesser-least.ensures c.loop-i.invariant

pub returns : goal.returns
returns c =
    let all : length c.args.headers.now ≤ c.loop-i.i = omega arith in
    all_less header_view (λ h. misfit is_header_value c.args.values.now h.value) c.args.headers.now c.loop-i.i c.loop-i.least all c.loop-i.invariant
