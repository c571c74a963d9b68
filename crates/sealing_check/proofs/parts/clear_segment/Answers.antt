use Rattle.std.proofs.Common.{Some, sym, ap, ◌∙◌}
use Rattle.http_message.specs.Reading.{part_view}
use Rattle.sealing_check.specs.Rules.{segment_test, segment_site}
use Rattle.sealing_check.proofs.FirstOfList.{first_here, first_later}
use Rattle.sealing_check.proofs.parts.clear_segment.Goals as goal

pub loop-i-preserved : goal.loop-i-preserved
loop-i-preserved c = first_later part_view (segment_test c.args.sealed.now) (segment_site c.args.sealed.now) c.args.parts.now c.loop-i.i c.item.result.now _ c.item.ensures c.loop-i.invariant (sym c.is_segment_clear.ensures ∙ c.if-is_segment_clear.false)

pub returns-then-is_segment_clear : goal.returns-then-is_segment_clear
returns-then-is_segment_clear c = ap Some c.in_ok-address.ensures ∙ first_here part_view (segment_test c.args.sealed.now) (segment_site c.args.sealed.now) c.args.parts.now c.loop-i.i c.item.result.now _ c.item.ensures c.loop-i.invariant (sym c.is_segment_clear.ensures ∙ c.if-is_segment_clear.true)
