use Rattle.std.proofs.Common.{◌≡◌, map, drop}
use Rattle.spec_documents.specs.Text.{is_segment}
use Rattle.spec_messages.specs.Rebuilt.{lesser, least, misfit}
use Rattle.http_message.specs.Reading.{part_view}
use Rattle.message_rebuilding.proofs.misfit.segments_misfit.Given as goal

abbrev pub invariant-loop-i : goal.invariant-loop-i
invariant-loop-i l = lesser l.least (least (map (misfit is_segment l.values) (map part_view (drop l.i l.parts)))) ≡ least (map (misfit is_segment l.values) (map part_view l.parts))
