use Rattle.std.proofs.Common.{◌≡◌, map, take}
use Rattle.spec_messages.specs.Split.{fill_part}
use Rattle.http_message.specs.Reading.{part_view}
use Rattle.message_rebuilding.proofs.filling.filled_segments.Given as goal

abbrev pub invariant-loop-i : goal.invariant-loop-i
invariant-loop-i l = map part_view l.filled ≡ map (fill_part l.values) (map part_view (take l.i l.parts))
