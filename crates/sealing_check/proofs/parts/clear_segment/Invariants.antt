use Rattle.std.proofs.Common.{◌≡◌, map, drop}
use Rattle.http_message.specs.Reading.{part_view}
use Rattle.sealing_check.specs.Rules.{segment_test, segment_site}
use Rattle.sealing_check.specs.Found.{first_address}
use Rattle.sealing_check.proofs.parts.clear_segment.Given as goal

abbrev pub invariant-loop-i : goal.invariant-loop-i
invariant-loop-i l = first_address (segment_test l.sealed) (segment_site l.sealed) l.i (map part_view (drop l.i l.parts)) ≡ first_address (segment_test l.sealed) (segment_site l.sealed) 0 (map part_view l.parts)
