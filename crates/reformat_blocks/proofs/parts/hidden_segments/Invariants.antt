use Rattle.std.proofs.Common.{◌≡◌, ◌++◌, map, drop, length}
use Rattle.spec_messages.specs.Policy.{numbered, segment_spot, part_value}
use Rattle.spec_messages.specs.Split.{hide_each, hide_part}
use Rattle.http_message.specs.Reading.{part_view}
use Rattle.reformat_blocks.specs.Rules.{segment_test}
use Rattle.reformat_blocks.specs.Sent.{stood}
use Rattle.reformat_blocks.proofs.parts.hidden_segments.Given as goal

abbrev pub invariant-loop-i : goal.invariant-loop-i
invariant-loop-i l = record {
  parts : map part_view l.hidden ++ hide_each (segment_test l.rules) hide_part l.i (length l.values) (map part_view (drop l.i l.parts))
      ≡ hide_each (segment_test l.rules) hide_part 0 (length l.initial.values) (map part_view l.parts);
  values : l.values ++ stood (numbered (segment_test l.rules) segment_spot part_value l.i (map part_view (drop l.i l.parts)))
      ≡ l.initial.values ++ stood (numbered (segment_test l.rules) segment_spot part_value 0 (map part_view l.parts));
}
