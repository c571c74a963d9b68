use Rattle.std.proofs.Common.{◌≡◌, ◌++◌, map, drop, length}
use Rattle.spec_messages.specs.Policy.{numbered, header_spot, part_value}
use Rattle.spec_messages.specs.Split.{hide_each, hide_header}
use Rattle.http_message.specs.Reading.{header_view}
use Rattle.reformat_blocks.specs.Rules.{header_test}
use Rattle.reformat_blocks.specs.Sent.{stood}
use Rattle.reformat_blocks.proofs.parts.hidden_headers.Given as goal

abbrev pub invariant-loop-i : goal.invariant-loop-i
invariant-loop-i l = record {
  headers : map header_view l.hidden ++ hide_each (header_test l.rules) hide_header l.i (length l.values) (map header_view (drop l.i l.headers))
      ≡ hide_each (header_test l.rules) hide_header 0 (length l.initial.values) (map header_view l.headers);
  values : l.values ++ stood (numbered (header_test l.rules) header_spot (λ h. part_value h.value) l.i (map header_view (drop l.i l.headers)))
      ≡ l.initial.values ++ stood (numbered (header_test l.rules) header_spot (λ h. part_value h.value) 0 (map header_view l.headers));
}
