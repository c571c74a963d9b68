use Rattle.std.proofs.Common.{◌≡◌, ◌++◌, map, drop, length}
use Rattle.spec_messages.specs.Policy.{numbered, pair_spot, value_or_null}
use Rattle.spec_messages.specs.Split.{hide_each, hide_pair}
use Rattle.http_message.specs.Reading.{pair_view}
use Rattle.reformat_blocks.specs.Rules.{pair_test}
use Rattle.reformat_blocks.specs.Sent.{stood}
use Rattle.reformat_blocks.proofs.parts.hidden_pairs.Given as goal

abbrev pub invariant-loop-i : goal.invariant-loop-i
invariant-loop-i l = record {
  pairs : map pair_view l.hidden ++ hide_each (pair_test l.rules) hide_pair l.i (length l.values) (map pair_view (drop l.i l.pairs))
      ≡ hide_each (pair_test l.rules) hide_pair 0 (length l.initial.values) (map pair_view l.pairs);
  values : l.values ++ stood (numbered (pair_test l.rules) pair_spot (λ p. value_or_null p.value) l.i (map pair_view (drop l.i l.pairs)))
      ≡ l.initial.values ++ stood (numbered (pair_test l.rules) pair_spot (λ p. value_or_null p.value) 0 (map pair_view l.pairs));
}
