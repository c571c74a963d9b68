use Rattle.std.proofs.Common.{◌≡◌, map, drop}
use Rattle.http_message.specs.Reading.{pair_view}
use Rattle.sealing_check.specs.Rules.{pair_test}
use Rattle.sealing_check.specs.Found.{first_address, pair_site}
use Rattle.sealing_check.proofs.parts.clear_pair.Given as goal

abbrev pub invariant-loop-i : goal.invariant-loop-i
invariant-loop-i l = first_address (pair_test l.sealed) pair_site l.i (map pair_view (drop l.i l.pairs)) ≡ first_address (pair_test l.sealed) pair_site 0 (map pair_view l.pairs)
