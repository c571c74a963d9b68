use Rattle.std.proofs.Common.{◌≡◌, map, take}
use Rattle.spec_messages.specs.Split.{fill_pair}
use Rattle.http_message.specs.Reading.{pair_view}
use Rattle.message_rebuilding.proofs.filling.filled_pairs.Given as goal

abbrev pub invariant-loop-i : goal.invariant-loop-i
invariant-loop-i l = map pair_view l.filled ≡ map (fill_pair l.values) (map pair_view (take l.i l.pairs))
