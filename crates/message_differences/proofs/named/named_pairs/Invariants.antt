use Rattle.std.proofs.Common.{◌≡◌, map, take}
use Rattle.spec_messages.specs.Policy.{pairs_named}
use Rattle.http_message.specs.Reading.{pair_view}
use Rattle.message_differences.specs.Named.{named_view}
use Rattle.message_differences.proofs.named.named_pairs.Given as goal

abbrev pub invariant-loop-i : goal.invariant-loop-i
invariant-loop-i l = map named_view l.list.items ≡ pairs_named (map pair_view (take l.i l.pairs))
