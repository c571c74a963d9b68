use Rattle.std.proofs.Common.{◌≡◌, filter, take}
use Rattle.message_differences.specs.Named.{stays}
use Rattle.message_differences.proofs.names.unchanged.Given as goal

abbrev pub invariant-loop-named : goal.invariant-loop-named
invariant-loop-named l = l.kept.items ≡ filter (λ n. stays l.verdicts n.name.now) (take l.named-index l.list)
