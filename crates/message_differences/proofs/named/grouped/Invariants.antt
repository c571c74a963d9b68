use Rattle.std.proofs.Common.{◌≡◌, ℕ, List, take, filter, bytes_eq}
use Rattle.message_differences.specs.Named.{items_of}
use Rattle.message_differences.proofs.named.grouped.Given as goal

abbrev pub invariant-loop-named : goal.invariant-loop-named
invariant-loop-named l = (q : List ℕ) → items_of q l.groups ≡ filter (λ n. bytes_eq q n.name.now) (take l.named-index l.list)
