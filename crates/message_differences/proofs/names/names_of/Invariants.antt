use Rattle.std.proofs.Common.{◌≡◌, ◌++◌, map, take}
use Rattle.message_differences.specs.Named.{named_view}
use Rattle.message_differences.proofs.names.names_of.Given as goal

abbrev pub invariant-loop-named : goal.invariant-loop-named
invariant-loop-named l = map (λ n. n.now) l.names.items ≡ map (λ a. a.0) (map named_view (take l.named-index l.before))

abbrev pub invariant-loop-named-2 : goal.invariant-loop-named-2
invariant-loop-named-2 l = map (λ n. n.now) l.names.items ≡ map (λ a. a.0) (map named_view l.before) ++ map (λ a. a.0) (map named_view (take l.named-index l.after))
