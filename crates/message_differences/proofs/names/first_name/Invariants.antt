use Rattle.std.proofs.Common.{◌≡◌, [], map, filter, take, drop, find}
use Rattle.spec_messages.specs.Policy.{once_each}
use Rattle.message_differences.specs.Fixed.{fixed_by}
use Rattle.message_differences.specs.Named.{differ, address_of, Known}
use Rattle.message_differences.proofs.names.first_name.Given as goal

abbrev pub invariant-loop-i : goal.invariant-loop-i
invariant-loop-i l = record {
  known : Known (differ l.before l.after) (take l.i (map (λ n. n.now) l.names)) l.verdicts;
  left : find (fixed_by l.change) (map (address_of l.place) (filter (differ l.before l.after) (once_each (take l.i (map (λ n. n.now) l.names)) (drop l.i (map (λ n. n.now) l.names))))) ≡ find (fixed_by l.change) (map (address_of l.place) (filter (differ l.before l.after) (once_each [] (map (λ n. n.now) l.names))));
}
