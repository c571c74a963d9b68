use Rattle.std.proofs.Common.{◌≡◌, map, drop, length}
use Rattle.spec_messages.specs.Policy.{same_list, same_named}
use Rattle.message_differences.specs.Named.{named_view}
use Rattle.message_differences.proofs.named.is_same_list.Given as goal

abbrev pub invariant-loop-i : goal.invariant-loop-i
invariant-loop-i l = record {
  long : length l.one ≡ length l.other;
  same : same_list same_named (map named_view (drop l.i l.one)) (map named_view (drop l.i l.other)) ≡ same_list same_named (map named_view l.one) (map named_view l.other);
}
