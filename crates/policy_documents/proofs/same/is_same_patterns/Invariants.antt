use Rattle.std.proofs.Common.{◌≡◌, map, drop}
use Rattle.spec_messages.specs.Policy.{same_list}
use Rattle.policy_documents.specs.Same.{same_pattern}
use Rattle.policy_documents.specs.View.{pattern_view}
use Rattle.policy_documents.proofs.same.is_same_patterns.Given as goal

abbrev pub invariant-loop-i : goal.invariant-loop-i
invariant-loop-i l = same_list same_pattern (map pattern_view (drop l.i l.one)) (map pattern_view (drop l.i l.other)) ≡ same_list same_pattern (map pattern_view l.one) (map pattern_view l.other)
