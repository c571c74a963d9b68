use Rattle.std.proofs.Common.{◌≡◌, map, drop}
use Rattle.spec_messages.specs.Policy.{same_list}
use Rattle.spec_messages.specs.Policy.{same_sort}
use Rattle.policy_documents.specs.Words.{sort_view}
use Rattle.policy_documents.proofs.same.is_same_types.Given as goal

abbrev pub invariant-loop-i : goal.invariant-loop-i
invariant-loop-i l = same_list same_sort (map sort_view (drop l.i l.one)) (map sort_view (drop l.i l.other)) ≡ same_list same_sort (map sort_view l.one) (map sort_view l.other)
