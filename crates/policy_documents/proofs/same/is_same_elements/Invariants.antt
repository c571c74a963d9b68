use Rattle.std.proofs.Common.{◌≡◌, map, drop}
use Rattle.spec_messages.specs.Policy.{same_list}
use Rattle.policy_documents.specs.Same.{same_element}
use Rattle.policy_documents.specs.View.{element_view}
use Rattle.policy_documents.proofs.same.is_same_elements.Given as goal

abbrev pub invariant-loop-i : goal.invariant-loop-i
invariant-loop-i l = same_list same_element (map element_view (drop l.i l.one)) (map element_view (drop l.i l.other)) ≡ same_list same_element (map element_view l.one) (map element_view l.other)
