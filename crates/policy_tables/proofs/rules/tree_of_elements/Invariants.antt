use Rattle.std.proofs.Common.{◌≡◌, map, filter, drop}
use Rattle.spec_documents.specs.Tree.{members, no_members}
use Rattle.spec_messages.specs.Policy.{is_sensitive}
use Rattle.http_message.specs.Reading.{kind_view}
use Rattle.n32_values.specs.View.{tree_of}
use Rattle.policy_documents.specs.View.{element_view}
use Rattle.policy_tables.specs.Covered.{with_elements}
use Rattle.policy_tables.proofs.rules.tree_of_elements.Given as goal

abbrev pub invariant-loop-i : goal.invariant-loop-i
invariant-loop-i l = with_elements (kind_view l.kind) (filter (is_sensitive l.policy) (map element_view (drop l.i l.elements))) (tree_of l.tree)
    ≡ with_elements (kind_view l.kind) (filter (is_sensitive l.policy) (map element_view l.elements)) (members no_members)
