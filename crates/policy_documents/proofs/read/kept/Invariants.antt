use Rattle.std.proofs.Common.{◌≡◌, map, filter, take}
use Rattle.std.specs.List.{list_any}
use Rattle.spec_messages.specs.Policy.{same_sort}
use Rattle.policy_documents.specs.Words.{sort_view}
use Rattle.policy_documents.proofs.read.kept.Given as goal

abbrev pub invariant-loop-i : goal.invariant-loop-i
invariant-loop-i l = map sort_view l.types ≡ filter (λ x. list_any (same_sort x) (map sort_view l.listed)) (map sort_view (take l.i l.all))
