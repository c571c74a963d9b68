use Rattle.std.proofs.Common.{map, sym, ◌∙◌}
use Rattle.std.specs.List.{list_any}
use Rattle.spec_messages.specs.Policy.{same_sort}
use Rattle.policy_documents.specs.Words.{sort_view}
use Rattle.policy_documents.proofs.NameLemmas.{type_kept, type_passed}
use Rattle.policy_documents.proofs.read.kept.Goals.{then-is_listed+in_ok-push, else-is_listed}
use Rattle.policy_documents.proofs.read.kept.Goals as goal

pub loop-i-preserved : goal.loop-i-preserved
loop-i-preserved c = elim c.if-is_listed.branch [
  | then-is_listed+in_ok-push w ↦ rw (w.types-is, w.in_ok-push.ensures.ok) (type_kept (λ x. list_any (same_sort x) (map sort_view c.args.listed.now)) c.args.all.now c.loop-i.types c.loop-i.i c.item-sort.result.now c.item-sort.ensures c.loop-i.invariant (sym c.is_listed.ensures ∙ w.if-is_listed.true))
  | else-is_listed w ↦ rw (w.types-is) (type_passed (λ x. list_any (same_sort x) (map sort_view c.args.listed.now)) c.args.all.now c.loop-i.types c.loop-i.i c.item-sort.result.now c.item-sort.ensures c.loop-i.invariant (sym c.is_listed.ensures ∙ w.if-is_listed.false))
]
