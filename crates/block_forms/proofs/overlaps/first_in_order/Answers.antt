use Rattle.std.proofs.Common.{ℕ, ◌+◌, ◌∷◌, List, Option, Some, None, map, drop, sym, ap, subst, subst₂, ◌∙◌}
use Rattle.spec_documents.specs.Place.{Pointer}
use Rattle.block_forms.specs.declared.overlaps.Numbered.{Numbered}
use Rattle.block_forms.specs.Numbered.{number_view}
use Rattle.block_forms.proofs.Overlap.{Passed, passed_start, passed_aside, passed_later, passed_earlier, drop_view, first_view}
use Rattle.block_forms.proofs.overlaps.first_in_order.Goals as goal
use Rattle.block_forms.proofs.overlaps.first_in_order.Goals.{then-not-is_prefix, else-not-is_prefix+then-kept-next, else-not-is_prefix+else-kept-next}

pub loop-i-init : goal.loop-i-init
loop-i-init c =
    let whole = map number_view c.args.items.now in
    subst (λ (es : List (ℕ × Pointer)). Passed whole None es) (first_view c.args.items.now c.in_ok-kept.field-0.now c.in_ok-kept.ensures.value) (passed_start whole c.requires.order c.requires.once)

pub loop-i-preserved : goal.loop-i-preserved
loop-i-preserved c =
    let whole = map number_view c.args.items.now in
    let found = c.loop-i.found in
    let kept = number_view c.loop-i.kept in
    let next = number_view c.index-items-i.result in
    let rest = map number_view (drop (c.loop-i.i + 1) c.args.items.now) in
    let h : Passed whole found (kept ∷ next ∷ rest) =
    subst (λ (es : List (ℕ × Pointer)). Passed whole found (kept ∷ es)) (drop_view c.args.items.now c.loop-i.i c.index-items-i.result c.loop-i-test.true c.index-items-i.is) c.loop-i.invariant in
    let under = λ (f : Option ℕ) (k : Numbered). Passed whole f (number_view k ∷ rest) in
    elim c.if-not-is_prefix.branch [
      | then-not-is_prefix w ↦ subst₂ under (sym w.found-is) (sym w.kept-is) (passed_aside whole found kept next rest h (sym w.if-not-is_prefix.ensures))
      | else-not-is_prefix+then-kept-next w ↦ subst₂ under (sym (w.found-is ∙ ap Some w.least.ensures)) (sym w.kept-is) (passed_later whole found kept next rest h (sym w.if-not-is_prefix.ensures) w.if-kept-next.true)
      | else-not-is_prefix+else-kept-next w ↦ subst₂ under (sym (w.found-is ∙ ap Some w.least-else-kept-next.ensures)) (sym w.kept-is) (passed_earlier whole found kept next rest h (sym w.if-not-is_prefix.ensures) w.if-kept-next.false)
    ]
