use Rattle.std.proofs.Common.{ℕ, List, map, sym, subst}
use Rattle.std.specs.List.Sorted.{IsPermutation}
use Rattle.std.proofs.lemmas.List.Sorted.{IsPermutation-map}
use Rattle.spec_documents.specs.Place.{Pointer}
use Rattle.block_forms.specs.declared.overlaps.Numbered.{Numbered}
use Rattle.block_forms.specs.Numbered.{number_view, numbered, IsFirst, AreOnce}
use Rattle.block_forms.proofs.Overlap.{once_moved, first_is}
use Rattle.block_forms.proofs.overlaps.first_overlap.Goals as goal

pub first_in_order-requires-clause-once : goal.first_in_order-requires-clause-once
first_in_order-requires-clause-once c =
    let sorted = c.sort.new.items.items in
    let moved : IsPermutation (numbered 1 c.args.paths.now) (map number_view sorted) =
    subst (λ (es : List (ℕ × Pointer)). IsPermutation es (map number_view sorted)) c.in_ok-items.ensures (IsPermutation-map number_view c.in_ok-items.items.items sorted c.sort.ensures.moved) in
    subst (λ (items : List Numbered). AreOnce (map number_view items)) (sym c.deref.ensures.value) (once_moved c.args.paths.now (map number_view sorted) moved)

pub returns : goal.returns
returns c =
    let sorted = c.sort.new.items.items in
    let moved : IsPermutation (numbered 1 c.args.paths.now) (map number_view sorted) =
    subst (λ (es : List (ℕ × Pointer)). IsPermutation es (map number_view sorted)) c.in_ok-items.ensures (IsPermutation-map number_view c.in_ok-items.items.items sorted c.sort.ensures.moved) in
    first_is c.args.paths.now (map number_view sorted) c.first_in_order.result moved
    (subst (λ (items : List Numbered). IsFirst c.first_in_order.result (map number_view items)) c.deref.ensures.value c.first_in_order.ensures)
