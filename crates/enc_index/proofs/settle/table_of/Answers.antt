use Rattle.std.proofs.Common.{◌≡◌, List, ◌∷◌, ◌++◌, [], map, ap, sym, subst, ◌∙◌, append_assoc}
use Rattle.spec_documents.specs.Hole.{Mark, first_bad}
use Rattle.enc_index.specs.Places.{place_view}
use Rattle.enc_index.specs.Marks.{mark_view}
use Rattle.enc_index.specs.Tables.{Enters}
use Rattle.enc_index.proofs.MarkLists.{map-append}
use Rattle.enc_index.proofs.Settling.{entered, first_bad-front, good-more, places-bad}
use Rattle.enc_index.proofs.settle.table_of.Goals as goal

pub loop-mark-preserved : goal.loop-mark-preserved
loop-mark-preserved c =
    let mark = c.in-Some.mark in
    let done = map mark_view c.loop-mark.yielded in
    let shown : map mark_view (c.loop-mark.yielded ++ mark ∷ []) ≡ done ++ mark_view mark ∷ [] = map-append mark_view c.loop-mark.yielded (mark ∷ []) in
    let is : done ++ entered c.in-Some-below.index (place_view mark.place) ∷ [] ≡ done ++ mark_view mark ∷ [] =
    λ i. done ++ (record { place = place_view mark.place; index = sym c.in-Some-below.ensures.0 i }) ∷ [] in record {
      all = c.loop-mark.invariant.all ∙ ap (λ vs. c.loop-mark.yielded ++ vs) c.in-Some.ensures.steps.0 ∙ sym (append_assoc c.loop-mark.yielded (mark ∷ []) _);
      good = ap (first_bad c.args.count) shown ∙ good-more c.args.count done (mark_view mark) c.loop-mark.invariant.good c.in-Some-below.ensures.1;
      table = subst (λ (ks : List Mark). Enters c.enter.new.table ks) (is ∙ sym shown) (c.in_ok-enter-in-Some-below.ensures done c.loop-mark.invariant.table);
    }

pub returns-in-None-below : goal.returns-in-None-below
returns-in-None-below c =
    let mark = c.in-Some.mark in
    let done = map mark_view c.loop-mark.yielded in
    let all = c.loop-mark.invariant.all ∙ ap (λ vs. c.loop-mark.yielded ++ vs) c.in-Some.ensures.steps.0 in
    places-bad (map mark_view c.args.found) c.args.count (place_view mark.place)
    (ap (λ f. first_bad c.args.count (map mark_view f)) all ∙ ap (first_bad c.args.count) (map-append mark_view c.loop-mark.yielded _)
    ∙ first_bad-front c.args.count done (mark_view mark) _ c.loop-mark.invariant.good c.in-None-below.ensures)
