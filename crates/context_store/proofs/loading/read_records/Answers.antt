use Rattle.std.proofs.Common.{◌∙◌, ◌≡◌, ◌++◌, ◌∷◌, [], length, map, ap, arith, refl}
use Rattle.std.proofs.lemmas.List.{length_push, map-append}
use Rattle.std.proofs.lemmas.Result.{err_from_is_err_and}
use Rattle.spec_documents.proofs.GuardLemmas.{all-append}
use Rattle.spec_records.specs.RecordDocument.{is_well_named}
use Rattle.context_records.specs.View.{record_view}
use Rattle.context_store.proofs.Kept.{front_more, bad_here}
use Rattle.context_store.proofs.loading.read_records.Goals as goal

pub returns-in_err-record-in-Ok-Some-clause-journal : goal.returns-in_err-record-in-Ok-Some-clause-journal
returns-in_err-record-in-Ok-Some-clause-journal g c =
    let p = err_from_is_err_and c.from_residual.result c.from_residual.ensures.1 in
    let l = c.loop-records.invariant in
    rw (p.1, p.2)
    (bad_here (g.K.Keeper.held c.args.keeper.now) (g.K.Keeper.held c.loop-records.keeper) c.loop-records.number _ _ c.in-Ok-Some.text _ l.front (omega (arith, l.counted, l.few)) l.same c.in-Ok-Some.ensures.items c.in-Ok-Some.field-0-is
    (rw c.as_slice.ensures at c.in_err-record-in-Ok-Some.ensures.refused))

pub loop-records-preserved : goal.loop-records-preserved
loop-records-preserved g c =
    let l = c.loop-records.invariant in
    let more = c.in_ok-push-in-Ok-Some.ensures.ok in
    let longer = length_push c.loop-records.records.items c.in_ok-record-in-Ok-Some.record in
    let size : length c.push.new.records.items ≡ length (c.loop-records.records.items ++ c.in_ok-record-in-Ok-Some.record ∷ []) = ap length more in
    record {
      counted = omega (arith, l.counted, size, longer);
      few = omega (arith, l.counted, c.in_ok-record-in-Ok-Some.ensures.room, size, longer);
      named = rw (more, map-append record_view c.loop-records.records.items (c.in_ok-record-in-Ok-Some.record ∷ []))
          (all-append is_well_named (map record_view c.loop-records.records.items) (record_view c.in_ok-record-in-Ok-Some.record ∷ []) l.named (rw c.in_ok-record-in-Ok-Some.ensures.named refl));
      front = rw (more, map-append record_view c.loop-records.records.items (c.in_ok-record-in-Ok-Some.record ∷ []))
          (front_more (g.K.Keeper.held c.args.keeper.now) (g.K.Keeper.held c.loop-records.keeper) c.loop-records.number _ _ c.in-Ok-Some.text _ l.front l.same c.in-Ok-Some.ensures.items c.in-Ok-Some.field-0-is
          (rw c.as_slice.ensures at c.in_ok-record-in-Ok-Some.ensures.ok));
      mirror = c.in_ok-push-in-Ok-Some.ensures.mirror;
      same = c.load.ensures.same ∙ l.same;
      later = omega (arith, l.later, c.load.ensures.cause.later);
    }
