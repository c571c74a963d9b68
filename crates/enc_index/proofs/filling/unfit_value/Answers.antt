use Rattle.std.proofs.Common.{◌+◌, drop, add-one, sym, ◌∙◌}
use Rattle.n32_values.specs.View.{tree_of}
use Rattle.n32_values.proofs.Trees.{drop_at}
use Rattle.enc_index.specs.Places.{place_view}
use Rattle.enc_index.proofs.FillTexts.{unfit_passed, unfit_found}
use Rattle.enc_index.proofs.filling.unfit_value.Goals as goal

pub returns-then-is_unfit_at-clause-value : goal.returns-then-is_unfit_at-clause-value
returns-then-is_unfit_at-clause-value c =
    let place = place_view c.item.result.now in
    let value = tree_of c.item-in-loop-i.result.now in
    sym (c.loop-i.invariant.left ∙ unfit_found c.loop-i.i place value _ (drop (c.loop-i.i + 1) c.args.holes.now) _ (drop (c.loop-i.i + 1) c.args.values.now)
    (drop_at c.args.holes.now c.loop-i.i place c.item.ensures) (drop_at c.args.values.now c.loop-i.i value c.item-in-loop-i.ensures) (sym c.is_unfit_at.ensures ∙ c.if-is_unfit_at.true))

pub loop-i-preserved : goal.loop-i-preserved
loop-i-preserved c =
    let place = place_view c.item.result.now in
    let value = tree_of c.item-in-loop-i.result.now in record {
      long = c.loop-i.invariant.long;
      left = c.loop-i.invariant.left ∙ unfit_passed c.loop-i.i (c.loop-i.i + 1) place value _ _ _ _ (add-one c.loop-i.i)
          (drop_at c.args.holes.now c.loop-i.i place c.item.ensures) (drop_at c.args.values.now c.loop-i.i value c.item-in-loop-i.ensures) (sym c.is_unfit_at.ensures ∙ c.if-is_unfit_at.false);
    }
