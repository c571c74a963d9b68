use Rattle.std.proofs.Common.{arith}
use Rattle.std.proofs.lemmas.Result.{err_from_is_err_and}
use Rattle.n32_values.specs.View.{tree_of}
use Rattle.json_ptr.specs.Causes.{cause_of}
use Rattle.json_patch6902.proofs.NewPlaces.{front_step, front_refused, parent_done}
use Rattle.json_patch6902.proofs.place.parent.Goals as goal

pub loop-i-preserved : goal.loop-i-preserved
loop-i-preserved c =
    front_step (tree_of c.loop-i.place.now) (tree_of c.in_ok-place.place.now) c.args.path.now c.loop-i.i c.token.result.now _ c.token.ensures (omega arith) (rw c.as_str.ensures at c.in_ok-place.ensures) c.loop-i.invariant

pub returns : goal.returns
returns c = parent_done c.args.path.now c.loop-i.i (tree_of c.loop-i.place.now) _ (omega arith) c.loop-i.invariant

pub returns-in_err-place : goal.returns-in_err-place
returns-in_err-place c =
    let p = err_from_is_err_and c.from_residual.result c.from_residual.ensures.1 in
    rw (p.1, p.2) (front_refused (tree_of c.loop-i.place.now) c.args.path.now c.loop-i.i c.token.result.now _ _ c.token.ensures (omega arith) (rw c.as_str.ensures at c.in_err-place.ensures) c.loop-i.invariant)
