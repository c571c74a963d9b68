use Rattle.std.proofs.lemmas.Result.{err_from_is_err_and}
use Rattle.n32_values.specs.View.{tree_of}
use Rattle.json_patch6902.specs.View.{op_view}
use Rattle.json_patch6902.proofs.ReadLists.{ops_more_at, ops_refused_at}
use Rattle.json_patch6902.proofs.reading.read_list.Goals as goal

pub loop-i-preserved : goal.loop-i-preserved
loop-i-preserved c =
    rw c.in_ok-push.ensures.ok (ops_more_at op_view c.loop-i.ops c.args.list.now c.loop-i.i (tree_of c.item.result.now) c.in_ok-read_op.field-0 _ c.item.ensures c.loop-i.invariant c.in_ok-read_op.ensures)

pub returns-in_err-read_op : goal.returns-in_err-read_op
returns-in_err-read_op c =
    let p = err_from_is_err_and c.from_residual.result c.from_residual.ensures.1 in
    rw (p.1, p.2) (ops_refused_at op_view c.loop-i.ops c.args.list.now c.loop-i.i (tree_of c.item.result.now) c.in_err-read_op.field-0.0 _ c.item.ensures c.loop-i.invariant c.in_err-read_op.ensures)
