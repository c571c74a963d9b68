use Rattle.std.proofs.Common.{◌≤◌, length, arith}
use Rattle.std.proofs.lemmas.List.{drop_all}
use Rattle.n32_values.specs.View.{tree_of}
use Rattle.block_forms.proofs.Grafting.{graft_at, graft_done}
use Rattle.block_forms.proofs.body.all_grafted.Goals as goal

pub loop-i-preserved : goal.loop-i-preserved
loop-i-preserved c = graft_at c.args.paths.now c.args.items.now c.loop-i.i c.item-in-loop-i.result.now (tree_of c.item.result.now) _ _ _ _ c.item-in-loop-i.ensures c.item.ensures c.in_ok-value.ensures c.in_ok-grown.ensures c.loop-i.invariant

pub returns : goal.returns
returns c = graft_done c.args.paths.now c.args.items.now c.loop-i.i _ _ (drop_all c.loop-i.i c.args.items.now (omega arith)) c.loop-i.invariant
