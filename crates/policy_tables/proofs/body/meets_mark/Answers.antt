use Rattle.std.proofs.Common.{sym, ◌∙◌, arith}
use Rattle.n32_values.specs.View.{tree_of}
use Rattle.policy_tables.proofs.TouchLemmas.{meets_here, meets_none, meets_child}
use Rattle.policy_tables.proofs.body.meets_mark.Goals as goal

pub returns-then-is_marked : goal.returns-then-is_marked
returns-then-is_marked c = meets_here c.args.pointer.now c.loop-i.i (tree_of c.loop-i.place.now) _ (omega arith) c.loop-i.invariant (sym c.is_marked.ensures ∙ c.if-is_marked.true)

pub returns-in-Err : goal.returns-in-Err
returns-in-Err c = meets_none c.args.pointer.now c.loop-i.i c.token.result.now (tree_of c.loop-i.place.now) _ _ c.token.ensures c.loop-i.invariant (sym c.is_marked.ensures ∙ c.if-is_marked.false) (rw c.as_str.ensures at c.in-Err.ensures)

pub loop-i-preserved : goal.loop-i-preserved
loop-i-preserved c = meets_child c.args.pointer.now c.loop-i.i c.token.result.now (tree_of c.loop-i.place.now) (tree_of c.in-Ok.child.now) _ c.token.ensures c.loop-i.invariant (sym c.is_marked.ensures ∙ c.if-is_marked.false) (rw c.as_str.ensures at c.in-Ok.ensures)
