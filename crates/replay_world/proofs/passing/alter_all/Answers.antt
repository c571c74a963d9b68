use Rattle.script_lines.specs.Unanswered.{told_refusal}
use Rattle.replay_world.proofs.Altering.{fails_here, goes_on_here}
use Rattle.replay_world.proofs.passing.alter_all.Goals as goal

pub returns-in-Err-clause-gives : goal.returns-in-Err-clause-gives
returns-in-Err-clause-gives c =
    fails_here (told_refusal c.in-Err.why) c.as_slice-op-items.result.now c.args.operations.now c.loop-op.op-index c.op-item.result c.loop-op.altered c.args.document.now c.loop-op-test.true c.op-item.is c.in-Err.ensures.gives c.loop-op.invariant.rest

pub loop-op-preserved : goal.loop-op-preserved
loop-op-preserved c = record {
  rest = goes_on_here c.as_slice-op-items.result.now c.args.operations.now c.loop-op.op-index c.op-item.result c.loop-op.altered c.in-Ok.next c.args.document.now c.loop-op-test.true c.op-item.is c.in-Ok.ensures.gives c.loop-op.invariant.rest;
  low = c.in-Ok.ensures.shallow;
}
