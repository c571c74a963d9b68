use Rattle.std.proofs.Common.{arith}
use Rattle.script_loop.proofs.Written.{more_written}
use Rattle.script_loop.proofs.answer.write_all.Goals as goal

pub loop-count-preserved : goal.loop-count-preserved
loop-count-preserved g c = record {
  within = omega (arith, c.in_ok-count.ensures.bound);
  front = more_written _ _ _ c.args.bytes.now c.loop-count.count c.in_ok-count.field-0 c.loop-count.invariant.front c.in_ok-count.ensures.bytes;
  later = omega (arith, c.write.ensures.cause.later);
}
