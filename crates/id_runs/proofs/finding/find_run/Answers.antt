use Rattle.std.proofs.Common.{◌≡◌, ◌+◌, ◌-◌, ◌/◌, length, arith}
use Rattle.id_runs.proofs.Rising.{above_drop, below_take, none_in}
use Rattle.id_runs.proofs.Entries.{none_there}
use Rattle.id_runs.proofs.Halving.{Left, halved, halves}
use Rattle.id_runs.proofs.finding.find_run.Goals as goal

pub loop-low-preserved-then-run-id : goal.loop-low-preserved-then-run-id
loop-low-preserved-then-run-id g c =
    let l = c.loop-low.invariant in
    let middle = c.loop-low.low + (c.loop-low.high - c.loop-low.low) / 2 in
    let left : Left (c.loop-low.high - (middle + 1)) c.run_at-run.new.steps c.args.steps.now (length c.args.runs.now.runs) =
    halves (c.loop-low.high - c.loop-low.low) (c.loop-low.high - (middle + 1)) c.loop-low.steps c.run_at-run.new.steps c.args.steps.now (length c.args.runs.now.runs)
    (omega arith) (omega (arith, c.loop-low-test.true)) l.since c.run_at-run.ensures.step l.halved in
    record {
      order = omega (arith, c.loop-low-test.true);
      within = l.within;
      apart = l.apart;
      below = below_take 0 c.args.id middle c.args.runs.now.runs c.run_at-run.result l.apart c.run_at-run.ensures.run c.if-run-id.true;
      above = l.above;
      since = omega (arith, l.since, c.run_at-run.ensures.step);
      halved = left.halved;
      few = left.few;
    }

pub loop-low-preserved : goal.loop-low-preserved
loop-low-preserved g c =
    let l = c.loop-low.invariant in
    let middle = c.loop-low.low + (c.loop-low.high - c.loop-low.low) / 2 in
    let left : Left (middle - c.loop-low.low) c.run_at-run.new.steps c.args.steps.now (length c.args.runs.now.runs) =
    halves (c.loop-low.high - c.loop-low.low) (middle - c.loop-low.low) c.loop-low.steps c.run_at-run.new.steps c.args.steps.now (length c.args.runs.now.runs)
    (omega arith) (omega (arith, c.loop-low-test.true)) l.since c.run_at-run.ensures.step l.halved in
    record {
      order = omega arith;
      within = omega (arith, l.within, c.loop-low-test.true);
      apart = l.apart;
      below = l.below;
      above = above_drop 0 c.args.id middle c.args.runs.now.runs c.run_at-run.result l.apart c.run_at-run.ensures.run c.if-id-run.true;
      since = omega (arith, l.since, c.run_at-run.ensures.step);
      halved = left.halved;
      few = left.few;
    }

pub returns-else-id-run-clause-cost : goal.returns-else-id-run-clause-cost
returns-else-id-run-clause-cost g c = λ d under.
    let l = c.loop-low.invariant in
    let left : Left 0 c.run_at-run.new.steps c.args.steps.now (length c.args.runs.now.runs) =
    halves (c.loop-low.high - c.loop-low.low) 0 c.loop-low.steps c.run_at-run.new.steps c.args.steps.now (length c.args.runs.now.runs)
    (omega arith) (omega (arith, c.loop-low-test.true)) l.since c.run_at-run.ensures.step l.halved in
    omega (arith, halved d (c.run_at-run.new.steps - c.args.steps.now) (length c.args.runs.now.runs) left.few under)

pub returns-clause-absent : goal.returns-clause-absent
returns-clause-absent g c =
    let l = c.loop-low.invariant in
    let met : c.loop-low.high ≡ c.loop-low.low = omega (arith, l.order, c.loop-low-test.false) in
    none_there c.args.id c.args.runs.now.runs c.args.runs.now.entries c.len-high.ensures.runs (none_in c.args.id c.loop-low.low c.args.runs.now.runs l.below (rw met at l.above))

pub returns-clause-cost : goal.returns-clause-cost
returns-clause-cost g c = λ d under.
    let l = c.loop-low.invariant in
    omega (arith, l.since, halved d (c.loop-low.steps - c.args.steps.now) (length c.args.runs.now.runs) l.few under)
