use Rattle.std.proofs.Common.{◌≡◌, ◌+◌, ◌-◌, ◌/◌, ◌<◌, slice_get, slice_index_or, length, Some, arith}
use Rattle.std.proofs.lemmas.Option.{slice_get-get_or}
use Rattle.id_runs.specs.Runs.{run}
use Rattle.id_runs.proofs.Rising.{above_drop, before_it, below_take, not_in}
use Rattle.id_runs.proofs.placing.runs_below.Goals as goal

pub loop-low-preserved-then-runs-middle : goal.loop-low-preserved-then-runs-middle
loop-low-preserved-then-runs-middle c =
    let l = c.loop-low.invariant in
    let middle = c.loop-low.low + (c.loop-low.high - c.loop-low.low) / 2 in
    let within : middle < length c.args.runs.now = omega (arith, l.within, c.loop-low-test.true) in
    let r = slice_index_or c.args.runs.now middle (run 0 0) in
    record {
      order = omega (arith, c.loop-low-test.true);
      within = l.within;
      below = below_take 0 c.args.id middle c.args.runs.now r c.requires.apart (slice_get-get_or c.args.runs.now middle (run 0 0) within) c.if-runs-middle.true;
      above = l.above;
    }

pub loop-low-preserved : goal.loop-low-preserved
loop-low-preserved c =
    let l = c.loop-low.invariant in
    let middle = c.loop-low.low + (c.loop-low.high - c.loop-low.low) / 2 in
    let within : middle < length c.args.runs.now = omega (arith, l.within, c.loop-low-test.true) in
    let r = slice_index_or c.args.runs.now middle (run 0 0) in
    let there : slice_get c.args.runs.now middle ≡ Some r = slice_get-get_or c.args.runs.now middle (run 0 0) within in
    record {
      order = omega arith;
      within = omega (arith, within);
      below = l.below;
      above = above_drop 0 c.args.id middle c.args.runs.now r c.requires.apart there (before_it c.args.id r (not_in c.args.id middle c.args.runs.now r c.requires.absent there) c.if-runs-middle.false);
    }
