use Rattle.std.proofs.Common.{◌-◌, ◌≤◌, length, take, drop}
use Rattle.id_runs.specs.Runs.{IsBelow, IsAbove}
use Rattle.id_runs.proofs.placing.runs_below.Given as goal

abbrev pub invariant-loop-low : goal.invariant-loop-low
invariant-loop-low l = record {
  order : l.low ≤ l.high;
  within : l.high ≤ length l.runs;
  below : IsBelow l.id (take l.low l.runs);
  above : IsAbove l.id (drop l.high l.runs);
}

abbrev pub decreases-loop-low : goal.decreases-loop-low
decreases-loop-low l = l.high - l.low
