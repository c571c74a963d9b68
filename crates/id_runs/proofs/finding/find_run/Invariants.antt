use Rattle.std.proofs.Common.{◌-◌, ◌+◌, ◌*◌, ◌^◌, ◌≤◌, length, take, drop}
use Rattle.id_runs.specs.Runs.{IsBelow, IsAbove, AreApart}
use Rattle.id_runs.proofs.finding.find_run.Given as goal

-- the runs that are left are halved at each step
abbrev pub invariant-loop-low : goal.invariant-loop-low
invariant-loop-low g l = record {
  order : l.low ≤ l.high;
  within : l.high ≤ length l.runs.runs;
  apart : AreApart 0 l.runs.runs;
  below : IsBelow l.id (take l.low l.runs.runs);
  above : IsAbove l.id (drop l.high l.runs.runs);
  since : l.fn.steps ≤ l.steps;
  halved : (l.high - l.low) * 2 ^ (l.steps - l.fn.steps) ≤ length l.runs.runs;
  few : 2 ^ (l.steps - l.fn.steps) ≤ 2 * length l.runs.runs + 1;
}

abbrev pub decreases-loop-low : goal.decreases-loop-low
decreases-loop-low g l = l.high - l.low
