use Rattle.std.proofs.Common.{◌+◌, ◌-◌, ◌<◌, ◌≤◌, vec_len}
use Rattle.script_loop.specs.Limits.{script_limit}
use Rattle.script_loop.specs.Progress.{Reaches}
use Rattle.script_loop.proofs.script.run.Given as goal

-- what was taken from the source was fed
abbrev pub invariant-loop-count : goal.invariant-loop-count
invariant-loop-count g l = record {
  reaches : Reaches g.M.Machine.gives l.fn.machine l.machine l.taken l.line_buffer.number l.line_buffer.line.items (g.S.Source.left l.fn.source) (g.S.Source.left l.source) (g.O.Sink.written l.fn.sink) (g.O.Sink.written l.sink);
  within : l.taken ≤ script_limit;
  room : 0 < vec_len l.buffer;
  ready : g.M.Machine.ready l.machine;
  kept : g.M.Machine.later l.fn.machine l.machine;
  reading : g.S.Source.faults l.fn.source ≤ g.S.Source.faults l.source;
  writing : g.O.Sink.faults l.fn.sink ≤ g.O.Sink.faults l.sink;
}

abbrev pub decreases-loop-count : goal.decreases-loop-count
decreases-loop-count g l = (script_limit + 1) - l.taken
