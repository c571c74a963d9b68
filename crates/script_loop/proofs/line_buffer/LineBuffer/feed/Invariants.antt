use Rattle.std.proofs.Common.{◌≤◌, ◌+◌, ◌++◌, length}
use Rattle.script_loop.specs.Progress.{Feeds}
use Rattle.script_loop.proofs.line_buffer.LineBuffer.feed.Given as goal

-- the lines that have ended so far were answered
abbrev pub invariant-loop-part : goal.invariant-loop-part
invariant-loop-part g l = record {
  fed : Feeds g.M.Machine.gives l.fn.machine l.fn.self.number (l.fn.self.line.items ++ l.chunk) l.machine l.self.number l.self.line.items l.rest (g.O.Sink.written l.fn.sink) (g.O.Sink.written l.sink);
  few : l.self.number + length l.rest ≤ l.fn.self.number + length l.chunk;
  ready : g.M.Machine.ready l.machine;
  kept : g.M.Machine.later l.fn.machine l.machine;
  later : g.O.Sink.faults l.fn.sink ≤ g.O.Sink.faults l.sink;
}

abbrev pub decreases-loop-part : goal.decreases-loop-part
decreases-loop-part g l = length l.rest
