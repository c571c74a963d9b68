use Rattle.std.proofs.Common.{length}
use Rattle.exercise_word.proofs.Played.{Playing}
use Rattle.exercise_word.proofs.playing.play.Given as goal

-- the lines so far were answered, and the summary took the answers
abbrev pub invariant-loop-line : goal.invariant-loop-line
invariant-loop-line g l = record {
  playing : Playing g.M.Machine.gives l.messages l.fn.machine l.machine l.number l.script l.summary;
  ready : g.M.Machine.ready l.machine;
  kept : g.M.Machine.later l.fn.machine l.machine;
}

abbrev pub decreases-loop-line : goal.decreases-loop-line
decreases-loop-line g l = length l.script
