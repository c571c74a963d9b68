use Rattle.std.proofs.Common.{arith, refl}
use Rattle.exercise_word.proofs.Played.{more_played, room_for_next}
use Rattle.exercise_word.proofs.playing.play.Goals as goal

pub overflow_add-number : goal.overflow_add-number
overflow_add-number g c =
    omega (arith, c.ranges.messages.fits, room_for_next g.M.Machine.gives c.args.messages _ _ _ _ _ _ _ c.loop-line.invariant.playing c.in-Some.ensures.line)

pub loop-line-preserved : goal.loop-line-preserved
loop-line-preserved g c = record {
  playing = more_played g.M.Machine.gives c.args.messages _ _ _ _ _ _ _ _ _ _ c.loop-line.invariant.playing c.in-Some.ensures.line refl c.in_ok-play_line.ensures.ok;
  ready = c.in_ok-play_line.ensures.ready;
  kept = g.met.M.Machine.goes_on _ _ _ c.loop-line.invariant.kept c.in_ok-play_line.ensures.later;
}
