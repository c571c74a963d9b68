use Rattle.std.proofs.Common.{inl}
use Rattle.exercise_word.proofs.Played.{countable, none_written, summarised}
use Rattle.exercise_word.proofs.running.run.Goals as goal

pub returns-in_default-text-clause-ends : goal.returns-in_default-text-clause-ends
returns-in_default-text-clause-ends g c =
    inl (none_written g.M.Machine.gives c.args.messages c.args.machine.now c.play.new.machine c.play.new.summary _ c.in-Ok.ensures.ok)

pub returns-clause-ends : goal.returns-clause-ends
returns-clause-ends g c =
    let all = c.in-Ok.ensures.ok in
    let few = countable g.M.Machine.gives c.args.messages c.args.machine.now c.play.new.machine c.play.new.summary all c.ranges.messages.fits in
    summarised g.M.Machine.gives g.M.Machine.gives_up c.args.messages c.args.machine.now c.play.new.machine c.play.new.summary _ _ _ c.write_summary.result all
    (c.in-Ok-text.ensures all.texts all.taken few) c.write_summary.ensures.written
