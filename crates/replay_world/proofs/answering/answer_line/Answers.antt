use Rattle.std.proofs.Common.{◌≡◌, ap, Err}
use Rattle.script_lines.specs.View.{event_view}
use Rattle.spec_script.specs.Events.{line_event}
use Rattle.spec_script.specs.Steps as spec
use Rattle.script_lines.specs.declared.refusal.Refusal.TheVariants as refusals
use Rattle.script_lines.specs.declared.unanswered.Unanswered.{Unanswered}
use Rattle.script_lines.specs.declared.unanswered.Unanswered.TheVariants as unanswered
use Rattle.message_screens.specs.Screening.{rule_of}
use Rattle.replay_world.specs.Outsiders.{by, event_steps, line_steps}
use Rattle.replay_world.specs.Worlds.{state_of}
use Rattle.replay_world.proofs.Handling.{alone_unfit, handles_same}
use Rattle.replay_world.proofs.Verified.{acted_any, acted_on}
use Rattle.replay_world.proofs.answering.answer_line.Goals as goal

pub returns-in-Err-clause-handles : goal.returns-in-Err-clause-handles
returns-in-Err-clause-handles g c =
    acted_any _ _ _ λ x. alone_unfit (line_steps (g.R.ScreenRule.passes (rule_of c.args.screen.now)) x c.args.line.now) c.args.world.now c.args.number c.in-Err.why (line_event c.args.line.now) (λ e. let is : c.in-Err.why ≡ unanswered.Refused refusals.Keeper = cc in c.in-Err.ensures.spares (ap (λ (w : Unanswered). Err w) is)) c.requires.ready.sound c.in-Err.ensures.gives
    (λ records f e bad. ap (spec.step_with (g.R.ScreenRule.passes (rule_of c.args.screen.now)) (state_of c.args.world.now records) (by x f)) bad) (g.K.Keeper.held c.args.keeper.now) (g.K.Keeper.faults c.args.keeper.now) c.requires.ready.consistent

pub returns-clause-handles : goal.returns-clause-handles
returns-clause-handles g c =
    acted_on _ _ _ _ (λ x h. handles_same (line_steps (g.R.ScreenRule.passes (rule_of c.args.screen.now)) x c.args.line.now) (event_steps (g.R.ScreenRule.passes (rule_of c.args.screen.now)) x (event_view c.in-Ok.event)) (g.K.Keeper.held c.args.keeper.now) (g.K.Keeper.held c.answer_event.new.keeper) (g.K.Keeper.faults c.args.keeper.now) (g.K.Keeper.faults c.answer_event.new.keeper) c.args.world.now c.answer_event.new.world c.args.number c.answer_event.result
    (λ records f. ap (spec.step_with (g.R.ScreenRule.passes (rule_of c.args.screen.now)) (state_of c.args.world.now records) (by x f)) c.in-Ok.ensures.gives) h)
    c.answer_event.ensures.handles
