use Rattle.std.proofs.Common.{◌≡◌, Err, ap}
use Rattle.spec_script.specs.Events.{Terminate}
use Rattle.spec_script.specs.Steps.{is_full}
use Rattle.script_lines.specs.declared.refusal.Refusal.TheVariants as refusals
use Rattle.script_lines.specs.declared.unanswered.Unanswered.{Unanswered}
use Rattle.script_lines.specs.declared.unanswered.Unanswered.TheVariants as unanswered
use Rattle.replay_world.specs.Outsiders.{unasked}
use Rattle.replay_world.specs.Shaking.{network_checked}
use Rattle.replay_world.specs.Worlds.{sites_view, state_of}
use Rattle.replay_world.proofs.Handling.{alone_unfit}
use Rattle.replay_world.proofs.HandEvents.{terminate_handled}
use Rattle.replay_world.proofs.HandSteps.{terminate_unchecked}
use Rattle.replay_world.proofs.handshaking.terminate.Goals as goal

pub returns-in-Ok : goal.returns-in-Ok
returns-in-Ok g c =
    terminate_handled (g.K.Keeper.held c.args.keeper.now) (g.K.Keeper.held c.terminate-made.new.keeper) (g.K.Keeper.faults c.args.keeper.now) (g.K.Keeper.faults c.terminate-made.new.keeper)
    c.args.world.now c.terminate-made.new.store c.tell.new.world c.args.number c.args.node.now c.args.id.value c.in-Ok._plmn.now c.terminate-made.result c.tell.result
    (rw c.is_full-full.ensures at c.in-Ok.ensures.gives) c.terminate-made.ensures.terminates
    (record { consistent = c.terminate-made.ensures.consistent; later = c.terminate-made.ensures.later; failed = c.terminate-made.ensures.failed }) c.requires.sound c.tell.ensures

pub returns-in-Err : goal.returns-in-Err
returns-in-Err g c =
    alone_unfit (unasked (Terminate c.args.node.now c.args.id.value)) c.args.world.now c.args.number c.in-Err.why (network_checked (sites_view c.args.world.now.sites) (is_full c.args.world.now.wire) c.args.node.now)
    (λ e. let is : c.in-Err.why ≡ unanswered.Refused refusals.Keeper = cc in c.in-Err.ensures.spares (ap (λ (w : Unanswered). Err w) is)) c.requires.sound (rw c.is_full-full.ensures at c.in-Err.ensures.gives)
    (λ records f e bad. terminate_unchecked (state_of c.args.world.now records) f c.args.node.now c.args.id.value e bad) (g.K.Keeper.held c.args.keeper.now) (g.K.Keeper.faults c.args.keeper.now) c.requires.consistent
