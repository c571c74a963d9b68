use Rattle.std.proofs.Common.{◌≡◌, Err, ap}
use Rattle.spec_script.specs.Events.{FinishBy}
use Rattle.spec_script.specs.Steps.{is_full}
use Rattle.script_lines.specs.declared.refusal.Refusal.TheVariants as refusals
use Rattle.script_lines.specs.declared.unanswered.Unanswered.{Unanswered}
use Rattle.script_lines.specs.declared.unanswered.Unanswered.TheVariants as unanswered
use Rattle.replay_world.specs.Outsiders.{unasked}
use Rattle.replay_world.specs.Shaking.{document_checked}
use Rattle.replay_world.specs.Worlds.{sites_view, state_of}
use Rattle.replay_world.proofs.Handling.{alone_unfit}
use Rattle.replay_world.proofs.HandEvents.{finish_handled}
use Rattle.replay_world.proofs.HandSteps.{finish_unchecked}
use Rattle.replay_world.proofs.handshaking.finish.Goals as goal

pub returns-in-Ok : goal.returns-in-Ok
returns-in-Ok g c =
    finish_handled (g.K.Keeper.held c.args.keeper.now) (g.K.Keeper.held c.finish-finished.new.keeper) (g.K.Keeper.faults c.args.keeper.now) (g.K.Keeper.faults c.finish-finished.new.keeper)
    c.args.world.now c.finish-finished.new.store c.finish-finished.new.hands c.tell.new.world c.args.number c.args.node.now c.args.wire.now c.in-Ok.plmn.now c.in-Ok.document.now c.finish-finished.result c.tell.result
    (rw c.is_full-full.ensures at c.in-Ok.ensures.gives) c.finish-finished.ensures.finishes
    (record { consistent = c.finish-finished.ensures.consistent; later = c.finish-finished.ensures.later; failed = c.finish-finished.ensures.failed }) c.requires.sound c.tell.ensures

pub returns-in-Err : goal.returns-in-Err
returns-in-Err g c =
    alone_unfit (unasked (FinishBy c.args.node.now c.args.wire.now)) c.args.world.now c.args.number c.in-Err.why (document_checked (sites_view c.args.world.now.sites) c.args.world.now.wire (is_full c.args.world.now.wire) c.args.node.now c.args.wire.now)
    (λ e. let is : c.in-Err.why ≡ unanswered.Refused refusals.Keeper = cc in c.in-Err.ensures.spares (ap (λ (w : Unanswered). Err w) is)) c.requires.sound (rw c.is_full-full.ensures at c.in-Err.ensures.gives)
    (λ records f e bad. finish_unchecked (state_of c.args.world.now records) f c.args.node.now c.args.wire.now e bad) (g.K.Keeper.held c.args.keeper.now) (g.K.Keeper.faults c.args.keeper.now) c.requires.consistent
