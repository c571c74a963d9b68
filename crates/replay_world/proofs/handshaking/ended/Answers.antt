use Rattle.std.proofs.Common.{◌≡◌, Err, ap}
use Rattle.spec_script.specs.Events.{EndBy}
use Rattle.spec_script.specs.Steps.{is_full}
use Rattle.script_lines.specs.declared.refusal.Refusal.TheVariants as refusals
use Rattle.script_lines.specs.declared.unanswered.Unanswered.{Unanswered}
use Rattle.script_lines.specs.declared.unanswered.Unanswered.TheVariants as unanswered
use Rattle.replay_world.specs.Outsiders.{unasked}
use Rattle.replay_world.specs.Shaking.{document_checked}
use Rattle.replay_world.specs.Worlds.{sites_view, state_of}
use Rattle.replay_world.proofs.Handling.{alone_unfit}
use Rattle.replay_world.proofs.HandEvents.{ended_handled}
use Rattle.replay_world.proofs.HandSteps.{ended_unchecked}
use Rattle.replay_world.proofs.handshaking.ended.Goals as goal

pub returns-in-Ok : goal.returns-in-Ok
returns-in-Ok g c =
    ended_handled (g.K.Keeper.held c.args.keeper.now) (g.K.Keeper.held c.ended-made.new.keeper) (g.K.Keeper.faults c.args.keeper.now) (g.K.Keeper.faults c.ended-made.new.keeper)
    c.args.world.now c.ended-made.new.store c.tell.new.world c.args.number c.args.node.now c.args.wire.now c.in-Ok._plmn.now c.in-Ok.document.now c.ended-made.result c.tell.result
    (rw c.is_full-full.ensures at c.in-Ok.ensures.gives) c.ended-made.ensures.ends
    (record { consistent = c.ended-made.ensures.consistent; later = c.ended-made.ensures.later; failed = c.ended-made.ensures.failed }) c.requires.sound c.tell.ensures

pub returns-in-Err : goal.returns-in-Err
returns-in-Err g c =
    alone_unfit (unasked (EndBy c.args.node.now c.args.wire.now)) c.args.world.now c.args.number c.in-Err.why (document_checked (sites_view c.args.world.now.sites) c.args.world.now.wire (is_full c.args.world.now.wire) c.args.node.now c.args.wire.now)
    (λ e. let is : c.in-Err.why ≡ unanswered.Refused refusals.Keeper = cc in c.in-Err.ensures.spares (ap (λ (w : Unanswered). Err w) is)) c.requires.sound (rw c.is_full-full.ensures at c.in-Err.ensures.gives)
    (λ records f e bad. ended_unchecked (state_of c.args.world.now records) f c.args.node.now c.args.wire.now e bad) (g.K.Keeper.held c.args.keeper.now) (g.K.Keeper.faults c.args.keeper.now) c.requires.consistent
