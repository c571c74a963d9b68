use Rattle.std.proofs.Common.{◌≡◌, Err, ap}
use Rattle.spec_script.specs.Events.{StartWith}
use Rattle.spec_script.specs.Steps.{is_full}
use Rattle.script_lines.specs.declared.refusal.Refusal.TheVariants as refusals
use Rattle.script_lines.specs.declared.unanswered.Unanswered.{Unanswered}
use Rattle.script_lines.specs.declared.unanswered.Unanswered.TheVariants as unanswered
use Rattle.replay_world.specs.Outsiders.{unasked}
use Rattle.replay_world.specs.Shaking.{network_checked, offer_to_hold}
use Rattle.replay_world.specs.Worlds.{sites_view, state_of}
use Rattle.replay_world.proofs.Handling.{alone_unfit}
use Rattle.replay_world.proofs.HandEvents.{start_handled}
use Rattle.replay_world.proofs.HandSteps.{start_unchecked, start_unheld}
use Rattle.n32c_handshake.specs.View as hands
use Rattle.script_lines.specs.View.{offer_view}
use Rattle.replay_world.proofs.handshaking.start.Goals as goal

pub returns-in-Ok-offer_of : goal.returns-in-Ok-offer_of
returns-in-Ok-offer_of g c =
    start_handled (g.K.Keeper.held c.args.keeper.now) (g.K.Keeper.held c.start-started.new.keeper) (g.K.Keeper.faults c.args.keeper.now) (g.K.Keeper.faults c.start-started.new.keeper)
    c.args.world.now c.start-started.new.store c.start-started.new.hands c.tell.new.world c.args.number c.args.node.now c.args.peer.now c.in-Ok.plmn.now (offer_view c.args.handed) (hands.offer_view c.in-Ok-offer_of.offer) c.start-started.result c.tell.result
    (rw c.is_full-full.ensures at c.in-Ok.ensures.gives) c.in-Ok-offer_of.ensures.gives
    c.start-started.ensures.starts c.start-started.ensures.waits c.start-started.ensures.as_before
    (record { consistent = c.start-started.ensures.consistent; later = c.start-started.ensures.later; failed = c.start-started.ensures.failed }) c.requires.ready.sound c.tell.ensures

pub returns-in-Err-offer_of : goal.returns-in-Err-offer_of
returns-in-Err-offer_of g c =
    alone_unfit (unasked (StartWith c.args.node.now c.args.peer.now (offer_view c.args.handed))) c.args.world.now c.args.number c.in-Err-offer_of.why (offer_to_hold (offer_view c.args.handed))
    (λ e. let is : c.in-Err-offer_of.why ≡ unanswered.Refused refusals.Keeper = cc in c.in-Err-offer_of.ensures.spares (ap (λ (w : Unanswered). Err w) is)) c.requires.ready.sound c.in-Err-offer_of.ensures.gives
    (λ records f e bad. start_unheld (state_of c.args.world.now records) f c.args.node.now c.args.peer.now (offer_view c.args.handed) c.in-Ok.plmn.now e (rw c.is_full-full.ensures at c.in-Ok.ensures.gives) bad) (g.K.Keeper.held c.args.keeper.now) (g.K.Keeper.faults c.args.keeper.now) c.requires.ready.consistent

pub returns-in-Err : goal.returns-in-Err
returns-in-Err g c =
    alone_unfit (unasked (StartWith c.args.node.now c.args.peer.now (offer_view c.args.handed))) c.args.world.now c.args.number c.in-Err.why (network_checked (sites_view c.args.world.now.sites) (is_full c.args.world.now.wire) c.args.node.now)
    (λ e. let is : c.in-Err.why ≡ unanswered.Refused refusals.Keeper = cc in c.in-Err.ensures.spares (ap (λ (w : Unanswered). Err w) is)) c.requires.ready.sound (rw c.is_full-full.ensures at c.in-Err.ensures.gives)
    (λ records f e bad. start_unchecked (state_of c.args.world.now records) f c.args.node.now c.args.peer.now (offer_view c.args.handed) e bad) (g.K.Keeper.held c.args.keeper.now) (g.K.Keeper.faults c.args.keeper.now) c.requires.ready.consistent
