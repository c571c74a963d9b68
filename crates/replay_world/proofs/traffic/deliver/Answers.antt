use Rattle.std.proofs.Common.{◌≡◌, is_some, true, false, refl, sym, Some, None}
use Rattle.message_screens.specs.Screening.{rule_of}
use Rattle.spec_script.specs.Steps as spec
use Rattle.spec_script.specs.Events.{Deliver}
use Rattle.script_lines.specs.declared.refusal.Refusal.TheVariants as refusals
use Rattle.replay_world.specs.Outsiders.{by, event_steps, only_verifies}
use Rattle.replay_world.specs.Worlds.{sites_view, state_of}
use Rattle.replay_world.proofs.EventSteps.{unknown_receiver, no_document, delivers_document}
use Rattle.replay_world.proofs.Documents.{comes_delivered, delivery_gives_up}
use Rattle.replay_world.proofs.Deliveries.{handles_undelivered}
use Rattle.replay_world.proofs.Handling.{alone_refused}
use Rattle.replay_world.proofs.Verified.{under_any, under_on}
use Rattle.replay_world.proofs.traffic.deliver.Goals as goal

pub returns-then-not-is_known-clause-handles : goal.returns-then-not-is_known-clause-handles
returns-then-not-is_known-clause-handles g c =
    let unknown : is_some (spec.plmn_at (sites_view c.args.world.now.sites) c.args.node.now) ≡ false = cc in
    under_any _ _ _ _ λ v. alone_refused (event_steps (g.R.ScreenRule.passes (rule_of c.args.screen.now)) (only_verifies v) (Deliver c.args.node.now c.args.wire.now)) c.args.world.now c.args.number refusals.NodeUnknown (λ e. cc) c.requires.ready.sound
    (λ records f. unknown_receiver (g.R.ScreenRule.passes (rule_of c.args.screen.now)) (state_of c.args.world.now records) (by (only_verifies v) f) c.args.node.now c.args.wire.now unknown)
    (g.K.Keeper.held c.args.keeper.now) (g.K.Keeper.faults c.args.keeper.now) c.requires.ready.consistent

pub returns-in-None-clause-handles : goal.returns-in-None-clause-handles
returns-in-None-clause-handles g c =
    let known : is_some (spec.plmn_at (sites_view c.args.world.now.sites) c.args.node.now) ≡ true = cc in
    let none : spec.wire_at c.args.world.now.wire c.args.wire.now ≡ None = sym c.in-None.ensures in
    under_any _ _ _ _ λ v. alone_refused (event_steps (g.R.ScreenRule.passes (rule_of c.args.screen.now)) (only_verifies v) (Deliver c.args.node.now c.args.wire.now)) c.args.world.now c.args.number refusals.WireUnknown (λ e. cc) c.requires.ready.sound
    (λ records f. no_document (g.R.ScreenRule.passes (rule_of c.args.screen.now)) (state_of c.args.world.now records) (by (only_verifies v) f) c.args.node.now c.args.wire.now known none)
    (g.K.Keeper.held c.args.keeper.now) (g.K.Keeper.faults c.args.keeper.now) c.requires.ready.consistent

pub returns-in-Err-delivered_text-clause-handles : goal.returns-in-Err-delivered_text-clause-handles
returns-in-Err-delivered_text-clause-handles g c =
    let known : is_some (spec.plmn_at (sites_view c.args.world.now.sites) c.args.node.now) ≡ true = cc in
    let found : spec.wire_at c.args.world.now.wire c.args.wire.now ≡ Some c.in-Some.document.now = sym c.in-Some.ensures in
    under_on _ _ _ _ _ (λ v h. record {
      comes = delivery_gives_up (g.R.ScreenRule.passes (rule_of c.args.screen.now)) v (event_steps (g.R.ScreenRule.passes (rule_of c.args.screen.now)) (only_verifies v) (Deliver c.args.node.now c.args.wire.now)) (g.K.Keeper.held c.args.keeper.now) (g.K.Keeper.held c.accept.new.keeper) c.args.world.now _ c.args.node.now c.in-Some.document.now c.in-Ok.delivered
          h (λ records f. delivers_document (g.R.ScreenRule.passes (rule_of c.args.screen.now)) (state_of c.args.world.now records) (by (only_verifies v) f) c.args.node.now c.args.wire.now c.in-Some.document.now known found) refl refl;
      ready = record { consistent = c.in-Ok.ensures.consistent; sound = record { nodes = c.requires.ready.sound.nodes; wire = c.requires.ready.sound.wire; bytes = c.requires.ready.sound.bytes } };
      later = c.in-Ok.ensures.later;
      failed = λ e. cc;
    }) c.in-Ok.ensures.accepts

pub returns-in-Ok-delivered_text-clause-handles : goal.returns-in-Ok-delivered_text-clause-handles
returns-in-Ok-delivered_text-clause-handles g c =
    let known : is_some (spec.plmn_at (sites_view c.args.world.now.sites) c.args.node.now) ≡ true = cc in
    let found : spec.wire_at c.args.world.now.wire c.args.wire.now ≡ Some c.in-Some.document.now = sym c.in-Some.ensures in
    under_on _ _ _ _ _ (λ v h. record {
      comes = comes_delivered (g.R.ScreenRule.passes (rule_of c.args.screen.now)) v (event_steps (g.R.ScreenRule.passes (rule_of c.args.screen.now)) (only_verifies v) (Deliver c.args.node.now c.args.wire.now)) (g.K.Keeper.held c.args.keeper.now) (g.K.Keeper.held c.accept.new.keeper) c.args.world.now _ c.args.number _ c.args.node.now c.in-Some.document.now c.in-Ok.delivered
          h (λ records f. delivers_document (g.R.ScreenRule.passes (rule_of c.args.screen.now)) (state_of c.args.world.now records) (by (only_verifies v) f) c.args.node.now c.args.wire.now c.in-Some.document.now known found) refl refl refl c.in-Ok-delivered_text.ensures;
      ready = record { consistent = c.in-Ok.ensures.consistent; sound = record { nodes = c.requires.ready.sound.nodes; wire = c.requires.ready.sound.wire; bytes = c.requires.ready.sound.bytes } };
      later = c.in-Ok.ensures.later;
      failed = λ e. cc;
    }) c.in-Ok.ensures.accepts

pub returns-in-Err-clause-handles : goal.returns-in-Err-clause-handles
returns-in-Err-clause-handles g c =
    let known : is_some (spec.plmn_at (sites_view c.args.world.now.sites) c.args.node.now) ≡ true = cc in
    let found : spec.wire_at c.args.world.now.wire c.args.wire.now ≡ Some c.in-Some.document.now = sym c.in-Some.ensures in
    under_on _ _ _ _ _ (λ v h. handles_undelivered (g.R.ScreenRule.passes (rule_of c.args.screen.now)) v (event_steps (g.R.ScreenRule.passes (rule_of c.args.screen.now)) (only_verifies v) (Deliver c.args.node.now c.args.wire.now)) (g.K.Keeper.held c.args.keeper.now) (g.K.Keeper.held c.accept.new.keeper) (g.K.Keeper.faults c.args.keeper.now) (g.K.Keeper.faults c.accept.new.keeper) c.args.world.now _ c.args.number c.args.node.now c.in-Some.document.now c.in-Err.fault c.undelivered.result
    c.undelivered.ensures h
    (λ records f. delivers_document (g.R.ScreenRule.passes (rule_of c.args.screen.now)) (state_of c.args.world.now records) (by (only_verifies v) f) c.args.node.now c.args.wire.now c.in-Some.document.now known found) refl refl refl
    (record { consistent = c.in-Err.ensures.consistent; sound = record { nodes = c.requires.ready.sound.nodes; wire = c.requires.ready.sound.wire; bytes = c.requires.ready.sound.bytes } })
    c.in-Err.ensures.later (λ e. c.in-Err.ensures.failed (rw e refl))) c.in-Err.ensures.accepts
