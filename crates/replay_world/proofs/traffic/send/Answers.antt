use Rattle.std.proofs.Common.{◌≡◌, is_some, true, false, ap, option_map, Err}
use Rattle.n32_values.specs.View.{tree_of}
use Rattle.http_message.specs.Reading.{message_view}
use Rattle.spec_exchange.specs.Calls.{sends}
use Rattle.spec_script.specs.Steps as spec
use Rattle.spec_script.specs.Events.{Send}
use Rattle.block_forms.specs.declared.fault.LimitName.TheVariants as limits
use Rattle.script_lines.specs.declared.refusal.Refusal.TheVariants as refusals
use Rattle.script_lines.specs.declared.unanswered.Unanswered.{Unanswered}
use Rattle.script_lines.specs.declared.unanswered.Unanswered.TheVariants as unanswered
use Rattle.replay_world.specs.Outsiders.{all_pass, idle, by, unasked}
use Rattle.replay_world.specs.Sending.{outgoing_view}
use Rattle.replay_world.specs.Worlds.{sites_view, state_of}
use Rattle.replay_world.proofs.EventSteps.{unknown_sender, sender_full, no_message, sends_message}
use Rattle.replay_world.proofs.Handling.{alone_refused, alone_unfit, handles_same}
use Rattle.replay_world.proofs.traffic.send.Goals as goal

pub returns-then-not-is_known : goal.returns-then-not-is_known
returns-then-not-is_known g c =
    let unknown : is_some (spec.plmn_at (sites_view c.args.world.now.sites) c.args.node.now) ≡ false = cc in
    alone_refused (unasked (Send c.args.node.now c.args.id.value (tree_of c.args.message.now) (option_map (λ i. i.value) c.args.answers))) c.args.world.now c.args.number refusals.NodeUnknown (λ e. cc) c.requires.sound
    (λ records f. unknown_sender all_pass (state_of c.args.world.now records) (by idle f) c.args.node.now c.args.id.value (tree_of c.args.message.now) _ unknown)
    (g.K.Keeper.held c.args.keeper.now) (g.K.Keeper.faults c.args.keeper.now) c.requires.consistent

pub returns-then-is_full : goal.returns-then-is_full
returns-then-is_full g c =
    let known : is_some (spec.plmn_at (sites_view c.args.world.now.sites) c.args.node.now) ≡ true = cc in
    let full : spec.is_full c.args.world.now.wire ≡ true = cc in
    alone_refused (unasked (Send c.args.node.now c.args.id.value (tree_of c.args.message.now) (option_map (λ i. i.value) c.args.answers))) c.args.world.now c.args.number (refusals.Limit limits.Wire) (λ e. cc) c.requires.sound
    (λ records f. sender_full all_pass (state_of c.args.world.now records) (by idle f) c.args.node.now c.args.id.value (tree_of c.args.message.now) _ known full)
    (g.K.Keeper.held c.args.keeper.now) (g.K.Keeper.faults c.args.keeper.now) c.requires.consistent

pub returns-in-Ok : goal.returns-in-Ok
returns-in-Ok g c =
    let known : is_some (spec.plmn_at (sites_view c.args.world.now.sites) c.args.node.now) ≡ true = cc in
    let room : spec.is_full c.args.world.now.wire ≡ false = cc in
    handles_same (unasked (Send c.args.node.now c.args.id.value (tree_of c.args.message.now) (option_map (λ i. i.value) c.args.answers))) (λ s f. spec.sends_sealed s (sends f s.records c.args.node.now c.args.id.value (outgoing_view c.in-Ok.outgoing) (message_view c.in-Ok.message)))
    (g.K.Keeper.held c.args.keeper.now) (g.K.Keeper.held c.send_message.new.keeper) (g.K.Keeper.faults c.args.keeper.now) (g.K.Keeper.faults c.send_message.new.keeper) c.args.world.now c.send_message.new.world c.args.number c.send_message.result
    (λ records f. sends_message all_pass (state_of c.args.world.now records) (by idle f) c.args.node.now c.args.id.value (tree_of c.args.message.now) _ (outgoing_view c.in-Ok.outgoing) (message_view c.in-Ok.message) known room c.in-Ok.ensures.gives)
    c.send_message.ensures

pub returns-in-Err : goal.returns-in-Err
returns-in-Err g c =
    let known : is_some (spec.plmn_at (sites_view c.args.world.now.sites) c.args.node.now) ≡ true = cc in
    let room : spec.is_full c.args.world.now.wire ≡ false = cc in
    alone_unfit (unasked (Send c.args.node.now c.args.id.value (tree_of c.args.message.now) (option_map (λ i. i.value) c.args.answers))) c.args.world.now c.args.number c.in-Err.why (spec.message_to_send (tree_of c.args.message.now) (option_map (λ i. i.value) c.args.answers)) (λ e. let is : c.in-Err.why ≡ unanswered.Refused refusals.Keeper = cc in c.in-Err.ensures.spares (ap (λ (w : Unanswered). Err w) is)) c.requires.sound c.in-Err.ensures.gives
    (λ records f e bad. no_message all_pass (state_of c.args.world.now records) (by idle f) c.args.node.now c.args.id.value (tree_of c.args.message.now) _ e known room bad)
    (g.K.Keeper.held c.args.keeper.now) (g.K.Keeper.faults c.args.keeper.now) c.requires.consistent
