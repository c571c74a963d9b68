use Rattle.std.proofs.Common.{◌≡◌, is_some, true, false, refl, ap, ◌∙◌, Err}
use Rattle.context_records.specs.View.{context_view}
use Rattle.script_lines.specs.View.{handed_view}
use Rattle.spec_script.specs.Events.{AddContext}
use Rattle.replay_world.specs.Handing.{context_to_open, opens_new}
use Rattle.replay_world.proofs.EventSteps.{unknown_context, no_context, opens_context, opens_rest, opens_read, opened_named}
use Rattle.spec_script.specs.Steps as spec
use Rattle.script_lines.specs.declared.refusal.Refusal.TheVariants as refusals
use Rattle.script_lines.specs.declared.unanswered.Unanswered.{Unanswered}
use Rattle.script_lines.specs.declared.unanswered.Unanswered.TheVariants as unanswered
use Rattle.replay_world.specs.Outsiders.{all_pass, idle, by, unasked}
use Rattle.replay_world.specs.Worlds.{sites_view, state_of}
use Rattle.replay_world.proofs.Handling.{alone_refused, alone_unfit, handles_read, unread_keeper}
use Rattle.replay_world.proofs.Recording.{comes_unread}
use Rattle.replay_world.proofs.handing_in.hand_in_context.Goals as goal

pub returns-then-not-is_known : goal.returns-then-not-is_known
returns-then-not-is_known g c =
    let unknown : is_some (spec.plmn_at (sites_view c.args.world.now.sites) c.args.handed.node) ≡ false = cc in
    alone_refused (unasked (AddContext (handed_view c.args.handed))) c.args.world.now c.args.number refusals.NodeUnknown (λ e. cc) c.requires.ready.sound
    (λ records f. unknown_context all_pass (state_of c.args.world.now records) (by idle f) (handed_view c.args.handed) unknown) (g.K.Keeper.held c.args.keeper.now) (g.K.Keeper.faults c.args.keeper.now) c.requires.ready.consistent

pub returns-in-Err : goal.returns-in-Err
returns-in-Err g c =
    let known : is_some (spec.plmn_at (sites_view c.args.world.now.sites) c.args.handed.node) ≡ true = cc in
    alone_unfit (unasked (AddContext (handed_view c.args.handed))) c.args.world.now c.args.number c.in-Err.why (context_to_open (handed_view c.args.handed)) (λ e. let is : c.in-Err.why ≡ unanswered.Refused refusals.Keeper = cc in c.in-Err.ensures.spares (ap (λ (w : Unanswered). Err w) is)) c.requires.ready.sound c.in-Err.ensures.gives
    (λ records f e bad. no_context all_pass (state_of c.args.world.now records) (by idle f) (handed_view c.args.handed) e known bad) (g.K.Keeper.held c.args.keeper.now) (g.K.Keeper.faults c.args.keeper.now) c.requires.ready.consistent

pub open_context-requires-clause-names : goal.open_context-requires-clause-names
open_context-requires-clause-names g c = opened_named (handed_view c.args.handed) (context_view c.in-Ok.context) c.in-Ok.ensures.gives c.requires.fit

pub returns-in-Ok-refresh : goal.returns-in-Ok-refresh
returns-in-Ok-refresh g c =
    let known : is_some (spec.plmn_at (sites_view c.args.world.now.sites) c.args.handed.node) ≡ true = cc in
    handles_read (unasked (AddContext (handed_view c.args.handed))) (opens_new (context_view c.in-Ok.context)) (g.K.Keeper.held c.args.keeper.now) (g.K.Keeper.held c.refresh.new.keeper) (g.K.Keeper.held c.open_context.new.keeper) (g.K.Keeper.faults c.args.keeper.now) (g.K.Keeper.faults c.refresh.new.keeper) (g.K.Keeper.faults c.open_context.new.keeper) c.args.world.now c.open_context.new.world c.refresh.new.self c.args.number c.open_context.result
    c.refresh.ensures.same c.refresh.ensures.later
    (record { fresh = c.in-Ok-refresh.ensures.fresh; holds = c.in-Ok-refresh.ensures.consistent c.in-Ok-refresh.ensures.fresh; few = c.in-Ok-refresh.ensures.few; idle = λ e. (c.refresh.ensures.idle e).1 })
    (λ records f reads. opens_context all_pass (state_of c.args.world.now records) (by idle f) (handed_view c.args.handed) (context_view c.in-Ok.context) known c.in-Ok.ensures.gives ∙ opens_read (state_of c.args.world.now records) f (context_view c.in-Ok.context) reads)
    c.open_context.ensures

pub returns-in-Err-refresh : goal.returns-in-Err-refresh
returns-in-Err-refresh g c =
    let known : is_some (spec.plmn_at (sites_view c.args.world.now.sites) c.args.handed.node) ≡ true = cc in
    rw c.unread.ensures (record {
      comes = comes_unread (unasked (AddContext (handed_view c.args.handed))) (opens_rest (context_view c.in-Ok.context)) (g.K.Keeper.held c.args.keeper.now) (g.K.Keeper.held c.refresh.new.keeper) c.args.world.now _ c.args.number c.in-Err-refresh.fault
          (λ records f. opens_context all_pass (state_of c.args.world.now records) (by idle f) (handed_view c.args.handed) (context_view c.in-Ok.context) known c.in-Ok.ensures.gives)
          (λ e. let read = (c.refresh.ensures.idle e).0 in cc (read, c.in-Err-refresh.is)) c.in-Err-refresh.ensures.stale c.in-Err-refresh.ensures.journal c.refresh.ensures.same refl refl refl;
      ready = record { consistent = c.in-Err-refresh.ensures.consistent; sound = record { nodes = c.requires.ready.sound.nodes; wire = c.requires.ready.sound.wire; bytes = c.requires.ready.sound.bytes } };
      later = c.in-Err-refresh.ensures.later;
      failed = λ e. c.in-Err-refresh.ensures.failed (rw (unread_keeper c.in-Err-refresh.fault e) refl);
    })
