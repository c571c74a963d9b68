use Rattle.std.proofs.Common.{◌≡◌, is_some, true, false, refl, ◌∙◌}
use Rattle.context_records.specs.View.{key_set_view}
use Rattle.spec_script.specs.Events.{AddKeys}
use Rattle.replay_world.specs.Handing.{keys_new}
use Rattle.replay_world.proofs.EventSteps.{unknown_keys, takes_keys, keys_rest, keys_read}
use Rattle.spec_script.specs.Steps as spec
use Rattle.script_lines.specs.declared.refusal.Refusal.TheVariants as refusals
use Rattle.replay_world.specs.Outsiders.{all_pass, idle, by, unasked}
use Rattle.replay_world.specs.Worlds.{sites_view, state_of}
use Rattle.replay_world.proofs.Handling.{alone_refused, handles_read, unread_keeper}
use Rattle.replay_world.proofs.Recording.{comes_unread}
use Rattle.replay_world.proofs.handing_in.hand_in_keys.Goals as goal

pub returns-then-not-is_known : goal.returns-then-not-is_known
returns-then-not-is_known g c =
    let unknown : is_some (spec.plmn_at (sites_view c.args.world.now.sites) c.args.node) ≡ false = cc in
    alone_refused (unasked (AddKeys c.args.node c.args.id.value (key_set_view c.args.keys))) c.args.world.now c.args.number refusals.NodeUnknown (λ e. cc) c.requires.ready.sound
    (λ records f. unknown_keys all_pass (state_of c.args.world.now records) (by idle f) c.args.node c.args.id.value (key_set_view c.args.keys) unknown) (g.K.Keeper.held c.args.keeper.now) (g.K.Keeper.faults c.args.keeper.now) c.requires.ready.consistent

pub returns-in-Ok : goal.returns-in-Ok
returns-in-Ok g c =
    let known : is_some (spec.plmn_at (sites_view c.args.world.now.sites) c.args.node) ≡ true = cc in
    handles_read (unasked (AddKeys c.args.node c.args.id.value (key_set_view c.args.keys))) (keys_new c.args.node c.args.id.value (key_set_view c.args.keys)) (g.K.Keeper.held c.args.keeper.now) (g.K.Keeper.held c.refresh.new.keeper) (g.K.Keeper.held c.record_keys.new.keeper) (g.K.Keeper.faults c.args.keeper.now) (g.K.Keeper.faults c.refresh.new.keeper) (g.K.Keeper.faults c.record_keys.new.keeper) c.args.world.now c.record_keys.new.world c.refresh.new.self c.args.number c.record_keys.result
    c.refresh.ensures.same c.refresh.ensures.later
    (record { fresh = c.in-Ok.ensures.fresh; holds = c.in-Ok.ensures.consistent c.in-Ok.ensures.fresh; few = c.in-Ok.ensures.few; idle = λ e. (c.refresh.ensures.idle e).1 })
    (λ records f reads. takes_keys all_pass (state_of c.args.world.now records) (by idle f) c.args.node c.args.id.value (key_set_view c.args.keys) known ∙ keys_read (state_of c.args.world.now records) f c.args.node c.args.id.value (key_set_view c.args.keys) reads)
    c.record_keys.ensures

pub returns-in-Err : goal.returns-in-Err
returns-in-Err g c =
    let known : is_some (spec.plmn_at (sites_view c.args.world.now.sites) c.args.node) ≡ true = cc in
    rw c.unread.ensures (record {
      comes = comes_unread (unasked (AddKeys c.args.node c.args.id.value (key_set_view c.args.keys))) (keys_rest c.args.node c.args.id.value (key_set_view c.args.keys)) (g.K.Keeper.held c.args.keeper.now) (g.K.Keeper.held c.refresh.new.keeper) c.args.world.now _ c.args.number c.in-Err.fault
          (λ records f. takes_keys all_pass (state_of c.args.world.now records) (by idle f) c.args.node c.args.id.value (key_set_view c.args.keys) known)
          (λ e. let read = (c.refresh.ensures.idle e).0 in cc (read, c.in-Err.is)) c.in-Err.ensures.stale c.in-Err.ensures.journal c.refresh.ensures.same refl refl refl;
      ready = record { consistent = c.in-Err.ensures.consistent; sound = record { nodes = c.requires.ready.sound.nodes; wire = c.requires.ready.sound.wire; bytes = c.requires.ready.sound.bytes } };
      later = c.in-Err.ensures.later;
      failed = λ e. c.in-Err.ensures.failed (rw (unread_keeper c.in-Err.fault e) refl);
    })
