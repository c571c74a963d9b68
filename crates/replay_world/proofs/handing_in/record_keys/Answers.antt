use Rattle.std.proofs.Common.{◌≡◌, codes, ap, Err}
use Rattle.spec_records.specs.Records as records
use Rattle.context_records.specs.View.{key_set_view}
use Rattle.script_lines.specs.declared.refusal.Refusal.TheVariants as refusals
use Rattle.script_lines.specs.declared.unanswered.Unanswered.{Unanswered}
use Rattle.script_lines.specs.declared.unanswered.Unanswered.TheVariants as unanswered
use Rattle.replay_world.specs.Worlds.{state_of}
use Rattle.replay_world.specs.Handing.{keys_new, keys_may_come, puts_record}
use Rattle.replay_world.proofs.EventSteps.{no_keys, records_keys}
use Rattle.replay_world.proofs.Handling.{handles_fresh, handles_unfit_fresh}
use Rattle.replay_world.proofs.handing_in.record_keys.Goals as goal

pub returns-in-Ok : goal.returns-in-Ok
returns-in-Ok g c =
    handles_fresh (keys_new c.args.node c.args.id.value (key_set_view c.args.keys)) (puts_record (codes "keys") (records.Keyed c.args.node c.args.id.value (key_set_view c.args.keys))) (g.K.Keeper.held c.args.keeper.now) (g.K.Keeper.held c.put_keys.new.keeper) (g.K.Keeper.faults c.args.keeper.now) (g.K.Keeper.faults c.put_keys.new.keeper) c.args.world.now c.put_keys.new.world c.args.number c.put_keys.result
    c.requires.fresh (λ f. records_keys (state_of c.args.world.now c.args.world.now.store.records) f c.args.node c.args.id.value (key_set_view c.args.keys) c.in-Ok.ensures.gives)
    c.put_keys.ensures

pub returns-in-Err : goal.returns-in-Err
returns-in-Err g c =
    handles_unfit_fresh (keys_new c.args.node c.args.id.value (key_set_view c.args.keys)) (g.K.Keeper.held c.args.keeper.now) (g.K.Keeper.faults c.args.keeper.now) c.args.world.now c.args.number c.in-Err.why (keys_may_come c.args.world.now.store.records c.args.node c.args.id.value (key_set_view c.args.keys))
    (λ e. let is : c.in-Err.why ≡ unanswered.Refused refusals.Keeper = cc in c.in-Err.ensures.spares (ap (λ (w : Unanswered). Err w) is)) c.requires.fresh c.requires.ready c.in-Err.ensures.gives
    (λ f e bad. no_keys (state_of c.args.world.now c.args.world.now.store.records) f c.args.node c.args.id.value (key_set_view c.args.keys) e bad)
