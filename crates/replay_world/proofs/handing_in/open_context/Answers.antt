use Rattle.std.proofs.Common.{◌≡◌, true, false, refl, codes, Err}
use Rattle.spec_records.specs.Records as records
use Rattle.context_records.specs.View.{context_view}
use Rattle.spec_script.specs.Refusals.{ContextUsed}
use Rattle.spec_script.specs.Steps.{refuses}
use Rattle.script_lines.specs.declared.refusal.Refusal.TheVariants as refusals
use Rattle.script_lines.specs.declared.unanswered.Unanswered.TheVariants as unanswered
use Rattle.replay_world.specs.Worlds.{state_of}
use Rattle.replay_world.specs.Handing.{opens_new, puts_record}
use Rattle.replay_world.proofs.EventSteps.{id_is_used, id_is_new}
use Rattle.replay_world.proofs.Handling.{alone_refused, handles_fresh}
use Rattle.replay_world.proofs.handing_in.open_context.Goals as goal

pub returns-then-used : goal.returns-then-used
returns-then-used g c =
    let used : records.used c.args.context.node c.args.context.id.value c.args.world.now.store.records ≡ true = cc in
    handles_fresh (opens_new (context_view c.args.context)) (λ s f. refuses s ContextUsed) (g.K.Keeper.held c.args.keeper.now) (g.K.Keeper.held c.args.keeper.now) (g.K.Keeper.faults c.args.keeper.now) (g.K.Keeper.faults c.args.keeper.now) c.args.world.now c.args.world.now c.args.number (Err (unanswered.Refused refusals.ContextUsed))
    c.requires.fresh (λ f. id_is_used (state_of c.args.world.now c.args.world.now.store.records) f (context_view c.args.context) used)
    (alone_refused (λ s f. refuses s ContextUsed) c.args.world.now c.args.number refusals.ContextUsed (λ e. cc) c.requires.ready.sound (λ records f. refl) (g.K.Keeper.held c.args.keeper.now) (g.K.Keeper.faults c.args.keeper.now) c.requires.ready.consistent)

pub returns : goal.returns
returns g c =
    let new : records.used c.args.context.node c.args.context.id.value c.args.world.now.store.records ≡ false = cc in
    handles_fresh (opens_new (context_view c.args.context)) (puts_record (codes "context") (records.Opened (context_view c.args.context))) (g.K.Keeper.held c.args.keeper.now) (g.K.Keeper.held c.put_opened.new.keeper) (g.K.Keeper.faults c.args.keeper.now) (g.K.Keeper.faults c.put_opened.new.keeper) c.args.world.now c.put_opened.new.world c.args.number c.put_opened.result
    c.requires.fresh (λ f. id_is_new (state_of c.args.world.now c.args.world.now.store.records) f (context_view c.args.context) new)
    c.put_opened.ensures
