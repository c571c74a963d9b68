use Rattle.std.proofs.Common.{◌≡◌, true, false, sym, ap, map, Some, None, Err}
use Rattle.json_patch6902.specs.View.{op_view}
use Rattle.spec_script.specs.Steps as spec
use Rattle.spec_script.specs.Events.{Alter}
use Rattle.spec_script.specs.Altering.{altered}
use Rattle.block_forms.specs.declared.fault.LimitName.TheVariants as limits
use Rattle.script_lines.specs.declared.refusal.Refusal.TheVariants as refusals
use Rattle.script_lines.specs.declared.unanswered.Unanswered.{Unanswered}
use Rattle.script_lines.specs.declared.unanswered.Unanswered.TheVariants as unanswered
use Rattle.replay_world.specs.Outsiders.{all_pass, idle, by, unasked}
use Rattle.replay_world.specs.Worlds.{IsShallow, state_of}
use Rattle.replay_world.proofs.Documents.{idles_made}
use Rattle.replay_world.proofs.EventSteps.{altered_none, altered_full, altered_refused, altered_goes_on}
use Rattle.replay_world.proofs.Handling.{alone_done, alone_refused, alone_unfit}
use Rattle.replay_world.proofs.Wires.{low_at, sound_more}
use Rattle.replay_world.proofs.passing.alter.Goals as goal

pub alter_all-requires : goal.alter_all-requires
alter_all-requires c =
    let found : spec.wire_at c.args.world.now.wire c.args.wire.now ≡ Some c.in-Some.document.now = sym c.in-Some.ensures in
    low_at IsShallow c.args.world.now.wire c.args.wire.now c.in-Some.document.now c.requires.wire found

pub returns-in-None : goal.returns-in-None
returns-in-None c =
    let none : spec.wire_at c.args.world.now.wire c.args.wire.now ≡ None = sym c.in-None.ensures in
    alone_refused (unasked (Alter c.args.wire.now (map op_view c.args.operations.now))) c.args.world.now c.args.number refusals.WireUnknown (λ e. cc) c.requires
    (λ records f. altered_none all_pass (state_of c.args.world.now records) (by idle f) c.args.wire.now (map op_view c.args.operations.now) none)

pub returns-then-is_full : goal.returns-then-is_full
returns-then-is_full c =
    let found : spec.wire_at c.args.world.now.wire c.args.wire.now ≡ Some c.in-Some.document.now = sym c.in-Some.ensures in
    let full : spec.is_full c.args.world.now.wire ≡ true = cc in
    alone_refused (unasked (Alter c.args.wire.now (map op_view c.args.operations.now))) c.args.world.now c.args.number (refusals.Limit limits.Wire) (λ e. cc) c.requires
    (λ records f. altered_full all_pass (state_of c.args.world.now records) (by idle f) c.args.wire.now (map op_view c.args.operations.now) c.in-Some.document.now found full)

pub returns-in-Ok-put_made : goal.returns-in-Ok-put_made
returns-in-Ok-put_made c =
    let found : spec.wire_at c.args.world.now.wire c.args.wire.now ≡ Some c.in-Some.document.now = sym c.in-Some.ensures in
    let room : spec.is_full c.args.world.now.wire ≡ false = cc in
    alone_done (unasked (Alter c.args.wire.now (map op_view c.args.operations.now))) c.args.world.now c.put_made.new.world c.args.number c.in-Ok-put_made.text
    (idles_made (unasked (Alter c.args.wire.now (map op_view c.args.operations.now))) c.args.world.now c.put_made.new.world c.args.number c.in-Ok-put_made.text c.in-Ok.altered
    (λ records f. altered_goes_on all_pass (state_of c.args.world.now records) (by idle f) c.args.wire.now (map op_view c.args.operations.now) c.in-Some.document.now c.in-Ok.altered found room c.in-Ok.ensures.gives)
    c.in-Ok-put_made.ensures.text c.in-Ok-put_made.ensures.goes_on)
    (sound_more c.args.world.now c.put_made.new.world c.in-Ok.altered c.in-Ok-put_made.ensures.goes_on c.in-Ok.ensures.shallow c.requires)

pub returns-in-Err : goal.returns-in-Err
returns-in-Err c =
    let found : spec.wire_at c.args.world.now.wire c.args.wire.now ≡ Some c.in-Some.document.now = sym c.in-Some.ensures in
    let room : spec.is_full c.args.world.now.wire ≡ false = cc in
    alone_unfit (unasked (Alter c.args.wire.now (map op_view c.args.operations.now))) c.args.world.now c.args.number c.in-Err.why (altered (map op_view c.args.operations.now) c.in-Some.document.now) (λ e. let is : c.in-Err.why ≡ unanswered.Refused refusals.Keeper = cc in c.in-Err.ensures.spares (ap (λ (w : Unanswered). Err w) is)) c.requires c.in-Err.ensures.gives
    (λ records f e bad. altered_refused all_pass (state_of c.args.world.now records) (by idle f) c.args.wire.now (map op_view c.args.operations.now) c.in-Some.document.now e found room bad)
