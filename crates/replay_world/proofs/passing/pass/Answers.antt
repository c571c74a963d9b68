use Rattle.std.proofs.Common.{◌≡◌, true, false, refl, sym, Some, None}
use Rattle.n32_values.specs.View.{tree_of}
use Rattle.spec_script.specs.Steps as spec
use Rattle.spec_script.specs.Events.{Pass}
use Rattle.block_forms.specs.declared.fault.LimitName.TheVariants as limits
use Rattle.script_lines.specs.declared.refusal.Refusal.TheVariants as refusals
use Rattle.replay_world.specs.Outsiders.{all_pass, by, event_steps, of_signer, only_signs}
use Rattle.spec_documents.specs.Tree.{depth}
use Rattle.replay_world.specs.Worlds.{IsShallow, state_of}
use Rattle.replay_world.proofs.EventSteps.{passed_none, passed_full}
use Rattle.replay_world.proofs.Handling.{alone_refused, alone_memory}
use Rattle.replay_world.proofs.Signing.{signed_any, passed_done, passed_not, low_passed}
use Rattle.replay_world.proofs.Wires.{low_at}
use Rattle.replay_world.proofs.passing.pass.Goals as goal

pub returns-in-None-clause-handles : goal.returns-in-None-clause-handles
returns-in-None-clause-handles g c =
    let none : spec.wire_at c.args.world.now.wire c.args.wire.now ≡ None = sym c.in-None.ensures in
    signed_any _ _ _ λ x. alone_refused (event_steps all_pass (only_signs x) (Pass c.args.ipx c.args.wire.now (tree_of c.args.operations))) c.args.world.now c.args.number refusals.WireUnknown (λ e. cc) c.requires.sound
    (λ records f. passed_none all_pass (state_of c.args.world.now records) (by (only_signs x) f) c.args.ipx c.args.wire.now (tree_of c.args.operations) none)

pub returns-then-is_full-clause-handles : goal.returns-then-is_full-clause-handles
returns-then-is_full-clause-handles g c =
    let found : spec.wire_at c.args.world.now.wire c.args.wire.now ≡ Some c.in-Some.document.now = sym c.in-Some.ensures in
    let full : spec.is_full c.args.world.now.wire ≡ true = cc in
    signed_any _ _ _ λ x. alone_refused (event_steps all_pass (only_signs x) (Pass c.args.ipx c.args.wire.now (tree_of c.args.operations))) c.args.world.now c.args.number (refusals.Limit limits.Wire) (λ e. cc) c.requires.sound
    (λ records f. passed_full all_pass (state_of c.args.world.now records) (by (only_signs x) f) c.args.ipx c.args.wire.now (tree_of c.args.operations) c.in-Some.document.now found full)

pub returns-in-Ok-put_made-clause-handles : goal.returns-in-Ok-put_made-clause-handles
returns-in-Ok-put_made-clause-handles g c =
    let found : spec.wire_at c.args.world.now.wire c.args.wire.now ≡ Some c.in-Some.document.now = sym c.in-Some.ensures in
    let room : spec.is_full c.args.world.now.wire ≡ false = cc in
    passed_done (of_signer (g.G.Signer.algorithm c.args.signer.now) (g.G.Signer.meaning c.args.signer.now) (g.G.Signer.faults c.args.signer.now)) _ c.args.world.now c.put_made.new.world c.args.number c.in-Ok-put_made.text c.args.ipx c.args.wire.now (tree_of c.args.operations) c.in-Some.document.now c.in-Ok.passed
    found room (rw c.from_shallow.ensures at c.in-Ok.ensures.passes) c.in-Ok-put_made.ensures.text c.in-Ok-put_made.ensures.goes_on
    (low_passed (depth c.in-Some.document.now) (depth c.in-Ok.passed) c.in-Ok.ensures.depth (low_at IsShallow c.args.world.now.wire c.args.wire.now c.in-Some.document.now c.requires.sound.wire found)) c.requires.sound

pub returns-in-Ok-clause-handles : goal.returns-in-Ok-clause-handles
returns-in-Ok-clause-handles g c =
    signed_any _ _ _ λ x. alone_memory (event_steps all_pass (only_signs x) (Pass c.args.ipx c.args.wire.now (tree_of c.args.operations))) c.args.world.now c.put_made.new.world c.args.number c.requires.sound c.in-Err-put_made.ensures.goes_on

pub returns-clause-handles : goal.returns-clause-handles
returns-clause-handles g c =
    let found : spec.wire_at c.args.world.now.wire c.args.wire.now ≡ Some c.in-Some.document.now = sym c.in-Some.ensures in
    let room : spec.is_full c.args.world.now.wire ≡ false = cc in
    rw c.unpassed.ensures (passed_not (of_signer (g.G.Signer.algorithm c.args.signer.now) (g.G.Signer.meaning c.args.signer.now) (g.G.Signer.faults c.args.signer.now)) _ c.args.world.now c.args.number c.args.ipx c.args.wire.now (tree_of c.args.operations) c.in-Some.document.now c.in-Err.fault
    found room (rw c.from_shallow.ensures at c.in-Err.ensures.passes) (λ e. c.in-Err.ensures.asked (rw e refl)) (λ e. c.in-Err.ensures.failed (rw e refl)) c.requires.sound)
