use Rattle.std.proofs.Common.{◌≡◌, true, false}
use Rattle.n32_values.specs.View.{tree_of}
use Rattle.spec_script.specs.Steps as spec
use Rattle.spec_script.specs.Events.{Inject}
use Rattle.block_forms.specs.declared.fault.LimitName.TheVariants as limits
use Rattle.script_lines.specs.declared.refusal.Refusal.TheVariants as refusals
use Rattle.replay_world.specs.Outsiders.{all_pass, idle, by, unasked}
use Rattle.replay_world.specs.Worlds.{state_of}
use Rattle.replay_world.proofs.Documents.{idles_given}
use Rattle.replay_world.proofs.EventSteps.{given_full}
use Rattle.replay_world.proofs.Handling.{alone_done, alone_refused, alone_memory}
use Rattle.replay_world.proofs.Wires.{sound_more}
use Rattle.replay_world.proofs.traffic.inject.Goals as goal

pub returns-then-is_full : goal.returns-then-is_full
returns-then-is_full c =
    let full : spec.is_full c.args.world.now.wire ≡ true = cc in
    alone_refused (unasked (Inject (tree_of c.args.document))) c.args.world.now c.args.number (refusals.Limit limits.Wire) (λ e. cc) c.requires.sound
    (λ records f. given_full all_pass (state_of c.args.world.now records) (by idle f) (tree_of c.args.document) full)

pub returns-in-Ok : goal.returns-in-Ok
returns-in-Ok c =
    let room : spec.is_full c.args.world.now.wire ≡ false = cc in
    let more = rw c.from_shallow.ensures at c.in-Ok.ensures.goes_on in
    alone_done (unasked (Inject (tree_of c.args.document))) c.args.world.now c.put_given.new.world c.args.number c.in-Ok.text
    (idles_given c.args.world.now c.put_given.new.world c.args.number c.in-Ok.text (tree_of c.args.document) room c.in-Ok.ensures.text more)
    (sound_more c.args.world.now c.put_given.new.world (tree_of c.args.document) more c.requires.shallow c.requires.sound)

pub returns-in-Err : goal.returns-in-Err
returns-in-Err c = alone_memory (unasked (Inject (tree_of c.args.document))) c.args.world.now c.put_given.new.world c.args.number c.requires.sound c.in-Err.ensures.goes_on
