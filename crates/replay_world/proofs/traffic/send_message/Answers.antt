use Rattle.std.proofs.Common.{refl, ap}
use Rattle.replay_world.specs.declared.world.World.{World}
use Rattle.spec_script.specs.Steps as spec
use Rattle.spec_exchange.specs.Calls.{sends}
use Rattle.http_message.specs.Reading.{message_view}
use Rattle.replay_world.specs.Sending.{outgoing_view}
use Rattle.replay_world.proofs.Sealing.{document_low}
use Rattle.replay_world.proofs.Documents.{comes_sealed, comes_unsealed, sealing_gives_up}
use Rattle.replay_world.proofs.Handling.{unsent_keeper}
use Rattle.replay_world.proofs.Wires.{sound_more}
use Rattle.replay_world.proofs.traffic.send_message.Goals as goal

pub returns-in-Err-put_made : goal.returns-in-Err-put_made
returns-in-Err-put_made g c = record {
  comes = sealing_gives_up (outgoing_view c.args.outgoing) (λ s f. spec.sends_sealed s (sends f s.records c.args.node.now c.args.id.value (outgoing_view c.args.outgoing) (message_view c.args.message.now))) (g.K.Keeper.held c.args.keeper.now) (g.K.Keeper.held c.protect_as.new.keeper) c.args.world.now c.put_made.new.world c.args.node.now c.args.id.value (message_view c.args.message.now) c.in-Ok.document
      (rw c.in-Err-put_made.ensures.goes_on c.in-Ok.ensures.protects) (λ records f. refl) (ap (λ (w : World). w.sites) c.in-Err-put_made.ensures.goes_on) (ap (λ (w : World). w.wire) c.in-Err-put_made.ensures.goes_on);
  ready = rw c.in-Err-put_made.ensures.goes_on (record { consistent = c.in-Ok.ensures.consistent; sound = record { nodes = c.requires.ready.sound.nodes; wire = c.requires.ready.sound.wire; bytes = c.requires.ready.sound.bytes } });
  later = c.in-Ok.ensures.later;
  failed = λ e. cc;
}

pub returns-in-Ok-put_made : goal.returns-in-Ok-put_made
returns-in-Ok-put_made g c =
    let more = c.in-Ok-put_made.ensures.goes_on in
    let low = document_low (outgoing_view c.args.outgoing) (g.K.Keeper.held c.args.keeper.now) (g.K.Keeper.held c.protect_as.new.keeper) c.args.world.now.store c.protect_as.new.store c.args.node.now c.args.id.value (message_view c.args.message.now) c.in-Ok.document c.in-Ok.ensures.protects in
    record {
      comes = comes_sealed (outgoing_view c.args.outgoing) (λ s f. spec.sends_sealed s (sends f s.records c.args.node.now c.args.id.value (outgoing_view c.args.outgoing) (message_view c.args.message.now))) (g.K.Keeper.held c.args.keeper.now) (g.K.Keeper.held c.protect_as.new.keeper) c.args.world.now c.put_made.new.world c.args.number c.in-Ok-put_made.text c.args.node.now c.args.id.value (message_view c.args.message.now) c.in-Ok.document
          (rw (more.store) c.in-Ok.ensures.protects) (λ records f. refl) more.sites more.hands more.wire c.in-Ok-put_made.ensures.text;
      ready = record {
        consistent = rw (more.store) c.in-Ok.ensures.consistent;
        sound = sound_more _ c.put_made.new.world c.in-Ok.document more low (record { nodes = c.requires.ready.sound.nodes; wire = c.requires.ready.sound.wire; bytes = c.requires.ready.sound.bytes });
      };
      later = c.in-Ok.ensures.later;
      failed = λ e. cc;
    }

pub returns-in-Err : goal.returns-in-Err
returns-in-Err g c = rw c.unsent.ensures (record {
  comes = comes_unsealed (outgoing_view c.args.outgoing) (λ s f. spec.sends_sealed s (sends f s.records c.args.node.now c.args.id.value (outgoing_view c.args.outgoing) (message_view c.args.message.now))) (g.K.Keeper.held c.args.keeper.now) (g.K.Keeper.held c.protect_as.new.keeper) c.args.world.now _ c.args.number c.args.node.now c.args.id.value (message_view c.args.message.now) c.in-Err.fault
      c.in-Err.ensures.protects (λ records f. refl) refl refl refl;
  ready = record { consistent = c.in-Err.ensures.consistent; sound = record { nodes = c.requires.ready.sound.nodes; wire = c.requires.ready.sound.wire; bytes = c.requires.ready.sound.bytes } };
  later = c.in-Err.ensures.later;
  failed = λ e. c.in-Err.ensures.failed (rw (unsent_keeper c.in-Err.fault e) refl);
})
