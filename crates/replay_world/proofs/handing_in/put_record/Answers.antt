use Rattle.std.proofs.Common.{refl, inl, inr, ⊎_elim}
use Rattle.context_records.specs.View.{record_view}
use Rattle.replay_world.proofs.Handling.{unrecorded_keeper}
use Rattle.replay_world.proofs.Recording.{comes_recorded, comes_unrecorded}
use Rattle.replay_world.proofs.handing_in.put_record.Goals as goal

pub returns-in-Ok : goal.returns-in-Ok
returns-in-Ok g c = record {
  comes = comes_recorded c.args.name.now (record_view c.args.item) (g.K.Keeper.held c.args.keeper.now) (g.K.Keeper.held c.add.new.keeper) c.args.world.now _ c.args.number c.in_ok-text.text
      c.requires.fresh c.requires.ready.consistent c.in-Ok.ensures.room c.in-Ok.ensures.put c.in-Ok.ensures.read_back c.in-Ok.ensures.added refl refl refl c.in_ok-text.ensures;
  ready = record { consistent = c.in-Ok.ensures.consistent; sound = record { nodes = c.requires.ready.sound.nodes; wire = c.requires.ready.sound.wire; bytes = c.requires.ready.sound.bytes } };
  later = c.in-Ok.ensures.later;
  failed = λ e. cc;
}

pub returns-in-Err : goal.returns-in-Err
returns-in-Err g c =
    rw c.unrecorded.ensures (record {
      comes = comes_unrecorded c.args.name.now (record_view c.args.item) (g.K.Keeper.held c.args.keeper.now) (g.K.Keeper.held c.add.new.keeper) c.args.world.now _ c.args.number c.in-Err.fault
          c.requires.fresh c.requires.ready.consistent
          (record {
            limit = λ is. c.in-Err.ensures.limit (rw is refl);
            room = λ is. c.in-Err.ensures.keeper (rw is refl);
            stale = λ is. c.in-Err.ensures.stale (rw is refl);
            perhaps = λ is. c.in-Err.ensures.perhaps (rw is refl);
            reads = λ is. c.in-Err.ensures.perhaps_read (rw is refl);
            same = λ either. c.in-Err.ensures.as_it_was (⊎_elim (λ is. inl (rw is refl)) (λ is. inr (rw is refl)) either);
          })
          refl refl refl;
      ready = record { consistent = c.in-Err.ensures.consistent; sound = record { nodes = c.requires.ready.sound.nodes; wire = c.requires.ready.sound.wire; bytes = c.requires.ready.sound.bytes } };
      later = c.in-Err.ensures.later;
      failed = λ e. c.in-Err.ensures.failed (rw (unrecorded_keeper c.in-Err.fault e) refl);
    })
