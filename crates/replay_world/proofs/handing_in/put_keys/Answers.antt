use Rattle.std.proofs.Common.{refl, codes}
use Rattle.spec_records.specs.Records as records
use Rattle.context_records.specs.View.{key_set_view}
use Rattle.replay_world.specs.Handing.{puts_record}
use Rattle.replay_world.proofs.Handling.{alone_memory}
use Rattle.replay_world.proofs.handing_in.put_keys.Goals as goal

pub put_record-requires-clause-names : goal.put_record-requires-clause-names
put_record-requires-clause-names g c = rw c.in-Ok.ensures c.requires.name

pub returns-in-Ok : goal.returns-in-Ok
returns-in-Ok g c = rw c.in-Ok.ensures at c.put_record.ensures

pub returns-in-Err : goal.returns-in-Err
returns-in-Err g c = alone_memory (puts_record (codes "keys") (records.Keyed c.args.node c.args.id.value (key_set_view c.args.keys))) c.args.world.now c.args.world.now c.args.number c.requires.ready.sound refl (g.K.Keeper.held c.args.keeper.now) (g.K.Keeper.faults c.args.keeper.now) c.requires.ready.consistent
