use Rattle.std.proofs.Common.{refl, inl, Ok, Err}
use Rattle.block_forms.specs.declared.fault.LimitName.TheVariants as limits
use Rattle.spec_messages.specs.Limits.{many_records}
use Rattle.spec_exchange.specs.SendingRefusals.{Beyond}
use Rattle.context_store.proofs.Calls.{recorded, no_room, untold}
use Rattle.spec_exchange.specs.Calls.{sent_record}
use Rattle.sending_sepp.specs.Outcome.{Answers, sealed_view}
use Rattle.sending_sepp.specs.declared.fault.SendFault.TheVariants as faults
use Rattle.context_store.specs.declared.call_faults.CallFault.TheVariants.{Refused, Keeper}
use Rattle.sending_sepp.proofs.recording.record_sent.Goals as goal

pub returns-in-Ok-clause-records : goal.returns-in-Ok-clause-records
returns-in-Ok-clause-records g c =
    let s = sealed_view c.args.node.now c.args.id.value c.args.checked in
    let a = rw (c.in_ok-copy.ensures, c.kind.ensures, c.message_id.ensures) at c.in-Ok.ensures in
    recorded (Beyond many_records) sent_record (Answers (Ok c.args.checked.document)) (g.K.Keeper.held c.args.keeper.now) (g.K.Keeper.held c.add.new.keeper) c.args.store.now c.add.new.self s (s, refl, refl) a.room a.put a.read_back a.added a.fresh

pub returns-in-Err-Limit-clause-records : goal.returns-in-Err-Limit-clause-records
returns-in-Err-Limit-clause-records g c =
    let s = sealed_view c.args.node.now c.args.id.value c.args.checked in
    let as_it_was = c.in-Err-Limit.ensures.as_it_was (inl cc) in
    no_room (Beyond many_records) sent_record (Answers (Err (Refused (faults.Limit limits.Records)))) (g.K.Keeper.held c.args.keeper.now) (g.K.Keeper.held c.add.new.keeper) c.args.store.now c.add.new.self s refl (c.in-Err-Limit.ensures.limit cc) as_it_was.1 as_it_was.0 c.requires.fresh

pub returns-in-Err-Keeper-clause-records : goal.returns-in-Err-Keeper-clause-records
returns-in-Err-Keeper-clause-records g c =
    let s = sealed_view c.args.node.now c.args.id.value c.args.checked in
    let a = rw (c.in_ok-copy.ensures, c.kind.ensures, c.message_id.ensures) at c.in-Err-Keeper.ensures in
    untold (Beyond many_records) sent_record (Answers (Err Keeper)) (g.K.Keeper.held c.args.keeper.now) (g.K.Keeper.held c.add.new.keeper) c.args.store.now c.add.new.self s refl (a.keeper cc) (a.stale cc) (a.perhaps cc) (a.perhaps_read cc)
