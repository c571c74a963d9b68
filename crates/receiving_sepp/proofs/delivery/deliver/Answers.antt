use Rattle.std.proofs.Common.{Err, refl, ap, inl}
use Rattle.spec_records.specs.Records.{Delivered}
use Rattle.http_message.specs.Reading.{kind_view}
use Rattle.context_store.proofs.Calls.{no_room}
use Rattle.spec_exchange.specs.Calls.{delivered_record}
use Rattle.receiving_sepp.specs.Outcome.{Answers, delivery_view}
use Rattle.spec_exchange.specs.ReceivingRefusals.{NoRoom}
use Rattle.spec_exchange.specs.AcceptRefusals.{Receiving}
use Rattle.context_store.specs.declared.call_faults.CallFault.TheVariants.{Refused}
use Rattle.receiving_sepp.specs.declared.refused.Refused.TheVariants.{Limit}
use Rattle.receiving_sepp.proofs.Calls.{recorded_delivers, untold_delivers}
use Rattle.receiving_sepp.proofs.delivery.deliver.Goals as goal

pub returns-in-Ok-clause-delivers : goal.returns-in-Ok-clause-delivers
returns-in-Ok-clause-delivers g c =
    recorded_delivers _ _ _ _ (delivery_view c.args.node.now c.args.checked) _ _ (ap (λ n. Delivered n c.args.checked.context.value (kind_view c.args.checked.kind) c.args.checked.message.value c.args.checked.mapping) c.in_ok-copy.ensures)
    (record { message = refl; id = refl; kind = refl }) c.in-Ok.ensures.room c.in-Ok.ensures.put c.in-Ok.ensures.read_back c.in-Ok.ensures.added c.in-Ok.ensures.fresh

pub returns-in-Err-Limit-clause-delivers : goal.returns-in-Err-Limit-clause-delivers
returns-in-Err-Limit-clause-delivers g c =
    no_room (Receiving NoRoom) delivered_record (Answers (Err (Refused Limit))) _ _ _ _ (delivery_view c.args.node.now c.args.checked) refl (c.in-Err-Limit.ensures.limit (ap (λ e. Err e) c.in-Err-Limit.field-0-is))
    (c.in-Err-Limit.ensures.as_it_was (inl (ap (λ e. Err e) c.in-Err-Limit.field-0-is))).1 (c.in-Err-Limit.ensures.as_it_was (inl (ap (λ e. Err e) c.in-Err-Limit.field-0-is))).0 c.requires.fresh

pub returns-in-Err-Keeper-clause-delivers : goal.returns-in-Err-Keeper-clause-delivers
returns-in-Err-Keeper-clause-delivers g c =
    untold_delivers _ _ _ _ (delivery_view c.args.node.now c.args.checked) _ (ap (λ n. Delivered n c.args.checked.context.value (kind_view c.args.checked.kind) c.args.checked.message.value c.args.checked.mapping) c.in_ok-copy.ensures)
    (c.in-Err-Keeper.ensures.keeper (ap (λ e. Err e) c.in-Err-Keeper.field-0-is)) (c.in-Err-Keeper.ensures.stale (ap (λ e. Err e) c.in-Err-Keeper.field-0-is)) (c.in-Err-Keeper.ensures.perhaps (ap (λ e. Err e) c.in-Err-Keeper.field-0-is)) (c.in-Err-Keeper.ensures.perhaps_read (ap (λ e. Err e) c.in-Err-Keeper.field-0-is))
