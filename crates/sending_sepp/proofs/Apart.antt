-- Sending over the records of the context alone comes to the same, and puts a record of this context.
use Rattle.std.proofs.Common.{◌≡◌, ℕ, List, true, Option, Result, Ok, Err, refl, ap, subst}
use Rattle.std.specs.Prelude.{bytes_eq}
use Rattle.std.proofs.lemmas.Bool.{and_from, eq-eqb}
use Rattle.std.proofs.lemmas.Slice.Eq.{bytes_eq-Decides}
use Rattle.spec_documents.specs.Tree.{Tree}
use Rattle.spec_messages.specs.Message.{Message}
use Rattle.spec_messages.specs.Limits.{many_records}
use Rattle.spec_records.specs.Records.{Record, is_of, own}
use Rattle.context_store.specs.Stores.{Stored}
use Rattle.context_store.specs.Changes.{ComesTo, CallBy, AddsOwn}
use Rattle.context_store.proofs.Calls.{not_refused, adds_own, adds_nothing}
use Rattle.block_forms.specs.Faults.{limit_view}
use Rattle.block_forms.specs.declared.fault.LimitName.{LimitName}
use Rattle.block_forms.specs.declared.fault.LimitName.TheVariants as limits
use Rattle.context_store.specs.declared.call_faults.CallFault.{CallFault}
use Rattle.context_store.specs.declared.call_faults.CallFault.TheVariants as faults
use Rattle.spec_exchange.specs.SendingRefusals.{Refusal, Beyond}
use Rattle.spec_exchange.specs.Outside.{Cause, Own, Reading, Read, ReadFails, BadRecord, Putting, puts, behind_reading, or_refusal}
use Rattle.spec_exchange.specs.Calls.{Outgoing, Sealed, sent_record, protected, sends}
use Rattle.spec_exchange.proofs.ChainLemmas.{protected-ok}
use Rattle.spec_exchange.proofs.IsolationLemmas.{message_apart}
use Rattle.sending_sepp.specs.Outcome.{Answers, IsFull, ProtectsAs, ProtectsApart}
use Rattle.sending_sepp.specs.Sending.{refusal_view}
use Rattle.sending_sepp.specs.declared.fault.SendFault.{SendFault}
use Rattle.sending_sepp.specs.declared.fault.SendFault.TheVariants as send

-- ---- the answer

module _ (Comes : Result Sealed (Cause Refusal) → Type 0) (held now : Option (List (List ℕ))) (records : List Record) (new : Stored) where
  call_same : (reading : Reading) (p : Putting) (r s : Result Sealed Refusal) → (Comes (Err (Own (Beyond many_records))) → ⊥) → ((r ≡ Err (Beyond many_records) → ⊥) → r ≡ s)
      → ComesTo Comes held now records new (behind_reading reading (or_refusal r (λ s. puts p (sent_record s) s))) → ComesTo Comes held now records new (behind_reading reading (or_refusal s (λ s. puts p (sent_record s) s)))
  call_same Read p r s other same c =
      subst (λ (z : Result Sealed Refusal). ComesTo Comes held now records new (or_refusal z (λ s. puts p (sent_record s) s))) (same (not_refused sent_record Comes held now records new p r (Beyond many_records) other c)) c
  call_same ReadFails p r s other same c = c
  call_same (BadRecord k) p r s other same c = c

by_own : (o : Outgoing) (held now : Option (List (List ℕ))) (old new : Stored) (node : List ℕ) (id : ℕ) (m : Message) (result : Result Tree (CallFault SendFault)) → (Answers result (Err (Own (Beyond many_records))) → ⊥)
    → CallBy (λ f records. sends f records node id o m) (Answers result) held now old new → CallBy (λ f records. sends f (own node id records) node id o m) (Answers result) held now old new
by_own o held now old new node id m result other h = record {
  choice = h.choice;
  records = h.records;
  chosen = h.chosen;
  few = h.few;
  comes = call_same (Answers result) held now h.records new h.choice.reading h.choice.putting (protected h.records node id o m) (protected (own node id h.records) node id o m)
      other (λ differs. message_apart h.records node id o m (λ full. differs)) h.comes;
}

is_records : (name : LimitName) → limit_view name ≡ many_records → name ≡ limits.Records
is_records limits.Records e = refl
is_records _ e = cc

is_limit : (f : SendFault) → refusal_view f ≡ Beyond many_records → f ≡ send.Limit limits.Records
is_limit (send.Limit name) e = let same : limit_view name ≡ many_records = cc in ap (λ n. send.Limit n) (is_records name same)
is_limit _ e = cc

pub apart : (o : Outgoing) (held now : Option (List (List ℕ))) (old new : Stored) (node : List ℕ) (id : ℕ) (m : Message) (result : Result Tree (CallFault SendFault)) → (IsFull result → ⊥) → ProtectsAs o held now old new node id m result → ProtectsApart o held now old new node id m result
apart o held now old new node id m (Ok t) other h = by_own o held now old new node id m (Ok t) (λ a. let is = a.1 in cc) h
apart o held now old new node id m (Err (faults.Refused f)) other h =
    by_own o held now old new node id m (Err (faults.Refused f)) (λ a. let same : refusal_view f ≡ Beyond many_records = cc in other (ap (λ z. Err (faults.Refused z)) (is_limit f same))) h
apart o held now old new node id m (Err (faults.Journal k)) other h = by_own o held now old new node id m (Err (faults.Journal k)) (λ a. cc) h
apart o held now old new node id m (Err faults.Keeper) other h = by_own o held now old new node id m (Err faults.Keeper) (λ a. cc) h
apart o held now old new node id m (Err faults.NoMemory) other h = tt

-- ---- the record that is put

is_own : (records : List Record) (node : List ℕ) (id : ℕ) (o : Outgoing) (m : Message) (s : Sealed) → protected records node id o m ≡ Ok s → is_of node id (sent_record s) ≡ true
is_own records node id o m s e =
    let next = protected-ok records node id o m s e in
    and_from (bytes_eq s.node node) _ ((bytes_eq-Decides s.node node).1 next.node_is) (eq-eqb s.id id next.id_is)

pub own_put : (o : Outgoing) (held now : Option (List (List ℕ))) (old new : Stored) (node : List ℕ) (id : ℕ) (m : Message) (result : Result Tree (CallFault SendFault)) → ProtectsAs o held now old new node id m result → AddsOwn (is_of node id) held now old new
own_put o held now old new node id m (Err faults.NoMemory) h = adds_nothing (is_of node id) held now old new h
own_put o held now old new node id m result h = adds_own (is_of node id) (λ records. protected records node id o m) sent_record (Answers result) held now old new (λ records s is. is_own records node id o m s is) h
