-- What sending a message comes to: the answer, and what is held after it.
use Rattle.std.specs.Prelude.{◌≡◌, ⊤, ℕ, List, Option, Result, Ok, Err}
use Rattle.spec_documents.specs.Tree.{Tree}
use Rattle.spec_documents.specs.Gives.{Tells}
use Rattle.spec_messages.specs.Message.{Message}
use Rattle.spec_records.specs.Records.{Record, own}
use Rattle.context_store.specs.Stores.{Stored}
use Rattle.context_store.specs.declared.call_faults.CheckFault.{CheckFault}
use Rattle.context_store.specs.declared.call_faults.CallFault.{CallFault}
use Rattle.context_store.specs.declared.call_faults.CallFault.TheVariants as protecting
use Rattle.context_store.specs.Changes.{Nothing, CallBy, with_room, PutBy}
use Rattle.block_forms.specs.declared.fault.LimitName.TheVariants as limits
use Rattle.spec_messages.specs.Limits.{many_records}
use Rattle.spec_exchange.specs.SendingRefusals.{Refusal, Beyond}
use Rattle.spec_exchange.specs.Outside.{Cause}
use Rattle.spec_exchange.specs.Calls.{Outgoing, Asks, Sealed, kind_of_outgoing, message_id, sent_record, protected, sends}
use Rattle.sending_sepp.specs.Outgoings.{outgoing_view}
use Rattle.sending_sepp.specs.Sending.{told, told_cause}
use Rattle.sending_sepp.specs.declared.checks.Checked.{Checked}
use Rattle.sending_sepp.specs.declared.fault.SendFault.{SendFault}
use Rattle.sending_sepp.specs.declared.fault.SendFault.TheVariants as faults

-- ---- sending

-- the document is the one that is sealed, and a refusal the one that is wanted
abbrev pub Answers : Result Tree (CallFault SendFault) → Result Sealed (Cause Refusal) → Type 0
Answers (Ok t) wanted = (s : Sealed) × (wanted ≡ Ok s) × (t ≡ s.document)
Answers (Err e) wanted = Tells (told_cause e) wanted

-- the message is sent over the records of the store, once it is read, under some choice of the keeper
abbrev pub ProtectsAs : Outgoing → (held now : Option (List (List ℕ))) (old new : Stored) (node : List ℕ) (id : ℕ) → Message → Result Tree (CallFault SendFault) → Type 0
ProtectsAs o held now old new node id m (Err protecting.NoMemory) = Nothing held now old new
ProtectsAs o held now old new node id m result = CallBy (λ f records. sends f records node id o m) (Answers result) held now old new

-- as a request
abbrev pub Protects : (held now : Option (List (List ℕ))) (old new : Stored) (node : List ℕ) (id : ℕ) → Message → Result Tree (CallFault SendFault) → Type 0
Protects = ProtectsAs Asks

-- ---- the context that it is of

-- the answer is that no record more may be held
abbrev pub IsFull : Result Tree (CallFault SendFault) → Type 0
IsFull result = result ≡ Err (protecting.Refused (faults.Limit limits.Records))

-- the answer is that over the records of this context alone, and the record that is put there is put
abbrev pub ProtectsApart : Outgoing → (held now : Option (List (List ℕ))) (old new : Stored) (node : List ℕ) (id : ℕ) → Message → Result Tree (CallFault SendFault) → Type 0
ProtectsApart o held now old new node id m (Err protecting.NoMemory) = ⊤
ProtectsApart o held now old new node id m result = CallBy (λ f records. sends f (own node id records) node id o m) (Answers result) held now old new

-- ---- its parts

-- what is sealed
abbrev pub sealed_view : (node : List ℕ) (id : ℕ) → Checked → Sealed
sealed_view node id c = record {
  document = c.document;
  node = node;
  id = id;
  kind = kind_of_outgoing (outgoing_view c.outgoing);
  seq = c.seq;
  message = message_id (outgoing_view c.outgoing) c.seq;
  mapping = c.mapping;
}

-- the sealed message or the first refusal, but for the limit on records
abbrev pub ChecksOut : List Record → (node : List ℕ) (id : ℕ) → Outgoing → Message → Result Checked (CheckFault SendFault) → Type 0
ChecksOut records node id o m (Ok c) = protected records node id o m ≡ with_room (Beyond many_records) records (sealed_view node id c)
ChecksOut records node id o m (Err e) = Tells (told e) (protected records node id o m)

-- the record of what is sealed is put over the records of a fresh store
abbrev pub Records : (held now : Option (List (List ℕ))) (old new : Stored) → Sealed → Result Tree (CallFault SendFault) → Type 0
Records held now old new s (Err protecting.NoMemory) = Nothing held now old new
Records held now old new s result = PutBy (Beyond many_records) sent_record (Answers result) held now old new s
