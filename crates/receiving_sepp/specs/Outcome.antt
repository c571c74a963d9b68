-- What accepting a document comes to: the answer, and what is held after it.
use Rattle.std.specs.Prelude.{◌≡◌, ℕ, List, [], ◌∷◌, ◌++◌, Option, Result, Ok, Err, IsTrue}
use Rattle.spec_documents.specs.Tree.{Tree, is_ordered}
use Rattle.spec_documents.specs.Gives.{Tells}
use Rattle.spec_messages.specs.Steps.{InOrder}
use Rattle.spec_sealing.specs.Received.{Received, received}
use Rattle.http_message.specs.Reading.{kind_view, message_view}
use Rattle.spec_records.specs.Records.{Record}
use Rattle.context_store.specs.Stores.{Stored}
use Rattle.context_store.specs.declared.call_faults.CheckFault.{CheckFault}
use Rattle.context_store.specs.declared.call_faults.CallFault.{CallFault}
use Rattle.context_store.specs.declared.call_faults.CallFault.TheVariants as accepting
use Rattle.context_store.specs.Changes.{Nothing, CallBy, PutBy, with_room}
use Rattle.spec_exchange.specs.ReceivingRefusals.{NoRoom}
use Rattle.spec_exchange.specs.Accepting.{sealed_values, first_failed}
use Rattle.spec_exchange.specs.AcceptDelivered.{IsDelivered, Commutes}
use Rattle.spec_exchange.specs.Calls.{delivered_record, accepted}
use Rattle.spec_exchange.specs.AcceptRefusals.{Refusal, Receiving}
use Rattle.spec_exchange.specs.Outside.{Cause}
use Rattle.spec_exchange.specs.Stages.{Delivery, KeyedContext, keyed_context, key_for, opens}
use Rattle.spec_exchange.specs.EntryChecks.{Verifying}
use Rattle.spec_exchange.specs.Screens.{Passes}
use Rattle.entry_checks.specs.declared.refused.RefusedEntry.{RefusedEntry}
use Rattle.entry_checks.specs.declared.refused.EntryWhy.TheVariants.{Verifier}
use Rattle.receiving_sepp.specs.Refusing.{told, told_cause}
use Rattle.receiving_sepp.specs.declared.delivery.Delivered.{Delivered}
use Rattle.receiving_sepp.specs.declared.checks.Checked.{Checked}
use Rattle.receiving_sepp.specs.declared.refused.Refused.{Refused}
use Rattle.receiving_sepp.specs.declared.refused.Refused.TheVariants.{Entry}

-- the message that is delivered, with its id and kind
pub record Shows (x : Delivered) (d : Delivery) : Type 0 where
  pub message : message_view x.message ≡ d.content
  pub id : x.id.value ≡ d.message
  pub kind : kind_view x.kind ≡ d.kind

-- the message is the one that is to be delivered, and a refusal the one that is wanted
abbrev pub Answers : Result Delivered (CallFault Refused) → Result Delivery (Cause Refusal) → Type 0
Answers (Ok x) wanted = (d : Delivery) × (wanted ≡ Ok d) × Shows x d
Answers (Err e) wanted = Tells (told_cause e) wanted

-- the document is accepted over the records of the store, once it is read, where the screen passes these messages and the verifier comes to this, under some choice of the keeper
abbrev pub Accepts : Passes → Verifying → (held now : Option (List (List ℕ))) (old new : Stored) (node : List ℕ) → Tree → Result Delivered (CallFault Refused) → Type 0
Accepts passes v held now old new node t (Err accepting.NoMemory) = Nothing held now old new
Accepts passes v held now old new node t result = CallBy (λ f records. accepted passes (record { keeper = f; verifier = v }) records node t) (Answers result) held now old new

-- the answer is that the verifier failed, at some entry
pub record IsOfVerifier (result : Result Delivered (CallFault Refused)) : Type 0 where
  pub refused : RefusedEntry
  pub is : result ≡ Err (accepting.Refused (Entry refused))
  pub verifier : refused.why ≡ Verifier

-- the names are in order in the block of a document, and in each value that it was sealed with
pub record IsOrdered (records : List Record) (node : List ℕ) (t : Tree) : Type 0 where
  pub block : (d : Received) → received t ≡ Ok d → IsTrue (is_ordered d.block)
  pub values : (d : Received) (k : KeyedContext) (plain : List ℕ) → received t ≡ Ok d → keyed_context records node d.context ≡ Ok k → opens (key_for d.kind k) d.jwe ≡ Ok plain → InOrder (sealed_values plain)

-- what is delivered is the opened message, changed by the document's entries, over the records that the store had before it, and patching commutes with filling for it
pub record IsPatched (passes : Passes) (v : Verifying) (new : Stored) (node : List ℕ) (t : Tree) (x : Delivered) : Type 0 where
  pub records : List Record
  pub delivery : Delivery
  pub shows : Shows x delivery
  pub more : new.records ≡ records ++ delivered_record delivery ∷ []
  pub behind : IsDelivered passes v records node t delivery
  pub ordered : InOrder (sealed_values behind.plain)
  pub commutes : Commutes behind

-- ---- the parts of a call

abbrev pub delivery_view : List ℕ → Checked → Delivery
delivery_view node c = record {
  content = message_view c.content;
  node = node;
  id = c.context.value;
  kind = kind_view c.kind;
  message = c.message.value;
  mapping = c.mapping;
}

-- the first check that fails, but for the limit on records
abbrev pub ChecksOut : Passes → Verifying → List Record → List ℕ → Tree → Result Checked (CheckFault Refused) → Type 0
ChecksOut passes v records node t (Ok c) = first_failed passes v records node t ≡ with_room (Receiving NoRoom) records (delivery_view node c)
ChecksOut passes v records node t (Err e) = Tells (told e) (first_failed passes v records node t)

-- the record of a delivery is put over the records of a fresh store, and then it is delivered
abbrev pub Delivers : (held now : Option (List (List ℕ))) (old new : Stored) → Delivery → Result Delivered (CallFault Refused) → Type 0
Delivers held now old new d (Err accepting.NoMemory) = Nothing held now old new
Delivers held now old new d result = PutBy (Receiving NoRoom) delivered_record (Answers result) held now old new d
