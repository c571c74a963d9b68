-- What the call comes to, from what its parts come to.
use Rattle.std.proofs.Common.{◌≡◌, ℕ, ◌<◌, List, length, false, Option, Result, Err, is_ok, IsOk, refl, ap, ◌∙◌}
use Rattle.spec_documents.specs.Tree.{Tree}
use Rattle.spec_documents.specs.Gives.{Tells}
use Rattle.spec_messages.specs.Message.{Message}
use Rattle.spec_records.specs.Records.{Record, record_limit}
use Rattle.n32_outside.specs.Contents.{Stays}
use Rattle.context_store.specs.Stores.{Stored, NamesBad}
use Rattle.context_store.specs.declared.faults.OpenFault.{OpenFault}
use Rattle.context_store.specs.declared.faults.OpenFault.TheVariants as opening
use Rattle.context_store.specs.declared.call_faults.CheckFault.{CheckFault}
use Rattle.context_store.specs.declared.call_faults.CheckFault.TheVariants as checking
use Rattle.context_store.specs.declared.call_faults.CallFault.{CallFault}
use Rattle.context_store.specs.declared.call_faults.CallFault.TheVariants as faults
use Rattle.context_store.specs.CallFaults.{of_check, of_opening}
use Rattle.context_store.specs.Changes.{with_room}
use Rattle.context_store.proofs.Calls as calls
use Rattle.context_store.proofs.Calls.{IsRead}
use Rattle.spec_messages.specs.Limits.{many_records}
use Rattle.spec_exchange.specs.SendingRefusals.{Beyond}
use Rattle.spec_exchange.specs.Calls.{Outgoing, Sealed, sent_record, protected}
use Rattle.sending_sepp.specs.Sending as sending
use Rattle.sending_sepp.specs.Sending.{refusal_view}
use Rattle.sending_sepp.specs.Outcome.{Answers, ProtectsAs, Records}
use Rattle.sending_sepp.specs.declared.fault.SendFault.{SendFault}

-- the store isn't read
pub unread : (o : Outgoing) (held now : Option (List (List ℕ))) (old new : Stored) (node : List ℕ) (id : ℕ) (m : Message) (fault : OpenFault) → Stays held now → old.fresh ≡ false → new.fresh ≡ false → NamesBad held fault → ProtectsAs o held now old new node id m (Err (of_opening fault))
unread o held now old new node id m (opening.Journal k) stays before after first = calls.bad_record (λ records. protected records node id o m) sent_record (Answers (Err (faults.Journal k))) held now old new k refl stays before after first
unread o held now old new node id m opening.Keeper stays before after first = calls.unread (λ records. protected records node id o m) sent_record (Answers (Err faults.Keeper)) held now old new refl stays before after
unread o held now old new node id m opening.NoMemory stays before after first = record { told = stays; kept = λ f. cc }

-- a check refuses
pub unchecked : (o : Outgoing) (held now : Option (List (List ℕ))) (old new : Stored) (node : List ℕ) (id : ℕ) (m : Message) (e : CheckFault SendFault) → IsRead held now old new → Tells (sending.told e) (protected new.records node id o m) → ProtectsAs o held now old new node id m (Err (of_check e))
unchecked o held now old new node id m (checking.Refused e) read tells = calls.refused (λ records. protected records node id o m) sent_record (Answers (Err (faults.Refused e))) held now old new (refusal_view e) refl read tells
unchecked o held now old new node id m checking.NoMemory read tells = record { told = read.told; kept = read.same }

-- the record of what passes is put
pub sent : (o : Outgoing) (held mid now : Option (List (List ℕ))) (old read new : Stored) (node : List ℕ) (id : ℕ) (m : Message) (s : Sealed) (r : Result Tree (CallFault SendFault)) → IsRead held mid old read → protected read.records node id o m ≡ with_room (Beyond many_records) read.records s → Records mid now read new s r → ProtectsAs o held now old new node id m r
sent o held mid now old read new node id m s (Err faults.NoMemory) is_read is h = record { told = h.told ∙ is_read.told; kept = λ f. h.kept is_read.fresh ∙ is_read.same f }
sent o held mid now old read new node id m s r is_read is h = calls.put (Beyond many_records) (λ records. protected records node id o m) sent_record (Answers r) held mid now old read new s h is_read is

pub passed : (o : Outgoing) (records : List Record) (node : List ℕ) (id : ℕ) (m : Message) (s : Sealed) → length records < record_limit → protected records node id o m ≡ with_room (Beyond many_records) records s → IsOk (protected records node id o m)
passed o records node id m s lt is = ap is_ok (is ∙ calls.roomy (Beyond many_records) records s lt)

pub no_keeper : (e : CheckFault SendFault) → of_check e ≡ faults.Keeper → ⊥
no_keeper (checking.Refused e) is = cc
no_keeper checking.NoMemory is = cc
