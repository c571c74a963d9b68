-- What accepting comes to, from what reading the store, the checks and the put come to.
use Rattle.std.proofs.Common.{◌≡◌, ◌⊎◌, ℕ, ◌<◌, List, [], ◌∷◌, ◌++◌, length, Bool, true, false, Option, Result, Ok, Err, refl, subst, ◌∙◌}
use Rattle.std.specs.Prelude.{IsOk}
use Rattle.spec_documents.specs.Tree.{Tree}
use Rattle.spec_documents.specs.Gives.{Tells}
use Rattle.spec_records.specs.Records.{Record, record_limit}
use Rattle.n32_outside.specs.Contents.{Stays, Gains}
use Rattle.context_records.specs.Reading.{ReadsRecord, written}
use Rattle.context_store.specs.Stores.{Stored, NamesBad}
use Rattle.context_store.specs.declared.faults.OpenFault.{OpenFault}
use Rattle.context_store.specs.declared.faults.OpenFault.TheVariants as opening
use Rattle.context_store.specs.declared.call_faults.CheckFault.{CheckFault}
use Rattle.context_store.specs.declared.call_faults.CheckFault.TheVariants as checking
use Rattle.context_store.specs.declared.call_faults.CallFault.{CallFault}
use Rattle.context_store.specs.declared.call_faults.CallFault.TheVariants as answer
use Rattle.context_store.specs.CallFaults.{of_check, of_opening}
use Rattle.context_store.specs.Changes.{PutBy, with_room}
use Rattle.context_store.proofs.Calls.{IsRead, recorded, untold, bad_record, unread, refused, put}
use Rattle.spec_exchange.specs.Outside.{Read, ReadFails, BadRecord, Reading, Putting, Kept, Lost, KeptUntold, Own, Outside, Keeper, puts, behind_reading, or_refusal}
use Rattle.spec_exchange.specs.ReceivingRefusals.{NoRoom}
use Rattle.spec_exchange.specs.AcceptRefusals.{Receiving}
use Rattle.spec_exchange.specs.EntryChecks.{Verifying}
use Rattle.spec_exchange.specs.Screens.{Passes}
use Rattle.spec_exchange.specs.Stages.{Delivery}
use Rattle.spec_exchange.specs.Accepting.{first_failed}
use Rattle.spec_exchange.specs.Calls.{delivered_record}
use Rattle.entry_checks.specs.Views as entries
use Rattle.entry_checks.specs.declared.refused.RefusedEntry.{RefusedEntry}
use Rattle.receiving_sepp.specs.Views.{refused_view}
use Rattle.receiving_sepp.specs.declared.refused.Refused.TheVariants.{Entry}
use Rattle.receiving_sepp.specs.Refusing.{told}
use Rattle.receiving_sepp.specs.Outcome.{Answers, Shows, Accepts, Delivers}
use Rattle.receiving_sepp.specs.declared.delivery.Delivered.{Delivered}
use Rattle.receiving_sepp.specs.declared.refused.Refused.{Refused}

-- ---- the put

pub recorded_delivers : (held now : Option (List (List ℕ))) (old new : Stored) (d : Delivery) (x : Delivered) (r : Record)
    → r ≡ delivered_record d → Shows x d → length old.records < record_limit → Gains held now (written r) → ReadsRecord (written r) r → new.records ≡ old.records ++ r ∷ [] → new.fresh ≡ true → PutBy (Receiving NoRoom) delivered_record (Answers (Ok x)) held now old new d
recorded_delivers held now old new d x r is shows lt gains reads more fresh =
    recorded (Receiving NoRoom) delivered_record (Answers (Ok x)) held now old new d (d, refl, shows) lt (subst (λ r. Gains held now (written r)) is gains) (subst (λ r. ReadsRecord (written r) r) is reads) (subst (λ r. new.records ≡ old.records ++ r ∷ []) is more) fresh

pub untold_delivers : (held now : Option (List (List ℕ))) (old new : Stored) (d : Delivery) (r : Record)
    → r ≡ delivered_record d → length old.records < record_limit → new.fresh ≡ false → Stays held now ⊎ Gains held now (written r) → ReadsRecord (written r) r → PutBy (Receiving NoRoom) delivered_record (Answers (Err answer.Keeper)) held now old new d
untold_delivers held now old new d r is lt stale either reads =
    untold (Receiving NoRoom) delivered_record (Answers (Err answer.Keeper)) held now old new d refl lt stale (subst (λ r. Stays held now ⊎ Gains held now (written r)) is either) (subst (λ r. ReadsRecord (written r) r) is reads)

-- ---- the call

pub stale_of : (b : Bool) → (b ≡ true → ⊥) → b ≡ false
stale_of true h = absurd (h refl)
stale_of false h = refl

-- the store isn't read
pub unread_accepts : (passes : Passes) (v : Verifying) (held now : Option (List (List ℕ))) (old new : Stored) (node : List ℕ) (t : Tree) (fault : OpenFault) → Stays held now → old.fresh ≡ false → new.fresh ≡ false → NamesBad held fault → Accepts passes v held now old new node t (Err (of_opening fault))
unread_accepts passes v held now old new node t (opening.Journal number) stays before after first = bad_record (λ records. first_failed passes v records node t) delivered_record (Answers (Err (answer.Journal number))) held now old new number refl stays before after first
unread_accepts passes v held now old new node t opening.Keeper stays before after first = unread (λ records. first_failed passes v records node t) delivered_record (Answers (Err answer.Keeper)) held now old new refl stays before after
unread_accepts passes v held now old new node t opening.NoMemory stays before after first = record { told = stays; kept = λ f. cc }

-- a check refuses over the records that were read
pub refused_accepts : (passes : Passes) (v : Verifying) (held now : Option (List (List ℕ))) (old new : Stored) (node : List ℕ) (t : Tree) → IsRead held now old new → (e : CheckFault Refused) → Tells (told e) (first_failed passes v new.records node t) → Accepts passes v held now old new node t (Err (of_check e))
refused_accepts passes v held now old new node t is_read (checking.Refused e) h = refused (λ records. first_failed passes v records node t) delivered_record (Answers (Err (answer.Refused e))) held now old new (refused_view e) refl is_read h
refused_accepts passes v held now old new node t is_read checking.NoMemory h = record { told = is_read.told; kept = is_read.same }

-- the record is put over the records that were read
pub put_accepts : (passes : Passes) (v : Verifying) (held mid now : Option (List (List ℕ))) (old read new : Stored) (node : List ℕ) (t : Tree) (d : Delivery) (result : Result Delivered (CallFault Refused))
    → Delivers mid now read new d result → IsRead held mid old read → first_failed passes v read.records node t ≡ with_room (Receiving NoRoom) read.records d → Accepts passes v held now old new node t result
put_accepts passes v held mid now old read new node t d (Err answer.NoMemory) h is_read is = record { told = h.told ∙ is_read.told; kept = λ f. h.kept is_read.fresh ∙ is_read.same f }
put_accepts passes v held mid now old read new node t d result h is_read is = put (Receiving NoRoom) (λ records. first_failed passes v records node t) delivered_record (Answers result) held mid now old read new d h is_read is

-- ---- what an answer tells of the checks

own_refused : {X R : Type 0} (reading : Reading) (r : Result X R) (p : Putting) (item : X → Record) (e : R) → (behind_reading reading (or_refusal r (λ x. puts p (item x) x))).result ≡ Err (Own e) → r ≡ Err e
own_refused Read (Ok x) Kept item e is = cc
own_refused Read (Ok x) Lost item e is = cc
own_refused Read (Ok x) KeptUntold item e is = cc
own_refused Read (Err d) p item e is = cc
own_refused ReadFails r p item e is = cc
own_refused (BadRecord k) r p item e is = cc

put_failed : {X R : Type 0} (reading : Reading) (r : Result X R) (p : Putting) (item : X → Record) → reading ≡ Read → (behind_reading reading (or_refusal r (λ x. puts p (item x) x))).result ≡ Err (Outside Keeper) → IsOk r
put_failed Read (Ok x) p item read is = refl
put_failed Read (Err d) p item read is = cc
put_failed ReadFails r p item read is = cc
put_failed (BadRecord k) r p item read is = cc

-- an entry is refused by the checks, over some records
pub entry_refused : (passes : Passes) (v : Verifying) (held now : Option (List (List ℕ))) (old new : Stored) (node : List ℕ) (t : Tree) (e : RefusedEntry) → Accepts passes v held now old new node t (Err (answer.Refused (Entry e)))
    → (records : List Record) × (first_failed passes v records node t ≡ Err (entries.refused_view e))
entry_refused passes v held now old new node t e h = (h.records, own_refused h.choice.reading (first_failed passes v h.records node t) h.choice.putting delivered_record (entries.refused_view e) h.comes.answer)

-- where the keeper of a fresh store failed every check holds
pub all_hold : (passes : Passes) (v : Verifying) (held now : Option (List (List ℕ))) (old new : Stored) (node : List ℕ) (t : Tree) → Accepts passes v held now old new node t (Err answer.Keeper) → old.fresh ≡ true → IsOk (first_failed passes v old.records node t)
all_hold passes v held now old new node t h f =
    let same = h.chosen.fresh f in
    subst (λ records. IsOk (first_failed passes v records node t)) same.1 (put_failed h.choice.reading (first_failed passes v h.records node t) h.choice.putting delivered_record same.0 h.comes.answer)

-- no check answers that the keeper failed
pub other_than_keeper : (e : CheckFault Refused) → of_check e ≡ answer.Keeper → ⊥
other_than_keeper (checking.Refused e) is = cc
other_than_keeper checking.NoMemory is = cc
