-- What a call of the handshake answers, and what is held and waits after it.
use Rattle.std.specs.Prelude.{◌≡◌, ◌⊎◌, ◌≤◌, ◌<◌, ℕ, true, false, List, [], ◌∷◌, ◌++◌, length, Option, Result, Ok, Err, IsTrue}
use Rattle.spec_documents.specs.Tree.{Tree}
use Rattle.spec_documents.specs.Chain.{◌>>=◌}
use Rattle.spec_documents.specs.Gives.{Tells}
use Rattle.spec_records.specs.Records.{Record, Offered, Closed, record_limit}
use Rattle.spec_records.specs.RecordDocument.{is_well_named}
use Rattle.spec_exchange.specs.Outside.{Choice, Cause, Outcome}
use Rattle.spec_handshake.specs.Documents.{Document, document_tree}
use Rattle.spec_handshake.specs.Refusals.{Refusal}
use Rattle.spec_handshake.specs.Calls.{Closing, room_for_record}
use Rattle.n32_outside.specs.Contents.{Stays, Gains}
use Rattle.context_records.specs.Reading.{ReadsRecord, written}
use Rattle.context_records.specs.View.{record_view}
use Rattle.context_store.specs.Stores.{Stored}
use Rattle.context_store.specs.declared.call_faults.CheckFault.{CheckFault}
use Rattle.context_store.specs.declared.call_faults.CallFault.{CallFault}
use Rattle.context_store.specs.declared.call_faults.CallFault.TheVariants as faults
use Rattle.context_store.specs.Changes.{Nothing, CallBy}
use Rattle.n32c_handshake.specs.declared.refusal.HandRefusal.{HandRefusal}
use Rattle.n32c_handshake.specs.declared.refusal.HandRefusal.TheVariants as refusals
use Rattle.n32c_handshake.specs.declared.starting.Prepared.{Prepared}
use Rattle.n32c_handshake.specs.Faults.{told, told_cause}

-- ---- any call

-- the result is what the definition gives, as far as a caller sees it, and a refusal the one that is wanted
abbrev pub Answers : {X T : Type 0} → (X → T → Type 0) → Result X (CallFault HandRefusal) → Result T (Cause Refusal) → Type 0
Answers {X} {T} Is (Ok x) wanted = (t : T) × (wanted ≡ Ok t) × Is x t
Answers Is (Err e) wanted = Tells (told_cause e) wanted

-- the call is made over the records of the store, once it is read, under some choice of the keeper. After want of memory nothing has changed
abbrev pub Comes : {X T : Type 0} → (X → T → Type 0) → (Choice → List Record → Outcome Refusal T) → (held now : Option (List (List ℕ))) (old new : Stored) → Result X (CallFault HandRefusal) → Type 0
Comes Is outcome held now old new (Err faults.NoMemory) = Nothing held now old new
Comes Is outcome held now old new result = CallBy outcome (Answers Is result) held now old new

-- ---- what the callers see

abbrev pub IsDocument : Tree → Document → Type 0
IsDocument t d = t ≡ document_tree d

abbrev pub IsClosing : Tree → Closing → Type 0
IsClosing t c = t ≡ document_tree c.document

-- ---- the put

-- the record is held, and the store has it
pub record IsKept (held now : Option (List (List ℕ))) (old new : Stored) (r : Record) : Type 0 where
  pub room : length old.records < record_limit
  pub gains : Gains held now (written r)
  pub reads : ReadsRecord (written r) r
  pub more : new.records ≡ old.records ++ r ∷ []
  pub fresh : new.fresh ≡ true

-- the keeper failed, and may hold the record
pub record IsUntold (held now : Option (List (List ℕ))) (old new : Stored) (r : Record) : Type 0 where
  pub room : length old.records < record_limit
  pub either : Stays held now ⊎ Gains held now (written r)
  pub reads : ReadsRecord (written r) r
  pub stale : new.fresh ≡ false

-- nothing is put
pub record IsUnput (held now : Option (List (List ℕ))) (old new : Stored) : Type 0 where
  pub told : Stays held now
  pub same : new ≡ old

abbrev pub Keeps : (held now : Option (List (List ℕ))) (old new : Stored) → Record → Result (Unit {0}) (CallFault HandRefusal) → Type 0
Keeps held now old new r (Ok u) = IsKept held now old new r
Keeps held now old new r (Err faults.Keeper) = IsUntold held now old new r
Keeps held now old new r (Err (faults.Refused refusals.Limit)) = (record_limit ≤ length old.records) × IsUnput held now old new
Keeps held now old new r (Err faults.NoMemory) = IsUnput held now old new
Keeps held now old new r (Err _) = ⊥

-- ---- the checks

-- what passes, where there is room for one more record
abbrev pub if_room : {T : Type 0} → List Record → T → Result T Refusal
if_room records x = room_for_record records >>= λ u. Ok x

-- what passes the checks but for the limit on records, or the first that refuses
abbrev pub ChecksOut : {X T : Type 0} → (X → T → Type 0) → List Record → Result T Refusal → Result X (CheckFault HandRefusal) → Type 0
ChecksOut {X} {T} Is records checks (Ok x) = (t : T) × (checks ≡ if_room records t) × Is x t
ChecksOut Is records checks (Err e) = Tells (told e) checks

-- the document that begins a handshake, and the record of its offer
pub record IsBegun (node : List ℕ) (id : ℕ) (p : Prepared) (d : Document) : Type 0 where
  pub document : p.document ≡ document_tree d
  pub item : record_view p.item ≡ Offered node id
  pub named : IsTrue (is_well_named (record_view p.item))

-- the document that ends a context, and its record
pub record IsClosed (node : List ℕ) (p : Prepared) (c : Closing) : Type 0 where
  pub document : p.document ≡ document_tree c.document
  pub item : record_view p.item ≡ Closed node c.id
  pub named : IsTrue (is_well_named (record_view p.item))
