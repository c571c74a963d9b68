-- What a reply comes to.
use Rattle.std.specs.Prelude.{◌≡◌, ⊤, List, Result, Ok, Err, IsTrue}
use Rattle.spec_documents.specs.Gives.{Tells}
use Rattle.spec_records.specs.Records.{Record}
use Rattle.spec_records.specs.Records as records
use Rattle.spec_records.specs.RecordDocument.{is_well_named}
use Rattle.context_records.specs.View.{context_view}
use Rattle.context_store.specs.declared.call_faults.CheckFault.{CheckFault}
use Rattle.spec_handshake.specs.Documents.{Document, document_tree}
use Rattle.spec_handshake.specs.Refusals.{Refusal}
use Rattle.spec_handshake.specs.Calls as spec
use Rattle.n32c_handshake.specs.declared.replying.Replied.{Replied}
use Rattle.n32c_handshake.specs.declared.replying.Replied.TheVariants.{Selected, Opened}
use Rattle.n32c_handshake.specs.declared.replying.Reply.{Reply}
use Rattle.n32c_handshake.specs.declared.replying.Reply.TheVariants.{Chose, Opens}
use Rattle.n32c_handshake.specs.declared.refusal.HandRefusal.{HandRefusal}
use Rattle.n32c_handshake.specs.Faults.{told}
use Rattle.n32c_handshake.specs.Outcome.{if_room}

-- what a caller sees of a reply
abbrev pub IsReplied : Replied → spec.Replied → Type 0
IsReplied (Selected t) (spec.Chose d) = t ≡ document_tree d
IsReplied (Selected t) (spec.OpenedBy d x) = ⊥
IsReplied (Opened t id) (spec.Chose d) = ⊥
IsReplied (Opened t id) (spec.OpenedBy d x) = (t ≡ document_tree d) × (id.value ≡ x.id)

-- what passes the checks but for the limit on records, or the first that refuses
abbrev pub RepliesOut : List Record → Result spec.Replied Refusal → Result Reply (CheckFault HandRefusal) → Type 0
RepliesOut records checks (Ok (Chose t)) = (d : Document) × (checks ≡ Ok (spec.Chose d)) × (t ≡ document_tree d)
RepliesOut records checks (Ok (Opens t x)) = (d : Document) × (checks ≡ if_room records (spec.OpenedBy d (context_view x))) × (t ≡ document_tree d)
RepliesOut records checks (Err e) = Tells (told e) checks

-- the names in the record of a context that opens are in their grammar
abbrev pub HasNames : Reply → Type 0
HasNames (Chose t) = ⊤
HasNames (Opens t x) = IsTrue (is_well_named (records.Opened (context_view x)))
