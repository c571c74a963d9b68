-- The five calls of the handshake, over the records that are held, the starts that wait and the choices of the keeper (after TS 29.573 clauses 5.2.2 to 5.2.4; the preference of PRINS, the order of checks and the ids of termination are this project's own).
use Rattle.std.specs.Prelude.{ℕ, Bool, true, false, not, ◌&&◌, nat_le, List, [], ◌∷◌, ◌++◌, length, find, Option, None, Result, Ok, Err, if◌then◌else◌}
use Rattle.std.specs.List.{list_any}
use Rattle.spec_documents.specs.Tree.{Tree}
use Rattle.spec_documents.specs.Chain.{◌>>=◌, unless, none_of, or_refused}
use Rattle.spec_messages.specs.Message.{wanted}
use Rattle.spec_messages.specs.Limits.{many_records}
use Rattle.spec_records.specs.Records.{Suite, A128Gcm, A256Gcm, Context, Record, Offered, Opened, Closed, record_limit, used, open_context}
use Rattle.spec_exchange.specs.Outside.{Choice, Reading, Read, ReadFails, BadRecord, Putting, Cause, Own, Outside, Outcome, puts, behind_reading, or_refusal}
use Rattle.spec_handshake.specs.Documents.{Capability, Prins, Tls, Ask, Selection, Document, Supports, Chooses, Asks, Selects, Terminates, Terminated, document_of}
use Rattle.spec_handshake.specs.Differences.{difference}
use Rattle.spec_handshake.specs.Refusals.{Refusal, BadForm, NotExpected, NoCommonCapability, NoCommonSuite, PolicyDiffers, ContextUsed, ContextNotFound, Beyond, ends_start}
use Rattle.spec_handshake.specs.Starts.{Offer, Start, ForChoice, ForSelection, new_start, waits, first_goes_on, without_first}

-- ---- what is chosen

abbrev pub same_capability : Capability → Capability → Bool
same_capability Prins Prins = true
same_capability Tls Tls = true
same_capability Prins Tls = false
same_capability Tls Prins = false

abbrev pub has_capability : List Capability → Capability → Bool
has_capability cs c = list_any (same_capability c) cs

-- PRINS where both have it, else TLS where both do
abbrev pub chosen : (theirs ours : List Capability) → Option Capability
chosen theirs ours = find (λ c. has_capability theirs c && has_capability ours c) (Prins ∷ Tls ∷ [])

abbrev pub same_suite : Suite → Suite → Bool
same_suite A128Gcm A128Gcm = true
same_suite A256Gcm A256Gcm = true
same_suite A128Gcm A256Gcm = false
same_suite A256Gcm A128Gcm = false

abbrev pub has_suite : List Suite → Suite → Bool
has_suite suites s = list_any (same_suite s) suites

-- the first suite of the request that the offer has
abbrev pub common_suite : (asked offered : List Suite) → Option Suite
common_suite asked offered = find (has_suite offered) asked

-- ---- checks that calls share

abbrev pub read_document : Tree → Result Document Refusal
read_document t = or_refused BadForm (document_of t)

abbrev pub room_for_record : List Record → Result (Unit {0}) Refusal
room_for_record records = unless (nat_le record_limit (length records)) (Beyond many_records)

-- ---- start: the initiator's first document

abbrev pub begins : List Record → (node : List ℕ) → Offer → Result Document Refusal
begins records node offer = do
  _ ← unless (used node offer.id records) ContextUsed
  _ ← room_for_record records
  Ok (Supports offer.id node offer.capabilities)

abbrev pub start : Choice → List Record → (node : List ℕ) → Offer → Outcome Refusal Document
start f records node offer = behind_reading f.reading (or_refusal (begins records node offer) (λ d. puts f.putting (Offered node offer.id) d))

-- a start waits, the last of all, once its record is put
abbrev pub after_start : List Start → (node peer : List ℕ) → Offer → Result Document (Cause Refusal) → List Start
after_start starts node peer offer (Ok d) = starts ++ new_start node peer offer ∷ []
after_start starts node peer offer (Err e) = starts

-- ---- answer: the responder's reply

pub data Replied : Type 0 where
  -- the document that chooses a capability
  Chose : (document : Document) → Replied
  -- the document that selects parameters, and the context that opens with them
  OpenedBy : (document : Document) (context : Context) → Replied

abbrev pub selection_of : (node plmn : List ℕ) → Offer → Ask → Suite → Selection
selection_of node plmn offer a suite = record { call = a.call; sender = node; id = offer.id; plmn = plmn; suite = suite; policy = offer.policy; ipx = offer.ipx }

-- the context at the node that replies
abbrev pub context_replying : (node : List ℕ) → Offer → Ask → Suite → Context
context_replying node offer a suite = record { node = node; id = offer.id; peer_node = a.sender; peer = a.id; plmn = a.plmn; suite = suite; policy = offer.policy; own_ipx = offer.ipx; peer_ipx = a.ipx }

abbrev pub replies_to : List Record → (node plmn : List ℕ) → Offer → Document → Result Replied Refusal
replies_to records node plmn offer (Supports call sender capabilities) = do
  c ← wanted (chosen capabilities offer.capabilities) NoCommonCapability
  Ok (Chose (Chooses call node c))
replies_to records node plmn offer (Asks a) = do
  suite ← wanted (common_suite a.suites offer.suites) NoCommonSuite
  _ ← none_of PolicyDiffers (difference offer.policy a.policy)
  _ ← unless (used node offer.id records) ContextUsed
  _ ← room_for_record records
  Ok (OpenedBy (Selects (selection_of node plmn offer a suite)) (context_replying node offer a suite))
replies_to records node plmn offer _ = Err NotExpected

abbrev pub replies : List Record → (node plmn : List ℕ) → Offer → Tree → Result Replied Refusal
replies records node plmn offer t = do
  d ← read_document t
  replies_to records node plmn offer d

-- the choice of a capability puts no record
abbrev pub put_reply : Putting → Replied → Outcome Refusal Replied
put_reply p (Chose d) = record { result = Ok (Chose d); put = None }
put_reply p (OpenedBy d x) = puts p (Opened x) (OpenedBy d x)

abbrev pub answer : Choice → List Record → (node plmn : List ℕ) → Offer → Tree → Outcome Refusal Replied
answer f records node plmn offer t = behind_reading f.reading (or_refusal (replies records node plmn offer t) (put_reply f.putting))

-- ---- finish: what the initiator makes of a reply

pub data Finished : Type 0 where
  -- the document that asks for parameters
  Next : (document : Document) → Finished
  OpenedAs : (context : Context) → Finished
  EndedTls : Finished

abbrev pub ask_of : (node plmn : List ℕ) → Offer → Ask
ask_of node plmn offer = record { call = offer.id; sender = node; id = offer.id; plmn = plmn; suites = offer.suites; policy = offer.policy; ipx = offer.ipx }

-- the context at the node that began
abbrev pub context_finishing : (node : List ℕ) → Offer → Selection → Context
context_finishing node offer b = record { node = node; id = offer.id; peer_node = b.sender; peer = b.id; plmn = b.plmn; suite = b.suite; policy = offer.policy; own_ipx = offer.ipx; peer_ipx = b.ipx }

-- the start waits for this document at the node
abbrev pub waits_for : (node : List ℕ) → Document → Start → Bool
waits_for node (Chooses call sender c) = waits node call sender ForChoice
waits_for node (Selects b) = waits node b.call b.sender ForSelection
waits_for node _ = λ s. false

-- the first start of the list that waits for it
abbrev pub awaited : List Start → (node : List ℕ) → Document → Result Start Refusal
awaited starts node d = wanted (find (waits_for node d) starts) NotExpected

abbrev pub after_choice : (node plmn : List ℕ) → Offer → Capability → Finished
after_choice node plmn offer Prins = Next (Asks (ask_of node plmn offer))
after_choice node plmn offer Tls = EndedTls

abbrev pub finishes_with : List Record → List Start → (node plmn : List ℕ) → Document → Result Finished Refusal
finishes_with records starts node plmn (Chooses call sender c) = do
  s ← awaited starts node (Chooses call sender c)
  _ ← unless (not (has_capability s.offer.capabilities c)) NoCommonCapability
  Ok (after_choice node plmn s.offer c)
finishes_with records starts node plmn (Selects b) = do
  s ← awaited starts node (Selects b)
  _ ← unless (not (has_suite s.offer.suites b.suite)) NoCommonSuite
  _ ← none_of PolicyDiffers (difference s.offer.policy b.policy)
  _ ← room_for_record records
  Ok (OpenedAs (context_finishing node s.offer b))
finishes_with records starts node plmn _ = Err NotExpected

abbrev pub finishes : List Record → List Start → (node plmn : List ℕ) → Tree → Result Finished Refusal
finishes records starts node plmn t = do
  d ← read_document t
  finishes_with records starts node plmn d

-- only an opening puts a record
abbrev pub put_finished : Putting → Finished → Outcome Refusal Finished
put_finished p (Next d) = record { result = Ok (Next d); put = None }
put_finished p (OpenedAs x) = puts p (Opened x) (OpenedAs x)
put_finished p EndedTls = record { result = Ok EndedTls; put = None }

abbrev pub finish : Choice → List Record → List Start → (node plmn : List ℕ) → Tree → Outcome Refusal Finished
finish f records starts node plmn t = behind_reading f.reading (or_refusal (finishes records starts node plmn t) (put_finished f.putting))

-- the starts that wait after a finish, once the store was read: a fault of the keeper is then one of the put
abbrev pub starts_left : (Start → Bool) → List Start → Result Finished (Cause Refusal) → List Start
starts_left p starts (Ok (Next d)) = first_goes_on p starts
starts_left p starts (Ok (OpenedAs x)) = without_first p starts
starts_left p starts (Ok EndedTls) = without_first p starts
starts_left p starts (Err (Own e)) = if ends_start e then without_first p starts else starts
starts_left p starts (Err (Outside fault)) = without_first p starts

-- where the store could not be read, the starts wait on
abbrev pub if_read : Reading → (before after : List Start) → List Start
if_read Read before after = after
if_read ReadFails before after = before
if_read (BadRecord k) before after = before

-- the start that a document is waited for by, where it is one
abbrev pub waits_for_read : (node : List ℕ) → Result Document (List ℕ) → Start → Bool
waits_for_read node (Ok d) = waits_for node d
waits_for_read node (Err member) = λ s. false

abbrev pub after_finish : Reading → List Start → (node : List ℕ) → Tree → Result Finished (Cause Refusal) → List Start
after_finish reading starts node t r = if_read reading starts (starts_left (waits_for_read node (document_of t)) starts r)

-- ---- terminate, ended: a context ends at both sides

-- the node's own id, and the document for the peer
pub record Closing : Type 0 where
  pub id : ℕ
  pub document : Document

abbrev pub closes : List Record → (node : List ℕ) → (id : ℕ) → (ℕ → Document) → Result Closing Refusal
closes records node id made = do
  x ← wanted (open_context node id records) ContextNotFound
  _ ← room_for_record records
  Ok (record { id = id; document = made x.peer })

abbrev pub put_closing : (node : List ℕ) → Putting → Closing → Outcome Refusal Closing
put_closing node p c = puts p (Closed node c.id) c

abbrev pub terminate : Choice → List Record → (node : List ℕ) → (id : ℕ) → Outcome Refusal Closing
terminate f records node id = behind_reading f.reading (or_refusal (closes records node id Terminates) (put_closing node f.putting))

abbrev pub terminated_id : Document → Result ℕ Refusal
terminated_id (Terminates id) = Ok id
terminated_id _ = Err NotExpected

abbrev pub closes_by : List Record → (node : List ℕ) → Tree → Result Closing Refusal
closes_by records node t = do
  d ← read_document t
  id ← terminated_id d
  closes records node id Terminated

abbrev pub ended : Choice → List Record → (node : List ℕ) → Tree → Outcome Refusal Closing
ended f records node t = behind_reading f.reading (or_refusal (closes_by records node t) (put_closing node f.putting))
