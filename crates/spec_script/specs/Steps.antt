-- What the events of a script come to, in a state and under the choices of the outside (this project's own).
use Rattle.std.specs.Prelude.{ℕ, zero, suc, ◌+◌, ℤ, pos, negsuc, Bool, not, ◌||◌, is_some, nat_le, List, [], ◌∷◌, ◌++◌, length, Option, Some, None, option_map, Result, Ok, Err, if◌then◌else◌, bytes_eq, slice_get, codes}
use Rattle.spec_documents.specs.Tree.{Tree}
use Rattle.spec_documents.specs.Compact.{compact_text}
use Rattle.spec_messages.specs.Message.{Message, Kind, of_request, of_response, kind_of, wanted}
use Rattle.spec_messages.specs.Policy.{Policy}
use Rattle.spec_messages.specs.PolicyDocument.{policy_of}
use Rattle.spec_records.specs.Records.{KeySet, Context, Record, Opened, Keyed, record_limit, keys_fit, used, open_context, keys}
use Rattle.spec_exchange.specs.Chain.{◌>>=◌, unless, or_refused}
use Rattle.spec_messages.specs.Limits.{full_wire, many_records}
use Rattle.spec_exchange.specs.AcceptRefusals as accepting
use Rattle.spec_exchange.specs.SendingRefusals as sending
use Rattle.spec_exchange.specs.Outside.{Choice, Cause, Keeper, Journal, Reading, Read, ReadFails, BadRecord, Putting, Kept, Lost, KeptUntold, Outcome, with_put}
use Rattle.spec_exchange.specs.Stages.{Delivery}
use Rattle.spec_exchange.specs.Calls.{Sealed, Outgoing, Asks, Replies, sends, accepted}
use Rattle.spec_exchange.specs.Screens.{Passes}
use Rattle.spec_handshake.specs.Documents.{Document, document_tree}
use Rattle.spec_handshake.specs.Refusals as handshake
use Rattle.spec_handshake.specs.Starts.{Offer, Start, without_node}
use Rattle.spec_handshake.specs.Calls as calls
use Rattle.spec_handshake.specs.Runs.{reply_document, next_document}
use Rattle.spec_script.specs.Refusals.{Refusal, BadEvent, NodeUnknown, NodeExists, WireUnknown, Beyond, KeysTwice, ContextNotFound, BadPolicy, ContextUsed, BadForm, BadReport, OfSending, OfReceiving, OfOutside, OfHandshake, SignerFailed, of_cause}
use Rattle.spec_script.specs.Messages.{message_in}
use Rattle.spec_script.specs.Events.{HandedContext, Event, AddNode, AddContext, AddKeys, Send, Pass, Inject, Alter, Deliver, Restart, Reported, StartWith, AnswerTo, FinishBy, Terminate, EndBy, line_event}
use Rattle.spec_script.specs.Offers.{offer_of}
use Rattle.spec_script.specs.Choices.{Signing, Signs, SignerFails, Choices, of_accepting}
use Rattle.spec_script.specs.Altering.{altered}
use Rattle.spec_script.specs.Reports.{report_on}
use Rattle.spec_sealing.specs.Passing.{with_room, passed}
use Rattle.spec_reports.specs.Report.{Report}
use Rattle.spec_reports.specs.Document.{report_in}

-- a node, and the PLMN id of its network
pub record Site : Type 0 where
  pub node : List ℕ
  pub plmn : List ℕ

-- the nodes, the documents on the wire, the records that are held, and the starts of handshakes that wait
pub record State : Type 0 where
  pub sites : List Site
  pub wire : List Tree
  pub records : List Record
  pub starts : List Start

pub data Answer : Type 0 where
  -- the event of that name is done
  Fine : (name : List ℕ) → Answer
  -- the document has this number on the wire
  OnWire : (number : ℕ) → Answer
  -- the sealed document, which has this number on the wire
  Sends : (sealed : Sealed) (number : ℕ) → Answer
  -- what became of a document, which has this number on the wire
  Forwards : (document : Tree) (number : ℕ) → Answer
  Delivers : (delivery : Delivery) → Answer
  -- what a report says
  Reports : (report : Report) → Answer
  -- the document with which a context of that id opens, and its number on the wire; and the id of a context that opens by itself
  Opens : (document : Tree) (number : ℕ) (id : ℕ) → Answer
  OpensAs : (id : ℕ) → Answer
  -- a handshake ends by the choice of TLS
  EndsTls : Answer
  Refuses : (refusal : Refusal) → Answer

-- the answer, the record that is held more, the document that goes last on the wire, the nodes, and the starts that wait
pub record Step : Type 0 where
  pub answer : Answer
  pub put : Option Record
  pub sent : Option Tree
  pub sites : List Site
  pub starts : List Start

abbrev pub with_sent : List Tree → Option Tree → List Tree
with_sent wire None = wire
with_sent wire (Some t) = wire ++ t ∷ []

abbrev pub after : State → Step → State
after s r = record { sites = r.sites; wire = with_sent s.wire r.sent; records = with_put s.records r.put; starts = r.starts }

-- ---- steps

abbrev pub refuses : State → Refusal → Step
refuses s e = record { answer = Refuses e; put = None; sent = None; sites = s.sites; starts = s.starts }

abbrev pub or_refuses : State → Result Step Refusal → Step
or_refuses s (Ok r) = r
or_refuses s (Err e) = refuses s e

-- the wire counts from 1
abbrev pub next_number : State → ℕ
next_number s = length s.wire + 1

abbrev pub injects : State → Tree → Step
injects s t = record { answer = OnWire (next_number s); put = None; sent = Some t; sites = s.sites; starts = s.starts }

abbrev pub forwards : State → Tree → Step
forwards s t = record { answer = Forwards t (next_number s); put = None; sent = Some t; sites = s.sites; starts = s.starts }

abbrev pub reports : State → Report → Step
reports s r = record { answer = Reports r; put = None; sent = None; sites = s.sites; starts = s.starts }

abbrev pub adds_node : State → (node plmn : List ℕ) → Step
adds_node s node plmn = record { answer = Fine (codes "node"); put = None; sent = None; sites = s.sites ++ record { node = node; plmn = plmn } ∷ []; starts = s.starts }

-- the event of that name is done once its record is put. A put that fails may have kept the record
abbrev pub puts : State → Putting → List ℕ → Record → Step
puts s Kept name r = record { answer = Fine name; put = Some r; sent = None; sites = s.sites; starts = s.starts }
puts s Lost name r = refuses s (OfOutside Keeper)
puts s KeptUntold name r = record { answer = Refuses (OfOutside Keeper); put = Some r; sent = None; sites = s.sites; starts = s.starts }

abbrev pub sealed_answer : ℕ → Result Sealed (Cause sending.Refusal) → Answer
sealed_answer number (Ok x) = Sends x number
sealed_answer number (Err e) = Refuses (of_cause OfSending e)

abbrev pub sealed_sent : Result Sealed (Cause sending.Refusal) → Option Tree
sealed_sent (Ok x) = Some x.document
sealed_sent (Err e) = None

abbrev pub sends_sealed : State → Outcome sending.Refusal Sealed → Step
sends_sealed s o = record { answer = sealed_answer (next_number s) o.result; put = o.put; sent = sealed_sent o.result; sites = s.sites; starts = s.starts }

-- a refusal of the document t is told with its report
abbrev pub delivery_answer : Tree → Result Delivery (Cause accepting.Refusal) → Answer
delivery_answer t (Ok d) = Delivers d
delivery_answer t (Err e) = Refuses (of_cause (λ r. OfReceiving r (report_on t r)) e)

abbrev pub delivers : State → Tree → Outcome accepting.Refusal Delivery → Step
delivers s t o = record { answer = delivery_answer t o.result; put = o.put; sent = None; sites = s.sites; starts = s.starts }

-- the node's starts are dropped
abbrev pub restarts : State → List ℕ → Step
restarts s node = record { answer = Fine (codes "restart"); put = None; sent = None; sites = s.sites; starts = without_node node s.starts }

-- ---- what a call of the handshake comes to

abbrev pub call_answer : {T : Type 0} → (T → Answer) → Result T (Cause handshake.Refusal) → Answer
call_answer told (Ok x) = told x
call_answer told (Err e) = Refuses (of_cause OfHandshake e)

abbrev pub call_sent : {T : Type 0} → (T → Option Document) → Result T (Cause handshake.Refusal) → Option Tree
call_sent made (Ok x) = option_map document_tree (made x)
call_sent made (Err e) = None

-- with what it answers, the document that it makes, and the starts that wait then
abbrev pub shakes : {T : Type 0} → State → (T → Answer) → (T → Option Document) → List Start → Outcome handshake.Refusal T → Step
shakes s told made starts o = record { answer = call_answer told o.result; put = o.put; sent = call_sent made o.result; sites = s.sites; starts = starts }

abbrev pub replied_answer : ℕ → calls.Replied → Answer
replied_answer number (calls.Chose d) = Forwards (document_tree d) number
replied_answer number (calls.OpenedBy d x) = Opens (document_tree d) number x.id

abbrev pub finished_answer : ℕ → calls.Finished → Answer
finished_answer number (calls.Next d) = Forwards (document_tree d) number
finished_answer number (calls.OpenedAs x) = OpensAs x.id
finished_answer number calls.EndedTls = EndsTls

abbrev pub starts_with : State → Choice → (node peer : List ℕ) → Offer → Step
starts_with s f node peer offer =
    let o = calls.start f s.records node offer in
    shakes s (λ d. Forwards (document_tree d) (next_number s)) Some (calls.after_start s.starts node peer offer o.result) o

abbrev pub answers_to : State → Choice → (node plmn : List ℕ) → Offer → Tree → Step
answers_to s f node plmn offer t = shakes s (replied_answer (next_number s)) reply_document s.starts (calls.answer f s.records node plmn offer t)

abbrev pub finishes_by : State → Choice → (node plmn : List ℕ) → Tree → Step
finishes_by s f node plmn t =
    let o = calls.finish f s.records s.starts node plmn t in
    shakes s (finished_answer (next_number s)) next_document (calls.after_finish f.reading s.starts node t o.result) o

abbrev pub closes : State → Outcome handshake.Refusal calls.Closing → Step
closes s o = shakes s (λ c. Forwards (document_tree c.document) (next_number s)) (λ c. Some c.document) s.starts o

-- ---- checks

abbrev pub plmn_at : List Site → List ℕ → Option (List ℕ)
plmn_at [] node = None
plmn_at (site ∷ sites) node = if bytes_eq site.node node then Some site.plmn else plmn_at sites node

abbrev pub known_node : State → List ℕ → Result (List ℕ) Refusal
known_node s node = wanted (plmn_at s.sites node) NodeUnknown

abbrev pub new_node : State → List ℕ → Result (Unit {0}) Refusal
new_node s node = unless (is_some (plmn_at s.sites node)) NodeExists

-- the document of a number on the wire
abbrev pub wire_at : List Tree → ℤ → Option Tree
wire_at wire (pos zero) = None
wire_at wire (pos (suc n)) = slice_get wire n
wire_at wire (negsuc n) = None

abbrev pub known_document : State → ℤ → Result Tree Refusal
known_document s number = wanted (wire_at s.wire number) WireUnknown

-- how many bytes the documents on the wire have as compact texts
abbrev pub wire_bytes : List Tree → ℕ
wire_bytes [] = 0
wire_bytes (t ∷ ts) = length (compact_text t) + wire_bytes ts

-- the wire has as much as it may have
abbrev pub is_full : List Tree → Bool
is_full wire = nat_le 134217728 (wire_bytes wire) || nat_le 1000000 (length wire)

abbrev pub room_on_wire : State → Result (Unit {0}) Refusal
room_on_wire s = unless (is_full s.wire) (Beyond full_wire)

-- a response answers a request, and a request none
abbrev pub outgoing_of : Kind → Option ℕ → Result Outgoing Refusal
outgoing_of of_request None = Ok Asks
outgoing_of of_request (Some to) = Err (BadEvent (codes "answers"))
outgoing_of of_response None = Err (BadEvent (codes "answers"))
outgoing_of of_response (Some to) = Ok (Replies to)

-- the message to send, and as what
abbrev pub message_to_send : Tree → Option ℕ → Result (Outgoing × Message) Refusal
message_to_send t answers = do
  m ← message_in t
  o ← outgoing_of (kind_of m) answers
  Ok (o, m)

abbrev pub policy_to_hold : Tree → Result Policy Refusal
policy_to_hold t = or_refused BadPolicy (policy_of t)

-- a stale store is read again
abbrev pub has_read : Reading → Result (Unit {0}) Refusal
has_read Read = Ok tt
has_read ReadFails = Err (OfOutside Keeper)
has_read (BadRecord k) = Err (OfOutside (Journal k))

abbrev pub room_for_record : State → Result (Unit {0}) Refusal
room_for_record s = unless (nat_le record_limit (length s.records)) (Beyond many_records)

-- ---- intermediaries

-- the document t with the entry of an intermediary more. The signer is asked last
abbrev pub passes_on : State → Signing → (ipx : List ℕ) → (operations : Tree) → Tree → Result Step Refusal
passes_on s (Signs g) ipx operations t = or_refused BadForm (passed g.algorithm ipx operations (g.sign ipx) t) >>= λ d. Ok (forwards s d)
passes_on s SignerFails ipx operations t = or_refused BadForm (with_room t) >>= λ parts. Err SignerFailed

-- ---- contexts and keys that are handed in

abbrev pub context_with : HandedContext → Policy → Context
context_with x policy = record { node = x.node; id = x.id; peer_node = x.peer_node; peer = x.peer; plmn = x.plmn; suite = x.suite; policy = policy; own_ipx = x.own_ipx; peer_ipx = x.peer_ipx }

abbrev pub opens : State → Choice → Context → Result Step Refusal
opens s f x = do
  _ ← has_read f.reading
  _ ← unless (used x.node x.id s.records) ContextUsed
  _ ← room_for_record s
  Ok (puts s f.putting (codes "context") (Opened x))

abbrev pub keys_up : State → Choice → (node : List ℕ) → (id : ℕ) → KeySet → Result Step Refusal
keys_up s f node id set = do
  _ ← has_read f.reading
  x ← wanted (open_context node id s.records) ContextNotFound
  _ ← unless (is_some (keys node id s.records)) KeysTwice
  _ ← unless (not (keys_fit x.suite set)) (BadEvent (codes "key"))
  _ ← room_for_record s
  Ok (puts s f.putting (codes "keys") (Keyed node id set))

-- ---- events

-- the step of an event whose checks hold, with a screen that goes by this rule
abbrev pub checked : Passes → State → Choices → Event → Result Step Refusal
checked passes s f (AddNode node plmn) = do
  _ ← new_node s node
  Ok (adds_node s node plmn)
checked passes s f (AddContext x) = do
  _ ← known_node s x.node
  policy ← policy_to_hold x.policy
  opens s f.keeper (context_with x policy)
checked passes s f (AddKeys node id set) = do
  _ ← known_node s node
  keys_up s f.keeper node id set
checked passes s f (Send node id t answers) = do
  _ ← known_node s node
  _ ← room_on_wire s
  m ← message_to_send t answers
  Ok (sends_sealed s (sends f.keeper s.records node id m.0 m.1))
checked passes s f (Pass ipx number operations) = do
  t ← known_document s number
  _ ← room_on_wire s
  passes_on s f.signer ipx operations t
checked passes s f (Inject t) = do
  _ ← room_on_wire s
  Ok (injects s t)
checked passes s f (Alter number ops) = do
  t ← known_document s number
  _ ← room_on_wire s
  u ← altered ops t
  Ok (forwards s u)
checked passes s f (Deliver node number) = do
  _ ← known_node s node
  t ← known_document s number
  Ok (delivers s t (accepted passes (of_accepting f) s.records node t))
checked passes s f (Restart node) = do
  _ ← known_node s node
  Ok (restarts s node)
checked passes s f (Reported node t) = do
  _ ← known_node s node
  r ← or_refused (λ none. BadReport) (report_in t)
  Ok (reports s r)
checked passes s f (StartWith node peer x) = do
  _ ← known_node s node
  _ ← room_on_wire s
  policy ← policy_to_hold x.policy
  Ok (starts_with s f.keeper node peer (offer_of x policy))
checked passes s f (AnswerTo node number x) = do
  plmn ← known_node s node
  t ← known_document s number
  _ ← room_on_wire s
  policy ← policy_to_hold x.policy
  Ok (answers_to s f.keeper node plmn (offer_of x policy) t)
checked passes s f (FinishBy node number) = do
  plmn ← known_node s node
  t ← known_document s number
  _ ← room_on_wire s
  Ok (finishes_by s f.keeper node plmn t)
checked passes s f (Terminate node id) = do
  _ ← known_node s node
  _ ← room_on_wire s
  Ok (closes s (calls.terminate f.keeper s.records node id))
checked passes s f (EndBy node number) = do
  _ ← known_node s node
  t ← known_document s number
  _ ← room_on_wire s
  Ok (closes s (calls.ended f.keeper s.records node t))

abbrev pub step : Passes → State → Choices → Event → Step
step passes s f e = or_refuses s (checked passes s f e)

-- the step of a line, which may be of no event
abbrev pub step_with : Passes → State → Choices → Result Event Refusal → Step
step_with passes s f (Ok e) = step passes s f e
step_with passes s f (Err e) = refuses s e

abbrev pub line_step : Passes → State → Choices → List ℕ → Step
line_step passes s f line = step_with passes s f (line_event line)
