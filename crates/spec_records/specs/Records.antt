-- What a SEPP records of its N32-f contexts (TS 29.573 clause 6.1.5 in outline; the kinds of records are this project's own), and the questions on these records (own).
-- Records are a list, numbered from 0 and the oldest first. A question is about a context, named by a node and an id, and goes over the records of that name alone.
use Rattle.std.specs.Prelude.{ℕ, ◌+◌, ◌^◌, max, Bool, true, false, ◌&&◌, ◌==◌, nat_lt, List, [], ◌∷◌, length, Option, Some, None, if◌then◌else◌, bytes_eq, filter}
use Rattle.std.specs.List.{list_any, position_from}
use Rattle.std.specs.Option.{option_or}
use Rattle.spec_messages.specs.Policy.{Policy}
use Rattle.spec_messages.specs.Message.{Kind, of_request, of_response}
pub use Rattle.spec_sealing.specs.Suites.{Suite, A128Gcm, A256Gcm}

-- ---- records

-- the bytes of a key of the suite
abbrev pub key_length : Suite → ℕ
key_length A128Gcm = 16
key_length A256Gcm = 32

-- a key and the salt in front of each nonce (TS 33.501 clause 13.2.4.4.2 in outline)
pub record OneKey : Type 0 where
  pub key : List ℕ
  pub salt : List ℕ

-- a key for each direction and kind, and the first sequence number
pub record KeySet : Type 0 where
  pub send_request : OneKey
  pub send_response : OneKey
  pub receive_request : OneKey
  pub receive_response : OneKey
  pub first : ℕ

-- a context at a node: the one at the peer, the peer's network, and what both agreed on
pub record Context : Type 0 where
  pub node : List ℕ
  pub id : ℕ
  pub peer_node : List ℕ
  pub peer : ℕ
  pub plmn : List ℕ
  pub suite : Suite
  pub policy : Policy
  pub own_ipx : List (List ℕ)
  pub peer_ipx : List (List ℕ)

pub data Record : Type 0 where
  Offered : (node : List ℕ) (id : ℕ) → Record
  Opened : (context : Context) → Record
  Keyed : (node : List ℕ) (id : ℕ) (keys : KeySet) → Record
  Sent : (node : List ℕ) (id : ℕ) (kind : Kind) (seq : ℕ) (message : ℕ) (mapping : Option ℕ) → Record
  Delivered : (node : List ℕ) (id : ℕ) (kind : Kind) (message : ℕ) (mapping : Option ℕ) → Record
  Closed : (node : List ℕ) (id : ℕ) → Record

-- how many may be held
abbrev pub record_limit : ℕ
record_limit = 1048576

-- ---- the records of one context

abbrev pub node_of : Record → List ℕ
node_of (Offered n i) = n
node_of (Opened x) = x.node
node_of (Keyed n i k) = n
node_of (Sent n i k s m p) = n
node_of (Delivered n i k m p) = n
node_of (Closed n i) = n

abbrev pub context_of : Record → ℕ
context_of (Offered n i) = i
context_of (Opened x) = x.id
context_of (Keyed n i k) = i
context_of (Sent n i k s m p) = i
context_of (Delivered n i k m p) = i
context_of (Closed n i) = i

-- the record names this context
abbrev pub is_of : List ℕ → ℕ → Record → Bool
is_of node id r = bytes_eq (node_of r) node && (context_of r == id)

-- the records of this context, in order
abbrev pub own : List ℕ → ℕ → List Record → List Record
own node id records = filter (is_of node id) records

-- ---- what one record says

abbrev pub same_kind : Kind → Kind → Bool
same_kind of_request of_request = true
same_kind of_response of_response = true
same_kind of_request of_response = false
same_kind of_response of_request = false

-- it takes its id
abbrev pub takes_id : Record → Bool
takes_id (Offered n i) = true
takes_id (Opened x) = true
takes_id _ = false

abbrev pub is_offered : Record → Bool
is_offered (Offered n i) = true
is_offered _ = false

abbrev pub is_closed : Record → Bool
is_closed (Closed n i) = true
is_closed _ = false

abbrev pub opened_context : Record → Option Context
opened_context (Opened x) = Some x
opened_context _ = None

abbrev pub key_fits : Suite → OneKey → Bool
key_fits s k = length k.key == key_length s

abbrev pub keys_fit : Suite → KeySet → Bool
keys_fit s k = key_fits s k.send_request && (key_fits s k.send_response && (key_fits s k.receive_request && key_fits s k.receive_response))

-- keys for the suite
abbrev pub keyed_for : Suite → Record → Option KeySet
keyed_for s (Keyed n i k) = if keys_fit s k then Some k else None
keyed_for s _ = None

-- the number of a sent message of the kind
abbrev pub sent_number : Kind → Record → Option ℕ
sent_number kind (Sent n i k s m p) = if same_kind k kind then Some s else None
sent_number kind _ = None

-- a sent message of the kind with this number
abbrev pub is_numbered : Kind → ℕ → Record → Bool
is_numbered kind seq (Sent n i k s m p) = same_kind k kind && (s == seq)
is_numbered kind seq _ = false

-- the mapping of a sent request with that message id
abbrev pub request_sent : ℕ → Record → Option (Option ℕ)
request_sent message (Sent n i of_request s m p) = if m == message then Some p else None
request_sent message _ = None

-- a sent response with that message id, which is the request's
abbrev pub is_reply_to : ℕ → Record → Bool
is_reply_to message (Sent n i of_response s m p) = m == message
is_reply_to message _ = false

abbrev pub is_delivery : Kind → ℕ → Record → Bool
is_delivery kind message (Delivered n i k m p) = same_kind k kind && (m == message)
is_delivery kind message _ = false

-- the mapping of a delivered request with that message id
abbrev pub request_delivered : ℕ → Record → Option (Option ℕ)
request_delivered message (Delivered n i of_request m p) = if m == message then Some p else None
request_delivered message _ = None

-- ---- what the records of one context say

-- the first answer that there is
abbrev pub first_of : {X Y : Type 0} → (X → Option Y) → List X → Option Y
first_of f [] = None
first_of f (x ∷ xs) = option_or (f x) (first_of f xs)

-- the first keys that stand behind the opening and fit its suite; the opening is given, or is still to come
abbrev pub keys_behind : Option Context → List Record → Option KeySet
keys_behind x [] = None
keys_behind None (r ∷ rs) = keys_behind (opened_context r) rs
keys_behind (Some x) (r ∷ rs) = option_or (keyed_for x.suite r) (keys_behind (Some x) rs)

-- the greater, where there are two
abbrev pub greater : Option ℕ → Option ℕ → Option ℕ
greater None o = o
greater (Some a) None = Some a
greater (Some a) (Some b) = Some (max a b)

-- the greatest sequence number that was sent
abbrev pub greatest_sent : Kind → List Record → Option ℕ
greatest_sent kind [] = None
greatest_sent kind (r ∷ rs) = greater (sent_number kind r) (greatest_sent kind rs)

-- a sequence number, which has 32 bits
abbrev pub seq_at : ℕ → Option ℕ
seq_at n = if nat_lt n (2 ^ 32) then Some n else None

-- the first number, or what follows the greatest that was sent
abbrev pub seq_after : KeySet → Option ℕ → Option ℕ
seq_after k None = seq_at k.first
seq_after k (Some n) = seq_at (n + 1)

abbrev pub seq_with : Option KeySet → Option ℕ → Option ℕ
seq_with None n = None
seq_with (Some k) n = seq_after k n

-- ---- the questions

-- an Offered or an Opened record is there
abbrev pub used : List ℕ → ℕ → List Record → Bool
used node id records = list_any takes_id (own node id records)

abbrev pub offered : List ℕ → ℕ → List Record → Bool
offered node id records = list_any is_offered (own node id records)

-- the first Opened record
abbrev pub opening : List ℕ → ℕ → List Record → Option Context
opening node id records = first_of opened_context (own node id records)

abbrev pub closed : List ℕ → ℕ → List Record → Bool
closed node id records = list_any is_closed (own node id records)

-- the first Opened record, where no Closed one is there
abbrev pub open_context : List ℕ → ℕ → List Record → Option Context
open_context node id records = if closed node id records then None else opening node id records

-- those of the first Keyed record that stands behind the first Opened one and whose key lengths fit its suite
abbrev pub keys : List ℕ → ℕ → List Record → Option KeySet
keys node id records = keys_behind None (own node id records)

-- the mapping kept with the first Sent request of that message id
abbrev pub mapping_sent : List ℕ → ℕ → ℕ → List Record → Option (Option ℕ)
mapping_sent node id message records = first_of (request_sent message) (own node id records)

-- the mapping kept with the first Delivered request of that message id
abbrev pub mapping_delivered : List ℕ → ℕ → ℕ → List Record → Option (Option ℕ)
mapping_delivered node id message records = first_of (request_delivered message) (own node id records)

-- a response of that message id was sent
abbrev pub answered : List ℕ → ℕ → ℕ → List Record → Bool
answered node id message records = list_any (is_reply_to message) (own node id records)

-- such a message was delivered
abbrev pub was_delivered : List ℕ → ℕ → Kind → ℕ → List Record → Bool
was_delivered node id kind message records = list_any (is_delivery kind message) (own node id records)

-- a message of the kind was sent with this number
abbrev pub was_sent : List ℕ → ℕ → Kind → ℕ → List Record → Bool
was_sent node id kind seq records = list_any (is_numbered kind seq) (own node id records)

-- the number, in the whole list, of the first such Delivered record
abbrev pub delivered_at : List ℕ → ℕ → Kind → ℕ → List Record → Option ℕ
delivered_at node id kind message records = position_from (λ r. is_of node id r && is_delivery kind message r) 0 records

-- the next sequence number of the kind, where there is one
abbrev pub next_seq : List ℕ → ℕ → Kind → List Record → Option ℕ
next_seq node id kind records = seq_with (keys node id records) (greatest_sent kind (own node id records))
