-- The document of a record, and the record that a document is of (this project's own; ids, keys and salts are hexadecimal digits, RFC 4648 section 8).
use Rattle.std.specs.Prelude.{◌≡◌, ℕ, ◌<◌, ◌^◌, pos, List, [], ◌∷◌, length, Bool, ◌&&◌, ◌||◌, ◌==◌, nat_le, nat_lt, Option, Some, None, option_and_then, Result, Ok, Err, IsTrue, if◌then◌else◌, bytes_eq, codes}
use Rattle.std.specs.List.{list_all}
use Rattle.std.specs.Option.{option_or}
use Rattle.hex.specs.Hex.{encode_lower, decode_sized, IsBytes}
use Rattle.spec_documents.specs.Tree.{Tree, null, truth, whole, words, items, members, Members, no_members, items_in, get_member, put_member, object}
use Rattle.spec_documents.specs.Fields.{field_list}
use Rattle.spec_documents.specs.Place.{◌>>=◌}
use Rattle.spec_documents.specs.Hole.{natural}
use Rattle.spec_documents.specs.Ids.{id_of, id_text, is_plmn, plmn_of}
use Rattle.spec_documents.specs.Text.{is_identity, is_node_name}
use Rattle.spec_messages.specs.Message.{Kind, of_request, of_response, wanted, text_at, text_if, any_text, all_read}
use Rattle.spec_messages.specs.Policy.{Policy, result_ok}
use Rattle.spec_messages.specs.PolicyDocument.{chosen, list_of, policy_of, policy_tree, ReadsBack}
use Rattle.spec_records.specs.Records.{Suite, A128Gcm, A256Gcm, OneKey, KeySet, Context, Record, Offered, Opened, Keyed, Sent, Delivered, Closed, node_of}

-- the document is of no record
pub data NoRecord : Type 0 where
  no_record : NoRecord

-- ---- words and numbers

-- the value of `enc` that names a suite (RFC 7518 section 5.1)
abbrev pub suite_text : Suite → List ℕ
suite_text A128Gcm = codes "A128GCM"
suite_text A256Gcm = codes "A256GCM"

abbrev pub suite_of : List ℕ → Option Suite
suite_of s = if bytes_eq s (codes "A128GCM") then Some A128Gcm else (if bytes_eq s (codes "A256GCM") then Some A256Gcm else None)

abbrev pub kind_text : Kind → List ℕ
kind_text of_request = codes "request"
kind_text of_response = codes "response"

abbrev pub kind_named : List ℕ → Option Kind
kind_named s = if bytes_eq s (codes "request") then Some of_request else (if bytes_eq s (codes "response") then Some of_response else None)

-- a whole number of 32 bits
abbrev pub if_number : Option ℕ → Option ℕ
if_number None = None
if_number (Some n) = if nat_lt n (2 ^ 32) then Some n else None

abbrev pub number_of : Tree → Option ℕ
number_of t = if_number (natural t)

abbrev pub number_in : Option Tree → Option ℕ
number_in o = option_and_then number_of o

-- a mapping's number, or null for none
abbrev pub some_mapping : Option ℕ → Option (Option ℕ)
some_mapping None = None
some_mapping (Some n) = Some (Some n)

abbrev pub mapping_of : Tree → Option (Option ℕ)
mapping_of null = Some None
mapping_of (truth b) = None
mapping_of (whole z) = some_mapping (number_of (whole z))
mapping_of (words s) = None
mapping_of (items ts) = None
mapping_of (members ms) = None

abbrev pub mapping_in : Option Tree → Option (Option ℕ)
mapping_in o = option_and_then mapping_of o

abbrev pub mapping_tree : Option ℕ → Tree
mapping_tree None = null
mapping_tree (Some n) = whole (pos n)

abbrev pub policy_in : Option Tree → Option Policy
policy_in o = option_and_then (λ t. result_ok (policy_of t)) o

-- ---- intermediaries: at most one identity

abbrev pub identities : List Tree → Option (List (List ℕ))
identities ts = if nat_le (length ts) 1 then all_read (text_if is_identity) ts else None

abbrev pub ipx_in : Option Tree → Option (List (List ℕ))
ipx_in o = option_and_then identities (items_in o)

-- ---- keys

-- so many bytes, in hexadecimal digits of either case
abbrev pub bytes_of : ℕ → List ℕ → Option (List ℕ)
bytes_of count s = result_ok (decode_sized s count)

-- a key is 16 or 32 bytes, a salt 8
abbrev pub key_of : List ℕ → Option (List ℕ)
key_of s = option_or (bytes_of 16 s) (bytes_of 32 s)

abbrev pub salt_of : List ℕ → Option (List ℕ)
salt_of s = bytes_of 8 s

-- the object of a name; other members are ignored
abbrev pub object_in : Option Tree → Option Members
object_in None = None
object_in (Some null) = None
object_in (Some (truth b)) = None
object_in (Some (whole z)) = None
object_in (Some (words s)) = None
object_in (Some (items ts)) = None
object_in (Some (members ms)) = Some ms

abbrev pub one_key_of : Members → Result OneKey NoRecord
one_key_of ms =
    wanted (chosen key_of (get_member (codes "key") ms)) no_record >>= λ k.
    wanted (chosen salt_of (get_member (codes "salt") ms)) no_record >>= λ s.
    Ok (record { key = k; salt = s })

abbrev pub one_key_in : Option Tree → Result OneKey NoRecord
one_key_in o = wanted (object_in o) no_record >>= one_key_of

-- the keys of a direction, for requests and for responses
abbrev pub key_pair_of : Members → Result (OneKey × OneKey) NoRecord
key_pair_of ms =
    one_key_in (get_member (codes "request") ms) >>= λ q.
    one_key_in (get_member (codes "response") ms) >>= λ r.
    Ok (q, r)

abbrev pub key_pair_in : Option Tree → Result (OneKey × OneKey) NoRecord
key_pair_in o = wanted (object_in o) no_record >>= key_pair_of

abbrev pub one_key_tree : OneKey → Tree
one_key_tree k = members (object ((codes "key", words (encode_lower k.key)) ∷ (codes "salt", words (encode_lower k.salt)) ∷ []))

abbrev pub key_pair_tree : OneKey → OneKey → Tree
key_pair_tree q r = members (object ((codes "request", one_key_tree q) ∷ (codes "response", one_key_tree r) ∷ []))

-- ---- the record that a document is of: its members are those that are read, and no others

abbrev pub if_counted : {A : Type 0} → ℕ → Members → A → Result A NoRecord
if_counted count ms r = if length (field_list ms) == count then Ok r else Err no_record

abbrev pub opened_of : List ℕ → ℕ → Members → Result Record NoRecord
opened_of node id ms =
    wanted (text_at is_node_name (codes "peer_node") ms) no_record >>= λ peer_node.
    wanted (chosen id_of (get_member (codes "peer") ms)) no_record >>= λ peer.
    wanted (chosen plmn_of (get_member (codes "plmn") ms)) no_record >>= λ plmn.
    wanted (chosen suite_of (get_member (codes "suite") ms)) no_record >>= λ suite.
    wanted (policy_in (get_member (codes "policy") ms)) no_record >>= λ policy.
    wanted (ipx_in (get_member (codes "own_ipx") ms)) no_record >>= λ own_ipx.
    wanted (ipx_in (get_member (codes "peer_ipx") ms)) no_record >>= λ peer_ipx.
    if_counted 10 ms (Opened (record { node = node; id = id; peer_node = peer_node; peer = peer; plmn = plmn; suite = suite; policy = policy; own_ipx = own_ipx; peer_ipx = peer_ipx }))

abbrev pub keyed_of : List ℕ → ℕ → Members → Result Record NoRecord
keyed_of node id ms =
    wanted (number_in (get_member (codes "first") ms)) no_record >>= λ first.
    key_pair_in (get_member (codes "send") ms) >>= λ send.
    key_pair_in (get_member (codes "receive") ms) >>= λ receive.
    if_counted 6 ms (Keyed node id (record { send_request = send.0; send_response = send.1; receive_request = receive.0; receive_response = receive.1; first = first }))

abbrev pub sent_of : List ℕ → ℕ → Members → Result Record NoRecord
sent_of node id ms =
    wanted (chosen kind_named (get_member (codes "kind") ms)) no_record >>= λ kind.
    wanted (number_in (get_member (codes "seq") ms)) no_record >>= λ seq.
    wanted (chosen id_of (get_member (codes "message") ms)) no_record >>= λ message.
    wanted (mapping_in (get_member (codes "mapping") ms)) no_record >>= λ mapping.
    if_counted 7 ms (Sent node id kind seq message mapping)

abbrev pub delivered_of : List ℕ → ℕ → Members → Result Record NoRecord
delivered_of node id ms =
    wanted (chosen kind_named (get_member (codes "kind") ms)) no_record >>= λ kind.
    wanted (chosen id_of (get_member (codes "message") ms)) no_record >>= λ message.
    wanted (mapping_in (get_member (codes "mapping") ms)) no_record >>= λ mapping.
    if_counted 6 ms (Delivered node id kind message mapping)

-- by the text of `is`
abbrev pub record_named : List ℕ → List ℕ → ℕ → Members → Result Record NoRecord
record_named is node id ms =
    if bytes_eq is (codes "offered") then if_counted 3 ms (Offered node id)
    else (if bytes_eq is (codes "opened") then opened_of node id ms
    else (if bytes_eq is (codes "keyed") then keyed_of node id ms
    else (if bytes_eq is (codes "sent") then sent_of node id ms
    else (if bytes_eq is (codes "delivered") then delivered_of node id ms
    else (if bytes_eq is (codes "closed") then if_counted 3 ms (Closed node id) else Err no_record)))))

abbrev pub record_with : Members → Result Record NoRecord
record_with ms =
    wanted (text_at any_text (codes "is") ms) no_record >>= λ is.
    wanted (text_at is_node_name (codes "node") ms) no_record >>= λ node.
    wanted (chosen id_of (get_member (codes "id") ms)) no_record >>= λ id.
    record_named is node id ms

abbrev pub record_of : Tree → Result Record NoRecord
record_of null = Err no_record
record_of (truth b) = Err no_record
record_of (whole z) = Err no_record
record_of (words s) = Err no_record
record_of (items ts) = Err no_record
record_of (members ms) = record_with ms

-- ---- the document of a record

-- the members that each record has, among these
abbrev pub with_name : List ℕ → List ℕ → ℕ → Members → Tree
with_name is node id ms = members (put_member (codes "is") (words is) (put_member (codes "node") (words node) (put_member (codes "id") (words (id_text id)) ms)))

abbrev pub record_tree : Record → Tree
record_tree (Offered node id) = with_name (codes "offered") node id no_members
record_tree (Opened x) = with_name (codes "opened") x.node x.id (object (
    (codes "peer_node", words x.peer_node)
    ∷ (codes "peer", words (id_text x.peer))
    ∷ (codes "plmn", words x.plmn)
    ∷ (codes "suite", words (suite_text x.suite))
    ∷ (codes "policy", policy_tree x.policy)
    ∷ (codes "own_ipx", list_of words x.own_ipx)
    ∷ (codes "peer_ipx", list_of words x.peer_ipx) ∷ []))
record_tree (Keyed node id k) = with_name (codes "keyed") node id (object (
    (codes "first", whole (pos k.first))
    ∷ (codes "send", key_pair_tree k.send_request k.send_response)
    ∷ (codes "receive", key_pair_tree k.receive_request k.receive_response) ∷ []))
record_tree (Sent node id kind seq message mapping) = with_name (codes "sent") node id (object (
    (codes "kind", words (kind_text kind))
    ∷ (codes "seq", whole (pos seq))
    ∷ (codes "message", words (id_text message))
    ∷ (codes "mapping", mapping_tree mapping) ∷ []))
record_tree (Delivered node id kind message mapping) = with_name (codes "delivered") node id (object (
    (codes "kind", words (kind_text kind))
    ∷ (codes "message", words (id_text message))
    ∷ (codes "mapping", mapping_tree mapping) ∷ []))
record_tree (Closed node id) = with_name (codes "closed") node id no_members

-- ---- which records have a document

abbrev pub are_ipx : List (List ℕ) → Bool
are_ipx ss = nat_le (length ss) 1 && list_all is_identity ss

-- the names of nodes and intermediaries are in their grammar
abbrev pub is_well_named : Record → Bool
is_well_named (Opened x) = is_node_name x.node && (is_node_name x.peer_node && (are_ipx x.own_ipx && are_ipx x.peer_ipx))
is_well_named r = is_node_name (node_of r)

-- a key of a suite and its salt
pub record IsOneKey (k : OneKey) : Type 0 where
  pub key_bytes : IsBytes k.key
  pub key_length : IsTrue ((length k.key == 16) || (length k.key == 32))
  pub salt_bytes : IsBytes k.salt
  pub salt_length : length k.salt ≡ 8

pub record IsKeySet (k : KeySet) : Type 0 where
  pub send_request : IsOneKey k.send_request
  pub send_response : IsOneKey k.send_response
  pub receive_request : IsOneKey k.receive_request
  pub receive_response : IsOneKey k.receive_response
  pub first : k.first < 2 ^ 32

pub record IsContext (x : Context) : Type 0 where
  pub id : x.id < 2 ^ 64
  pub peer : x.peer < 2 ^ 64
  pub plmn : IsTrue (is_plmn x.plmn)
  pub policy : ReadsBack x.policy

abbrev pub IsMapping : Option ℕ → Type 0
IsMapping None = Unit {0}
IsMapping (Some n) = n < 2 ^ 32

-- all else is in range, as in each value of the program
abbrev pub HasRange : Record → Type 0
HasRange (Offered n i) = i < 2 ^ 64
HasRange (Opened x) = IsContext x
HasRange (Keyed n i k) = (i < 2 ^ 64) × IsKeySet k
HasRange (Sent n i k s m p) = (i < 2 ^ 64) × ((s < 2 ^ 32) × ((m < 2 ^ 64) × IsMapping p))
HasRange (Delivered n i k m p) = (i < 2 ^ 64) × ((m < 2 ^ 64) × IsMapping p)
HasRange (Closed n i) = i < 2 ^ 64
