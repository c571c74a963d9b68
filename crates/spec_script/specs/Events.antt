-- The events of a script and their documents (this project's own): each line is an object whose member `do` names the event; other members than its own are ignored.
use Rattle.std.specs.Prelude.{ℕ, ℤ, List, Option, Some, None, unwrap_or, Result, Ok, Err, if◌then◌else◌, bytes_eq, codes}
use Rattle.spec_documents.specs.Tree.{Tree, null, truth, whole, words, items, no_items, members, Members, get_member}
use Rattle.spec_documents.specs.Place.{◌>>=◌}
use Rattle.spec_documents.specs.Ids.{id_of, plmn_of}
use Rattle.spec_documents.specs.Text.{is_identity, is_node_name}
use Rattle.spec_documents.specs.Patch.{Op}
use Rattle.spec_documents.specs.Operations.{ops_of}
use Rattle.spec_messages.specs.Message.{wanted, text_in, any_text}
use Rattle.spec_messages.specs.Policy.{result_ok}
use Rattle.spec_messages.specs.PolicyDocument.{chosen, if_there}
use Rattle.spec_records.specs.Records.{Suite, OneKey, KeySet}
use Rattle.spec_records.specs.RecordDocument.{suite_of, number_of, ipx_in, key_pair_in}
use Rattle.spec_script.specs.Refusals.{Refusal, BadEvent}
use Rattle.spec_script.specs.Offers.{HandedOffer, offer_in}
use Rattle.spec_script.specs.LineTree.{line_tree}

-- a context that is handed in. The form of its policy is judged later
pub record HandedContext : Type 0 where
  pub node : List ℕ
  pub id : ℕ
  pub peer_node : List ℕ
  pub peer : ℕ
  pub plmn : List ℕ
  pub suite : Suite
  pub policy : Tree
  pub own_ipx : List (List ℕ)
  pub peer_ipx : List (List ℕ)

pub data Event : Type 0 where
  -- a SEPP begins to work, in the network of that PLMN id
  AddNode : (node plmn : List ℕ) → Event
  AddContext : (context : HandedContext) → Event
  AddKeys : (node : List ℕ) (id : ℕ) (keys : KeySet) → Event
  -- a message, and the id of the request that it answers
  Send : (node : List ℕ) (id : ℕ) (message : Tree) (answers : Option ℕ) → Event
  -- an intermediary passes the document of that number on, with an entry of these operations
  Pass : (ipx : List ℕ) (wire : ℤ) (operations : Tree) → Event
  -- a document is put on the wire
  Inject : (document : Tree) → Event
  -- the document of that number goes on the wire again, with these operations applied
  Alter : (wire : ℤ) (operations : List Op) → Event
  -- the document of that number on the wire reaches a node
  Deliver : (node : List ℕ) (wire : ℤ) → Event
  Restart : (node : List ℕ) → Event
  -- a report of its peer reaches a node
  Reported : (node : List ℕ) (document : Tree) → Event
  -- a node starts a handshake with a peer
  StartWith : (node peer : List ℕ) (offer : HandedOffer) → Event
  -- the document of that number on the wire reaches a node, which answers it, or goes on with it in a handshake that it started
  AnswerTo : (node : List ℕ) (wire : ℤ) (offer : HandedOffer) → Event
  FinishBy : (node : List ℕ) (wire : ℤ) → Event
  -- a node ends a context, and the document of that number tells it to the peer
  Terminate : (node : List ℕ) (id : ℕ) → Event
  EndBy : (node : List ℕ) (wire : ℤ) → Event

-- ---- members

-- what the member of a name is read to, or that name
abbrev pub read_at : {A : Type 0} → (Option Tree → Option A) → List ℕ → Members → Result A (List ℕ)
read_at read k ms = wanted (read (get_member k ms)) k

abbrev pub node_in : Option Tree → Option (List ℕ)
node_in o = text_in is_node_name o

abbrev pub id_in : Option Tree → Option ℕ
id_in o = chosen id_of o

abbrev pub plmn_in : Option Tree → Option (List ℕ)
plmn_in o = chosen plmn_of o

abbrev pub suite_in : Option Tree → Option Suite
suite_in o = chosen suite_of o

abbrev pub any_value : Option Tree → Option Tree
any_value o = o

-- any whole number
abbrev pub whole_in : Option Tree → Option ℤ
whole_in None = None
whole_in (Some null) = None
whole_in (Some (truth b)) = None
whole_in (Some (whole z)) = Some z
whole_in (Some (words s)) = None
whole_in (Some (items ts)) = None
whole_in (Some (members ms)) = None

-- the keys of a direction, for requests and for responses
abbrev pub pair_in : Option Tree → Option (OneKey × OneKey)
pair_in o = result_ok (key_pair_in o)

-- 0 where it is absent
abbrev pub first_in : Option Tree → Option (Option ℕ)
first_in o = if_there number_of o

abbrev pub answers_in : Option Tree → Option (Option ℕ)
answers_in o = if_there (λ t. id_in (Some t)) o

abbrev pub identity_in : Option Tree → Option (List ℕ)
identity_in o = text_in is_identity o

-- any value, and no operation where it is absent
abbrev pub passed_in : Option Tree → Option Tree
passed_in None = Some (items no_items)
passed_in (Some t) = Some t

-- the operations of a patch
abbrev pub ops_in : Option Tree → Option (List Op)
ops_in None = None
ops_in (Some t) = result_ok (ops_of t)

-- ---- the event of an object, or the first member, in this order, that is missing or has not its form

-- the node that a document on the wire reaches, and the document's number
abbrev pub reached : Members → Result (List ℕ × ℤ) (List ℕ)
reached ms =
    read_at node_in (codes "node") ms >>= λ node.
    read_at whole_in (codes "wire") ms >>= λ wire.
    Ok (node, wire)

abbrev pub node_event : Members → Result Event (List ℕ)
node_event ms =
    read_at node_in (codes "node") ms >>= λ node.
    read_at plmn_in (codes "plmn") ms >>= λ plmn.
    Ok (AddNode node plmn)

abbrev pub context_event : Members → Result Event (List ℕ)
context_event ms =
    read_at node_in (codes "node") ms >>= λ node.
    read_at id_in (codes "id") ms >>= λ id.
    read_at node_in (codes "peer_node") ms >>= λ peer_node.
    read_at id_in (codes "peer") ms >>= λ peer.
    read_at plmn_in (codes "plmn") ms >>= λ plmn.
    read_at suite_in (codes "suite") ms >>= λ suite.
    read_at any_value (codes "policy") ms >>= λ policy.
    read_at ipx_in (codes "own_ipx") ms >>= λ own_ipx.
    read_at ipx_in (codes "peer_ipx") ms >>= λ peer_ipx.
    Ok (AddContext (record { node = node; id = id; peer_node = peer_node; peer = peer; plmn = plmn; suite = suite; policy = policy; own_ipx = own_ipx; peer_ipx = peer_ipx }))

abbrev pub keys_event : Members → Result Event (List ℕ)
keys_event ms =
    read_at node_in (codes "node") ms >>= λ node.
    read_at id_in (codes "id") ms >>= λ id.
    read_at pair_in (codes "send") ms >>= λ send.
    read_at pair_in (codes "receive") ms >>= λ receive.
    read_at first_in (codes "first") ms >>= λ first.
    Ok (AddKeys node id (record { send_request = send.0; send_response = send.1; receive_request = receive.0; receive_response = receive.1; first = unwrap_or first 0 }))

abbrev pub send_event : Members → Result Event (List ℕ)
send_event ms =
    read_at node_in (codes "node") ms >>= λ node.
    read_at id_in (codes "id") ms >>= λ id.
    read_at any_value (codes "message") ms >>= λ message.
    read_at answers_in (codes "answers") ms >>= λ answers.
    Ok (Send node id message answers)

abbrev pub pass_event : Members → Result Event (List ℕ)
pass_event ms =
    read_at identity_in (codes "ipx") ms >>= λ ipx.
    read_at whole_in (codes "wire") ms >>= λ wire.
    read_at passed_in (codes "operations") ms >>= λ operations.
    Ok (Pass ipx wire operations)

abbrev pub alter_event : Members → Result Event (List ℕ)
alter_event ms =
    read_at whole_in (codes "wire") ms >>= λ wire.
    read_at ops_in (codes "operations") ms >>= λ operations.
    Ok (Alter wire operations)

abbrev pub reported_event : Members → Result Event (List ℕ)
reported_event ms =
    read_at node_in (codes "node") ms >>= λ node.
    read_at any_value (codes "document") ms >>= λ document.
    Ok (Reported node document)

abbrev pub inject_event : Members → Result Event (List ℕ)
inject_event ms =
    read_at any_value (codes "document") ms >>= λ document.
    Ok (Inject document)

abbrev pub deliver_event : Members → Result Event (List ℕ)
deliver_event ms = reached ms >>= λ r. Ok (Deliver r.0 r.1)

abbrev pub restart_event : Members → Result Event (List ℕ)
restart_event ms =
    read_at node_in (codes "node") ms >>= λ node.
    Ok (Restart node)

abbrev pub start_event : Members → Result Event (List ℕ)
start_event ms =
    read_at node_in (codes "node") ms >>= λ node.
    read_at node_in (codes "peer") ms >>= λ peer.
    offer_in ms >>= λ offer.
    Ok (StartWith node peer offer)

abbrev pub answer_event : Members → Result Event (List ℕ)
answer_event ms =
    reached ms >>= λ r.
    offer_in ms >>= λ offer.
    Ok (AnswerTo r.0 r.1 offer)

abbrev pub finish_event : Members → Result Event (List ℕ)
finish_event ms = reached ms >>= λ r. Ok (FinishBy r.0 r.1)

abbrev pub terminate_event : Members → Result Event (List ℕ)
terminate_event ms =
    read_at node_in (codes "node") ms >>= λ node.
    read_at id_in (codes "id") ms >>= λ id.
    Ok (Terminate node id)

abbrev pub ended_event : Members → Result Event (List ℕ)
ended_event ms = reached ms >>= λ r. Ok (EndBy r.0 r.1)

-- by the text of `do`
abbrev pub event_named : List ℕ → Members → Result Event (List ℕ)
event_named name ms =
    if bytes_eq name (codes "node") then node_event ms
    else (if bytes_eq name (codes "context") then context_event ms
    else (if bytes_eq name (codes "keys") then keys_event ms
    else (if bytes_eq name (codes "send") then send_event ms
    else (if bytes_eq name (codes "inject") then inject_event ms
    else (if bytes_eq name (codes "deliver") then deliver_event ms
    else (if bytes_eq name (codes "restart") then restart_event ms
    else (if bytes_eq name (codes "pass") then pass_event ms
    else (if bytes_eq name (codes "alter") then alter_event ms
    else (if bytes_eq name (codes "reported") then reported_event ms
    else (if bytes_eq name (codes "start") then start_event ms
    else (if bytes_eq name (codes "answer") then answer_event ms
    else (if bytes_eq name (codes "finish") then finish_event ms
    else (if bytes_eq name (codes "terminate") then terminate_event ms
    else (if bytes_eq name (codes "ended") then ended_event ms else Err (codes "do")))))))))))))))

abbrev pub event_with : Members → Result Event (List ℕ)
event_with ms = read_at (text_in any_text) (codes "do") ms >>= λ name. event_named name ms

abbrev pub event_of : Tree → Result Event (List ℕ)
event_of null = Err (codes "do")
event_of (truth b) = Err (codes "do")
event_of (whole z) = Err (codes "do")
event_of (words s) = Err (codes "do")
event_of (items ts) = Err (codes "do")
event_of (members ms) = event_with ms

-- ---- the event of a line

abbrev pub or_bad_event : Result Event (List ℕ) → Result Event Refusal
or_bad_event (Ok e) = Ok e
or_bad_event (Err k) = Err (BadEvent k)

abbrev pub line_event : List ℕ → Result Event Refusal
line_event line = line_tree line >>= λ t. or_bad_event (event_of t)
