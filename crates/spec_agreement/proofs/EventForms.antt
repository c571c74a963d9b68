-- The event of a line has its names, ids and intermediaries in their forms.
use Rattle.std.proofs.Common.{◌≡◌, ℕ, Bool, true, false, List, Option, Some, None, Result, Ok, Err, refl, subst, cond}
use Rattle.std.specs.Prelude.{⊤, bytes_eq, codes, IsTrue}
use Rattle.std.specs.Option.{option_and_then}
use Rattle.spec_documents.specs.Tree.{Tree, null, truth, whole, words, items, members, Members, get_member}
use Rattle.spec_documents.specs.Place.{◌>>=◌}
use Rattle.spec_documents.specs.Ids.{id_of, is_plmn, plmn_of}
use Rattle.spec_documents.specs.Text.{is_node_name}
use Rattle.spec_messages.specs.Message.{wanted, text_in, any_text}
use Rattle.spec_messages.specs.PolicyDocument.{chosen}
use Rattle.spec_sealing.specs.Header.{object_in}
use Rattle.spec_records.specs.RecordDocument.{suite_of, ipx_in, are_ipx}
use Rattle.spec_records.proofs.NameLemmas.{passes_in, ipx_named}
use Rattle.spec_handshake.specs.Documents.{words_in, capability_of}
use Rattle.spec_handshake.specs.Documents as handshake
use Rattle.spec_handshake.specs.Forms.{IsId, IsNode, IsPlmn}
use Rattle.spec_handshake.proofs.Chains.{wanted_ok}
use Rattle.spec_script.specs.Events.{Event, AddNode, StartWith, AnswerTo, FinishBy, read_at, node_in, id_in, plmn_in, suite_in, any_value, whole_in, pair_in, first_in, answers_in, identity_in, passed_in, ops_in, reached, node_event, context_event, keys_event, send_event, inject_event, deliver_event, restart_event, pass_event, alter_event, reported_event, start_event, answer_event, finish_event, terminate_event, ended_event, event_named, event_of, or_bad_event, line_event}
use Rattle.spec_script.specs.Offers.{HandedOffer, offered_at, any_policy, offer_with, offer_in}
use Rattle.spec_script.specs.LineTree.{line_tree}
use Rattle.spec_agreement.proofs.IdBound.{id_bound}

-- an offer, but for its policy
pub record OfferHasForm (x : HandedOffer) : Type 0 where
  pub id : IsId x.id
  pub ipx : IsTrue (are_ipx x.ipx)

abbrev pub HasForm : Event → Type 0
HasForm (AddNode node plmn) = IsPlmn plmn
HasForm (StartWith node peer offer) = IsNode node × OfferHasForm offer
HasForm (AnswerTo node number offer) = IsNode node × OfferHasForm offer
HasForm (FinishBy node number) = IsNode node
HasForm _ = ⊤

-- ---- members

node_formed : (k : List ℕ) (ms : Members) (node : List ℕ) → read_at node_in k ms ≡ Ok node → IsNode node
node_formed k ms node e = passes_in is_node_name (get_member k ms) node (wanted_ok (node_in (get_member k ms)) k node e)

taken : {A : Type 0} (f : List ℕ → Option A) (o : Option Tree) (x : A) → chosen f o ≡ Some x → (s : List ℕ) × (f s ≡ Some x)
taken f None x e = cc
taken f (Some null) x e = cc
taken f (Some (truth b)) x e = cc
taken f (Some (whole z)) x e = cc
taken f (Some (words s)) x e = (s, e)
taken f (Some (items ts)) x e = cc
taken f (Some (members ms)) x e = cc

network : (s plmn : List ℕ) → plmn_of s ≡ Some plmn → IsPlmn plmn
network s plmn e = by (is_plmn s) refl e
  where
    by : (b : Bool) → is_plmn s ≡ b → cond b (Some s) None ≡ Some plmn → IsPlmn plmn
    by true f h = let same : s ≡ plmn = cc in subst IsPlmn same f
    by false f h = cc

network_formed : (k : List ℕ) (ms : Members) (plmn : List ℕ) → read_at plmn_in k ms ≡ Ok plmn → IsPlmn plmn
network_formed k ms plmn e = let s = taken plmn_of (get_member k ms) plmn (wanted_ok (plmn_in (get_member k ms)) k plmn e) in network s.0 plmn s.1

id_formed : (k : List ℕ) (ms : Members) (id : ℕ) → offered_at handshake.id_in k ms ≡ Ok id → IsId id
id_formed k ms id e = let s = taken id_of (get_member k ms) id (wanted_ok (handshake.id_in (get_member k ms)) (codes "offer") id e) in id_bound s.0 id s.1

ipx_formed : (k : List ℕ) (ms : Members) (ss : List (List ℕ)) → offered_at ipx_in k ms ≡ Ok ss → IsTrue (are_ipx ss)
ipx_formed k ms ss e = ipx_named (get_member k ms) ss (wanted_ok (ipx_in (get_member k ms)) (codes "offer") ss e)

-- ---- chains

-- what holds of the value that is read, where one is
pub record Read {A E : Type 0} (P : A → Type 0) (r : Result A E) : Type 0 where
  pub is : (x : A) → r ≡ Ok x → P x

read : {A E : Type 0} (P : A → Type 0) (x : A) → P x → Read {E = E} P (Ok x)
read P x h = record { is = λ y e. let same : x ≡ y = cc in subst P same h }

unread : {A E : Type 0} (P : A → Type 0) (d : E) → Read P (Err d)
unread P d = record { is = λ x e. cc }

-- what holds of the rest of a chain holds of the chain
chained : {A B E : Type 0} (P : B → Type 0) (r : Result A E) (k : A → Result B E) → ((x : A) → r ≡ Ok x → Read P (k x)) → Read P (r >>= k)
chained P (Ok x) k h = h x refl
chained P (Err d) k h = unread P d

either : {A E : Type 0} (P : A → Type 0) (b : Bool) (x y : Result A E) → Read P x → Read P y → Read P (cond b x y)
either P true x y h k = h
either P false x y h k = k

-- ---- offers

members_read : (ms : Members) → Read OfferHasForm (offer_with ms)
members_read ms =
    chained OfferHasForm (offered_at handshake.id_in (codes "id") ms) _ λ id i.
    chained OfferHasForm (offered_at (words_in capability_of) (codes "capabilities") ms) _ λ capabilities c.
    chained OfferHasForm (offered_at (words_in suite_of) (codes "suites") ms) _ λ suites s.
    chained OfferHasForm (offered_at any_policy (codes "policy") ms) _ λ policy p.
    chained OfferHasForm (offered_at ipx_in (codes "ipx") ms) _ λ ipx x.
    read OfferHasForm _ (record { id = id_formed (codes "id") ms id i; ipx = ipx_formed (codes "ipx") ms ipx x })

offer_read : (ms : Members) → Read OfferHasForm (offer_in ms)
offer_read ms = chained OfferHasForm (wanted (option_and_then object_in (get_member (codes "offer") ms)) (codes "offer")) offer_with λ xs at. members_read xs

-- ---- events

reached_read : (ms : Members) → Read (λ r. IsNode r.0) (reached ms)
reached_read ms =
    chained (λ r. IsNode r.0) (read_at node_in (codes "node") ms) _ λ node n.
    chained (λ r. IsNode r.0) (read_at whole_in (codes "wire") ms) _ λ wire w.
    read (λ r. IsNode r.0) _ (node_formed (codes "node") ms node n)

abbrev EventRead : Result Event (List ℕ) → Type 0
EventRead r = Read HasForm r

node_read : (ms : Members) → EventRead (node_event ms)
node_read ms =
    chained HasForm (read_at node_in (codes "node") ms) _ λ node n.
    chained HasForm (read_at plmn_in (codes "plmn") ms) _ λ plmn p.
    read HasForm _ (network_formed (codes "plmn") ms plmn p)

context_read : (ms : Members) → EventRead (context_event ms)
context_read ms =
    chained HasForm (read_at node_in (codes "node") ms) _ λ node n.
    chained HasForm (read_at id_in (codes "id") ms) _ λ id i.
    chained HasForm (read_at node_in (codes "peer_node") ms) _ λ peer_node q.
    chained HasForm (read_at id_in (codes "peer") ms) _ λ peer p.
    chained HasForm (read_at plmn_in (codes "plmn") ms) _ λ plmn l.
    chained HasForm (read_at suite_in (codes "suite") ms) _ λ suite s.
    chained HasForm (read_at any_value (codes "policy") ms) _ λ policy y.
    chained HasForm (read_at ipx_in (codes "own_ipx") ms) _ λ own o.
    chained HasForm (read_at ipx_in (codes "peer_ipx") ms) _ λ theirs t.
    read HasForm _ tt

keys_read : (ms : Members) → EventRead (keys_event ms)
keys_read ms =
    chained HasForm (read_at node_in (codes "node") ms) _ λ node n.
    chained HasForm (read_at id_in (codes "id") ms) _ λ id i.
    chained HasForm (read_at pair_in (codes "send") ms) _ λ send s.
    chained HasForm (read_at pair_in (codes "receive") ms) _ λ receive r.
    chained HasForm (read_at first_in (codes "first") ms) _ λ first f.
    read HasForm _ tt

send_read : (ms : Members) → EventRead (send_event ms)
send_read ms =
    chained HasForm (read_at node_in (codes "node") ms) _ λ node n.
    chained HasForm (read_at id_in (codes "id") ms) _ λ id i.
    chained HasForm (read_at any_value (codes "message") ms) _ λ message m.
    chained HasForm (read_at answers_in (codes "answers") ms) _ λ answers a.
    read HasForm _ tt

pass_read : (ms : Members) → EventRead (pass_event ms)
pass_read ms =
    chained HasForm (read_at identity_in (codes "ipx") ms) _ λ ipx i.
    chained HasForm (read_at whole_in (codes "wire") ms) _ λ wire w.
    chained HasForm (read_at passed_in (codes "operations") ms) _ λ operations o.
    read HasForm _ tt

alter_read : (ms : Members) → EventRead (alter_event ms)
alter_read ms =
    chained HasForm (read_at whole_in (codes "wire") ms) _ λ wire w.
    chained HasForm (read_at ops_in (codes "operations") ms) _ λ operations o.
    read HasForm _ tt

reported_read : (ms : Members) → EventRead (reported_event ms)
reported_read ms =
    chained HasForm (read_at node_in (codes "node") ms) _ λ node n.
    chained HasForm (read_at any_value (codes "document") ms) _ λ document d.
    read HasForm _ tt

inject_read : (ms : Members) → EventRead (inject_event ms)
inject_read ms =
    chained HasForm (read_at any_value (codes "document") ms) _ λ document d.
    read HasForm _ tt

deliver_read : (ms : Members) → EventRead (deliver_event ms)
deliver_read ms = chained HasForm (reached ms) _ λ r e. read HasForm _ tt

restart_read : (ms : Members) → EventRead (restart_event ms)
restart_read ms =
    chained HasForm (read_at node_in (codes "node") ms) _ λ node n.
    read HasForm _ tt

start_read : (ms : Members) → EventRead (start_event ms)
start_read ms =
    chained HasForm (read_at node_in (codes "node") ms) _ λ node n.
    chained HasForm (read_at node_in (codes "peer") ms) _ λ peer p.
    chained HasForm (offer_in ms) _ λ offer o.
    read HasForm _ (node_formed (codes "node") ms node n, (offer_read ms).is offer o)

answer_read : (ms : Members) → EventRead (answer_event ms)
answer_read ms =
    chained HasForm (reached ms) _ λ r e.
    chained HasForm (offer_in ms) _ λ offer o.
    read HasForm _ ((reached_read ms).is r e, (offer_read ms).is offer o)

finish_read : (ms : Members) → EventRead (finish_event ms)
finish_read ms = chained HasForm (reached ms) _ λ r e. read HasForm _ ((reached_read ms).is r e)

terminate_read : (ms : Members) → EventRead (terminate_event ms)
terminate_read ms =
    chained HasForm (read_at node_in (codes "node") ms) _ λ node n.
    chained HasForm (read_at id_in (codes "id") ms) _ λ id i.
    read HasForm _ tt

ended_read : (ms : Members) → EventRead (ended_event ms)
ended_read ms = chained HasForm (reached ms) _ λ r e. read HasForm _ tt

named_read : (name : List ℕ) (ms : Members) → EventRead (event_named name ms)
named_read name ms =
    either HasForm (bytes_eq name (codes "node")) _ _ (node_read ms)
    (either HasForm (bytes_eq name (codes "context")) _ _ (context_read ms)
    (either HasForm (bytes_eq name (codes "keys")) _ _ (keys_read ms)
    (either HasForm (bytes_eq name (codes "send")) _ _ (send_read ms)
    (either HasForm (bytes_eq name (codes "inject")) _ _ (inject_read ms)
    (either HasForm (bytes_eq name (codes "deliver")) _ _ (deliver_read ms)
    (either HasForm (bytes_eq name (codes "restart")) _ _ (restart_read ms)
    (either HasForm (bytes_eq name (codes "pass")) _ _ (pass_read ms)
    (either HasForm (bytes_eq name (codes "alter")) _ _ (alter_read ms)
    (either HasForm (bytes_eq name (codes "reported")) _ _ (reported_read ms)
    (either HasForm (bytes_eq name (codes "start")) _ _ (start_read ms)
    (either HasForm (bytes_eq name (codes "answer")) _ _ (answer_read ms)
    (either HasForm (bytes_eq name (codes "finish")) _ _ (finish_read ms)
    (either HasForm (bytes_eq name (codes "terminate")) _ _ (terminate_read ms)
    (either HasForm (bytes_eq name (codes "ended")) _ _ (ended_read ms) (unread HasForm (codes "do"))))))))))))))))

tree_read : (t : Tree) → EventRead (event_of t)
tree_read null = unread HasForm (codes "do")
tree_read (truth b) = unread HasForm (codes "do")
tree_read (whole z) = unread HasForm (codes "do")
tree_read (words s) = unread HasForm (codes "do")
tree_read (items ts) = unread HasForm (codes "do")
tree_read (members ms) = chained HasForm (read_at (text_in any_text) (codes "do") ms) (λ name. event_named name ms) λ name n. named_read name ms

judged : (r : Result Event (List ℕ)) → EventRead r → Read HasForm (or_bad_event r)
judged (Ok e) h = read HasForm e (h.is e refl)
judged (Err k) h = unread HasForm _

pub line_read : (line : List ℕ) → Read HasForm (line_event line)
line_read line = chained HasForm (line_tree line) (λ t. or_bad_event (event_of t)) λ t e. judged (event_of t) (tree_read t)
