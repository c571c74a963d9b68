-- What is known of an event that a document is of: its names are in their grammar, and a document in it is less deep.
use Rattle.std.proofs.Common.{◌≡◌, ◌≤◌, ℕ, List, Bool, true, false, ◌&&◌, cond, Option, Some, None, Result, Ok, Err, refl, subst, IsTrue, bytes_eq, codes, arith}
use Rattle.std.specs.Prelude.{ℤ, unwrap_or, option_and_then}
use Rattle.spec_documents.specs.Tree.{Tree, null, truth, whole, words, items, no_items, members, Members, get_member, depth, members_depth}
use Rattle.spec_documents.specs.Place.{◌>>=◌}
use Rattle.spec_documents.specs.Text.{is_node_name}
use Rattle.spec_messages.specs.Message.{wanted, any_text, text_in}
use Rattle.spec_records.specs.RecordDocument.{ipx_in, are_ipx, suite_of}
use Rattle.spec_records.proofs.NameLemmas.{passes, ipx_named}
use Rattle.spec_documents.proofs.TreeLemmas.{bind_ok, got_low}
use Rattle.spec_exchange.proofs.ChainLemmas.{ok_same}
use Rattle.spec_script.specs.Events.{Event, AddNode, AddContext, AddKeys, Send, Inject, Deliver, Restart, Pass, Alter, Reported, reached, read_at, node_in, id_in, plmn_in, suite_in, any_value, whole_in, pair_in, first_in, answers_in, identity_in, passed_in, ops_in, pass_event, alter_event, reported_event, node_event, context_event, keys_event, send_event, inject_event, deliver_event, restart_event, event_named, event_of, StartWith, AnswerTo, FinishBy, Terminate, EndBy, start_event, answer_event, finish_event, terminate_event, ended_event}
use Rattle.spec_sealing.specs.Header.{object_in}
use Rattle.spec_handshake.specs.Documents.{capability_of, words_in, id_in as hand_id}
use Rattle.spec_script.specs.Offers.{HandedOffer, offered_at, any_policy, offer_in}
use Rattle.replay_world.specs.Worlds.{IsShallow}
use Rattle.replay_world.specs.Fitting.{IsFit}

-- ---- members

is_some_of : {A E : Type 0} (o : Option A) (d : E) (x : A) → wanted o d ≡ Ok x → o ≡ Some x
is_some_of None d x e = cc
is_some_of (Some y) d x e = cc

name_is : (k : List ℕ) (ms : Members) (node : List ℕ) → read_at node_in k ms ≡ Ok node → is_node_name node ≡ true
name_is k ms node e = step (get_member k ms) (is_some_of (node_in (get_member k ms)) k node e)
  where
    step : (o : Option Tree) → node_in o ≡ Some node → is_node_name node ≡ true
    step None e = cc
    step (Some t) e = passes is_node_name t node e

reached_is : (ms : Members) (r : List ℕ × ℤ) → reached ms ≡ Ok r → is_node_name r.0 ≡ true
reached_is ms r e =
    let p = bind_ok (read_at node_in (codes "node") ms) (λ node. read_at whole_in (codes "wire") ms >>= λ wire. Ok (node, wire)) r e in
    let q = bind_ok (read_at whole_in (codes "wire") ms) (λ wire. Ok (p.0, wire)) r p.2 in
    subst (λ (x : List ℕ × ℤ). is_node_name x.0 ≡ true) (ok_same {E = List ℕ} (p.0, q.0) r q.2) (name_is (codes "node") ms p.0 p.1)

ipx_is : (k : List ℕ) (ms : Members) (ss : List (List ℕ)) → read_at ipx_in k ms ≡ Ok ss → are_ipx ss ≡ true
ipx_is k ms ss e = ipx_named (get_member k ms) ss (is_some_of (ipx_in (get_member k ms)) k ss e)

-- ---- events

-- the event is fit, where there is one
record AllFit (r : Result Event (List ℕ)) : Type 0 where
  pub fit : (e : Event) → r ≡ Ok e → IsFit e

ok_fits : (e : Event) → IsFit e → AllFit (Ok e)
ok_fits e h = record { fit = λ d is. let same : e ≡ d = cc in subst IsFit same h }

err_fits : (k : List ℕ) → AllFit (Err k)
err_fits k = record { fit = λ d is. cc }

bind_fits : {A : Type 0} (r : Result A (List ℕ)) (k : A → Result Event (List ℕ)) → ((x : A) → r ≡ Ok x → AllFit (k x)) → AllFit (r >>= k)
bind_fits (Ok x) k h = h x refl
bind_fits (Err d) k h = err_fits d

cond_fits : (b : Bool) (r q : Result Event (List ℕ)) → AllFit r → AllFit q → AllFit (cond b r q)
cond_fits true r q h g = h
cond_fits false r q h g = g

all_true : (a b c d : Bool) → a ≡ true → b ≡ true → c ≡ true → d ≡ true → IsTrue (a && (b && (c && d)))
all_true a b c d p q r s = rw (p, q, r) s

node_fits : (ms : Members) → AllFit (node_event ms)
node_fits ms =
    bind_fits (read_at node_in (codes "node") ms) _ λ node a.
    bind_fits (read_at plmn_in (codes "plmn") ms) _ λ plmn b.
    ok_fits (AddNode node plmn) tt

context_fits : (ms : Members) → AllFit (context_event ms)
context_fits ms =
    bind_fits (read_at node_in (codes "node") ms) _ λ node a.
    bind_fits (read_at id_in (codes "id") ms) _ λ id b.
    bind_fits (read_at node_in (codes "peer_node") ms) _ λ peer_node c.
    bind_fits (read_at id_in (codes "peer") ms) _ λ peer d.
    bind_fits (read_at plmn_in (codes "plmn") ms) _ λ plmn e.
    bind_fits (read_at suite_in (codes "suite") ms) _ λ suite f.
    bind_fits (read_at any_value (codes "policy") ms) _ λ policy g.
    bind_fits (read_at ipx_in (codes "own_ipx") ms) _ λ own_ipx h.
    bind_fits (read_at ipx_in (codes "peer_ipx") ms) _ λ peer_ipx i.
    ok_fits (AddContext (record { node = node; id = id; peer_node = peer_node; peer = peer; plmn = plmn; suite = suite; policy = policy; own_ipx = own_ipx; peer_ipx = peer_ipx }))
    (all_true _ _ _ _ (name_is (codes "node") ms node a) (name_is (codes "peer_node") ms peer_node c) (ipx_is (codes "own_ipx") ms own_ipx h) (ipx_is (codes "peer_ipx") ms peer_ipx i))

keys_fits : (ms : Members) → AllFit (keys_event ms)
keys_fits ms =
    bind_fits (read_at node_in (codes "node") ms) _ λ node a.
    bind_fits (read_at id_in (codes "id") ms) _ λ id b.
    bind_fits (read_at pair_in (codes "send") ms) _ λ send c.
    bind_fits (read_at pair_in (codes "receive") ms) _ λ receive d.
    bind_fits (read_at first_in (codes "first") ms) _ λ first e.
    ok_fits (AddKeys node id (record { send_request = send.0; send_response = send.1; receive_request = receive.0; receive_response = receive.1; first = unwrap_or first 0 })) (name_is (codes "node") ms node a)

send_fits : (ms : Members) → AllFit (send_event ms)
send_fits ms =
    bind_fits (read_at node_in (codes "node") ms) _ λ node a.
    bind_fits (read_at id_in (codes "id") ms) _ λ id b.
    bind_fits (read_at any_value (codes "message") ms) _ λ content c.
    bind_fits (read_at answers_in (codes "answers") ms) _ λ answers d.
    ok_fits (Send node id content answers) tt

inject_fits : (ms : Members) → members_depth ms ≤ 126 → AllFit (inject_event ms)
inject_fits ms low =
    bind_fits (read_at any_value (codes "document") ms) _ λ document a.
    let there = got_low (codes "document") document ms (is_some_of (get_member (codes "document") ms) (codes "document") document a) in
    ok_fits (Inject document) (omega arith)

deliver_fits : (ms : Members) → AllFit (deliver_event ms)
deliver_fits ms = bind_fits (reached ms) _ λ r a. ok_fits (Deliver r.0 r.1) tt

restart_fits : (ms : Members) → AllFit (restart_event ms)
restart_fits ms =
    bind_fits (read_at node_in (codes "node") ms) _ λ node a.
    ok_fits (Restart node) tt

pass_fits : (ms : Members) → members_depth ms ≤ 126 → AllFit (pass_event ms)
pass_fits ms low =
    bind_fits (read_at identity_in (codes "ipx") ms) _ λ ipx a.
    bind_fits (read_at whole_in (codes "wire") ms) _ λ wire b.
    bind_fits (read_at passed_in (codes "operations") ms) _ λ operations c.
    ok_fits (Pass ipx wire operations) (passed_low (get_member (codes "operations") ms) refl operations (is_some_of (passed_in (get_member (codes "operations") ms)) (codes "operations") operations c))
  where
    passed_low : (o : Option Tree) → get_member (codes "operations") ms ≡ o → (operations : Tree) → passed_in o ≡ Some operations → IsShallow operations
    passed_low None e operations is = let same : items no_items ≡ operations = cc in subst (λ (t : Tree). IsShallow t) same (let one : depth (items no_items) ≡ 1 = refl in omega (arith, one))
    passed_low (Some t) e operations is = let same : t ≡ operations = cc in let there = got_low (codes "operations") t ms e in subst (λ (t : Tree). IsShallow t) same (omega (arith, there, low))

alter_fits : (ms : Members) → AllFit (alter_event ms)
alter_fits ms =
    bind_fits (read_at whole_in (codes "wire") ms) _ λ wire a.
    bind_fits (read_at ops_in (codes "operations") ms) _ λ operations b.
    ok_fits (Alter wire operations) tt

reported_fits : (ms : Members) → members_depth ms ≤ 126 → AllFit (reported_event ms)
reported_fits ms low =
    bind_fits (read_at node_in (codes "node") ms) _ λ node a.
    bind_fits (read_at any_value (codes "document") ms) _ λ document b.
    let there = got_low (codes "document") document ms (is_some_of (get_member (codes "document") ms) (codes "document") document b) in
    ok_fits (Reported node document) (omega (arith, there, low))

-- the intermediary of an offer
record AllNamed (r : Result HandedOffer (List ℕ)) : Type 0 where
  pub named : (x : HandedOffer) → r ≡ Ok x → are_ipx x.ipx ≡ true

bind_named : {A : Type 0} (r : Result A (List ℕ)) (k : A → Result HandedOffer (List ℕ)) → ((x : A) → r ≡ Ok x → AllNamed (k x)) → AllNamed (r >>= k)
bind_named (Ok x) k h = h x refl
bind_named (Err d) k h = record { named = λ x is. cc }

ok_named : (x : HandedOffer) → are_ipx x.ipx ≡ true → AllNamed (Ok x)
ok_named x h = record { named = λ y is. let same : x ≡ y = cc in subst (λ (z : HandedOffer). are_ipx z.ipx ≡ true) same h }

offer_named : (ms : Members) → AllNamed (offer_in ms)
offer_named ms =
    bind_named (wanted (option_and_then object_in (get_member (codes "offer") ms)) (codes "offer")) _ λ os a.
    bind_named (offered_at hand_id (codes "id") os) _ λ id b.
    bind_named (offered_at (words_in capability_of) (codes "capabilities") os) _ λ capabilities c.
    bind_named (offered_at (words_in suite_of) (codes "suites") os) _ λ suites d.
    bind_named (offered_at any_policy (codes "policy") os) _ λ policy e.
    bind_named (offered_at ipx_in (codes "ipx") os) _ λ ipx f.
    ok_named (record { id = id; capabilities = capabilities; suites = suites; policy = policy; ipx = ipx })
    (ipx_named (get_member (codes "ipx") os) ipx (is_some_of (ipx_in (get_member (codes "ipx") os)) (codes "offer") ipx f))

both_true : (a b : Bool) → a ≡ true → b ≡ true → IsTrue (a && b)
both_true a b p q = rw (p, q) refl

three_true : (a b c : Bool) → a ≡ true → b ≡ true → c ≡ true → IsTrue (a && (b && c))
three_true a b c p q r = rw (p, q, r) refl

start_fits : (ms : Members) → AllFit (start_event ms)
start_fits ms =
    bind_fits (read_at node_in (codes "node") ms) _ λ node a.
    bind_fits (read_at node_in (codes "peer") ms) _ λ peer b.
    bind_fits (offer_in ms) _ λ offer c.
    ok_fits (StartWith node peer offer) (three_true _ _ _ (name_is (codes "node") ms node a) (name_is (codes "peer") ms peer b) ((offer_named ms).named offer c))

answer_fits : (ms : Members) → AllFit (answer_event ms)
answer_fits ms =
    bind_fits (reached ms) _ λ r a.
    bind_fits (offer_in ms) _ λ offer c.
    ok_fits (AnswerTo r.0 r.1 offer) (both_true _ _ (reached_is ms r a) ((offer_named ms).named offer c))

finish_fits : (ms : Members) → AllFit (finish_event ms)
finish_fits ms = bind_fits (reached ms) _ λ r a. ok_fits (FinishBy r.0 r.1) tt

terminate_fits : (ms : Members) → AllFit (terminate_event ms)
terminate_fits ms =
    bind_fits (read_at node_in (codes "node") ms) _ λ node a.
    bind_fits (read_at id_in (codes "id") ms) _ λ id b.
    ok_fits (Terminate node id) tt

ended_fits : (ms : Members) → AllFit (ended_event ms)
ended_fits ms = bind_fits (reached ms) _ λ r a. ok_fits (EndBy r.0 r.1) tt

named_fits : (name : List ℕ) (ms : Members) → members_depth ms ≤ 126 → AllFit (event_named name ms)
named_fits name ms low =
    cond_fits (bytes_eq name (codes "node")) _ _ (node_fits ms)
    (cond_fits (bytes_eq name (codes "context")) _ _ (context_fits ms)
    (cond_fits (bytes_eq name (codes "keys")) _ _ (keys_fits ms)
    (cond_fits (bytes_eq name (codes "send")) _ _ (send_fits ms)
    (cond_fits (bytes_eq name (codes "inject")) _ _ (inject_fits ms low)
    (cond_fits (bytes_eq name (codes "deliver")) _ _ (deliver_fits ms)
    (cond_fits (bytes_eq name (codes "restart")) _ _ (restart_fits ms)
    (cond_fits (bytes_eq name (codes "pass")) _ _ (pass_fits ms low)
    (cond_fits (bytes_eq name (codes "alter")) _ _ (alter_fits ms)
    (cond_fits (bytes_eq name (codes "reported")) _ _ (reported_fits ms low)
    (cond_fits (bytes_eq name (codes "start")) _ _ (start_fits ms)
    (cond_fits (bytes_eq name (codes "answer")) _ _ (answer_fits ms)
    (cond_fits (bytes_eq name (codes "finish")) _ _ (finish_fits ms)
    (cond_fits (bytes_eq name (codes "terminate")) _ _ (terminate_fits ms)
    (cond_fits (bytes_eq name (codes "ended")) _ _ (ended_fits ms) (err_fits (codes "do"))))))))))))))))

tree_fits : (t : Tree) → depth t ≤ 127 → AllFit (event_of t)
tree_fits null low = err_fits (codes "do")
tree_fits (truth b) low = err_fits (codes "do")
tree_fits (whole z) low = err_fits (codes "do")
tree_fits (words s) low = err_fits (codes "do")
tree_fits (items ts) low = err_fits (codes "do")
tree_fits (members ms) low = bind_fits (read_at (text_in any_text) (codes "do") ms) _ λ name a. named_fits name ms (omega arith)

pub event_fits : (t : Tree) (e : Event) → event_of t ≡ Ok e → depth t ≤ 127 → IsFit e
event_fits t e is low = (tree_fits t low).fit e is
