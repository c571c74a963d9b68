-- The names of a record that a document is of, and of an open context, are in their grammar.
use Rattle.std.proofs.Common.{◌≡◌, ℕ, List, [], ◌∷◌, length, Bool, true, false, ◌==◌, cond, Option, Some, None, Result, Ok, Err, refl, sym, subst, bytes_eq, codes, IfSome}
use Rattle.std.proofs.lemmas.Bool.{and_parts}
use Rattle.std.proofs.lemmas.Slice.Eq.{bytes_eq-Decides}
use Rattle.std.specs.List.{list_all}
use Rattle.std.specs.Option.{option_or, option_map}
use Rattle.spec_documents.specs.Tree.{Tree, null, truth, whole, words, items, members, Members, get_member}
use Rattle.spec_documents.specs.Fields.{field_list}
use Rattle.spec_documents.specs.Place.{◌>>=◌}
use Rattle.spec_documents.specs.Ids.{id_of, plmn_of}
use Rattle.spec_documents.specs.Text.{is_node_name}
use Rattle.spec_messages.specs.Message.{Kind, wanted, any_text, text_at}
use Rattle.spec_messages.specs.Policy.{Policy}
use Rattle.spec_messages.specs.PolicyDocument.{chosen}
use Rattle.spec_records.specs.Records.{Suite, OneKey, Context, Record, Offered, Opened, Keyed, Sent, Delivered, Closed, node_of, context_of, is_of, opened_context, first_of, own, opening, open_context, closed}
use Rattle.spec_records.specs.RecordDocument.{NoRecord, no_record, suite_of, kind_named, number_in, mapping_in, policy_in, ipx_in, key_pair_in, if_counted, record_named, record_of, are_ipx, is_well_named}
use Rattle.spec_records.proofs.NameLemmas.{passes_in, ipx_named}

-- ---- records

counted : (n : ℕ) (ms : Members) (q r : Record) → if_counted n ms q ≡ Ok r → q ≡ r
counted n ms q r e = tested (length (field_list ms) == n) e
  where
    tested : (b : Bool) → cond b (Ok q) (Err no_record) ≡ Ok r → q ≡ r
    tested true e = cc
    tested false e = cc

as_named : (q r : Record) → is_well_named q ≡ true → q ≡ r → is_well_named r ≡ true
as_named q r named same = subst (λ z. is_well_named z ≡ true) same named

-- what is read of each member, and the record of it
opened_by : (node : List ℕ) (id : ℕ) (ms : Members) (r : Record) (peer_node : Option (List ℕ)) (peer : Option ℕ) (plmn : Option (List ℕ)) (suite : Option Suite) (policy : Option Policy) (own peers : Option (List (List ℕ)))
    → is_node_name node ≡ true → ((s : List ℕ) → peer_node ≡ Some s → is_node_name s ≡ true) → ((ss : List (List ℕ)) → own ≡ Some ss → are_ipx ss ≡ true) → ((ss : List (List ℕ)) → peers ≡ Some ss → are_ipx ss ≡ true)
    → (wanted peer_node no_record >>= λ n. wanted peer no_record >>= λ i. wanted plmn no_record >>= λ l. wanted suite no_record >>= λ s. wanted policy no_record >>= λ p. wanted own no_record >>= λ o. wanted peers no_record >>= λ q.
    if_counted 10 ms (Opened (record { node = node; id = id; peer_node = n; peer = i; plmn = l; suite = s; policy = p; own_ipx = o; peer_ipx = q }))) ≡ Ok r
    → is_well_named r ≡ true
opened_by node id ms r None peer plmn suite policy own peers name a b c e = cc
opened_by node id ms r (Some n) None plmn suite policy own peers name a b c e = cc
opened_by node id ms r (Some n) (Some i) None suite policy own peers name a b c e = cc
opened_by node id ms r (Some n) (Some i) (Some l) None policy own peers name a b c e = cc
opened_by node id ms r (Some n) (Some i) (Some l) (Some s) None own peers name a b c e = cc
opened_by node id ms r (Some n) (Some i) (Some l) (Some s) (Some p) None peers name a b c e = cc
opened_by node id ms r (Some n) (Some i) (Some l) (Some s) (Some p) (Some o) None name a b c e = cc
opened_by node id ms r (Some n) (Some i) (Some l) (Some s) (Some p) (Some o) (Some q) name a b c e =
    as_named _ r (rw (name, a n refl, b o refl, c q refl) refl) (counted 10 ms _ r e)

keyed_by : (node : List ℕ) (id : ℕ) (ms : Members) (r : Record) (first : Option ℕ) (send receive : Result (OneKey × OneKey) NoRecord) → is_node_name node ≡ true
    → (wanted first no_record >>= λ f. send >>= λ s. receive >>= λ t. if_counted 6 ms (Keyed node id (record { send_request = s.0; send_response = s.1; receive_request = t.0; receive_response = t.1; first = f }))) ≡ Ok r
    → is_well_named r ≡ true
keyed_by node id ms r None send receive name e = cc
keyed_by node id ms r (Some f) (Err w) receive name e = cc
keyed_by node id ms r (Some f) (Ok s) (Err w) name e = cc
keyed_by node id ms r (Some f) (Ok s) (Ok t) name e = as_named _ r name (counted 6 ms _ r e)

sent_by : (node : List ℕ) (id : ℕ) (ms : Members) (r : Record) (kind : Option Kind) (seq message : Option ℕ) (mapping : Option (Option ℕ)) → is_node_name node ≡ true
    → (wanted kind no_record >>= λ k. wanted seq no_record >>= λ n. wanted message no_record >>= λ i. wanted mapping no_record >>= λ p. if_counted 7 ms (Sent node id k n i p)) ≡ Ok r
    → is_well_named r ≡ true
sent_by node id ms r None seq message mapping name e = cc
sent_by node id ms r (Some k) None message mapping name e = cc
sent_by node id ms r (Some k) (Some n) None mapping name e = cc
sent_by node id ms r (Some k) (Some n) (Some i) None name e = cc
sent_by node id ms r (Some k) (Some n) (Some i) (Some p) name e = as_named _ r name (counted 7 ms _ r e)

delivered_by : (node : List ℕ) (id : ℕ) (ms : Members) (r : Record) (kind : Option Kind) (message : Option ℕ) (mapping : Option (Option ℕ)) → is_node_name node ≡ true
    → (wanted kind no_record >>= λ k. wanted message no_record >>= λ i. wanted mapping no_record >>= λ p. if_counted 6 ms (Delivered node id k i p)) ≡ Ok r
    → is_well_named r ≡ true
delivered_by node id ms r None message mapping name e = cc
delivered_by node id ms r (Some k) None mapping name e = cc
delivered_by node id ms r (Some k) (Some i) None name e = cc
delivered_by node id ms r (Some k) (Some i) (Some p) name e = as_named _ r name (counted 6 ms _ r e)

either_way : (P : Type 0) (b : Bool) (x y : Result Record NoRecord) (r : Record) → (x ≡ Ok r → P) → (y ≡ Ok r → P) → cond b x y ≡ Ok r → P
either_way P true x y r f g e = f e
either_way P false x y r f g e = g e

by_its_kind : (is node : List ℕ) (id : ℕ) (ms : Members) (r : Record) → is_node_name node ≡ true → record_named is node id ms ≡ Ok r → is_well_named r ≡ true
by_its_kind is node id ms r name e =
    either_way _ (bytes_eq is (codes "offered")) _ _ r (λ f. as_named _ r name (counted 3 ms _ r f))
    (λ e. either_way _ (bytes_eq is (codes "opened")) _ _ r
    (λ f. opened_by node id ms r (text_at is_node_name (codes "peer_node") ms) (chosen id_of (get_member (codes "peer") ms)) (chosen plmn_of (get_member (codes "plmn") ms)) (chosen suite_of (get_member (codes "suite") ms)) (policy_in (get_member (codes "policy") ms)) (ipx_in (get_member (codes "own_ipx") ms)) (ipx_in (get_member (codes "peer_ipx") ms))
    name (passes_in is_node_name (get_member (codes "peer_node") ms)) (ipx_named (get_member (codes "own_ipx") ms)) (ipx_named (get_member (codes "peer_ipx") ms)) f)
    (λ e. either_way _ (bytes_eq is (codes "keyed")) _ _ r (λ f. keyed_by node id ms r (number_in (get_member (codes "first") ms)) (key_pair_in (get_member (codes "send") ms)) (key_pair_in (get_member (codes "receive") ms)) name f)
    (λ e. either_way _ (bytes_eq is (codes "sent")) _ _ r (λ f. sent_by node id ms r (chosen kind_named (get_member (codes "kind") ms)) (number_in (get_member (codes "seq") ms)) (chosen id_of (get_member (codes "message") ms)) (mapping_in (get_member (codes "mapping") ms)) name f)
    (λ e. either_way _ (bytes_eq is (codes "delivered")) _ _ r (λ f. delivered_by node id ms r (chosen kind_named (get_member (codes "kind") ms)) (chosen id_of (get_member (codes "message") ms)) (mapping_in (get_member (codes "mapping") ms)) name f)
    (λ e. either_way _ (bytes_eq is (codes "closed")) _ _ r (λ f. as_named _ r name (counted 3 ms _ r f)) (λ f. cc) e) e) e) e) e) e

members_by : (ms : Members) (r : Record) (is node : Option (List ℕ)) (id : Option ℕ) → ((s : List ℕ) → node ≡ Some s → is_node_name s ≡ true)
    → (wanted is no_record >>= λ w. wanted node no_record >>= λ n. wanted id no_record >>= λ i. record_named w n i ms) ≡ Ok r → is_well_named r ≡ true
members_by ms r None _ id named e = cc
members_by ms r (Some w) None id named e = cc
members_by ms r (Some w) (Some n) None named e = cc
members_by ms r (Some w) (Some n) (Some i) named e = by_its_kind w n i ms r (named n refl) e

pub record_of_named : (t : Tree) (r : Record) → record_of t ≡ Ok r → is_well_named r ≡ true
record_of_named null r e = cc
record_of_named (truth b) r e = cc
record_of_named (whole z) r e = cc
record_of_named (words s) r e = cc
record_of_named (items ts) r e = cc
record_of_named (members ms) r e =
    members_by ms r (text_at any_text (codes "is") ms) (text_at is_node_name (codes "node") ms) (chosen id_of (get_member (codes "id") ms)) (passes_in is_node_name (get_member (codes "node") ms)) e

-- ---- an open context

record IsNamed (node : List ℕ) (x : Context) : Type 0 where
  pub node_name : is_node_name node ≡ true
  pub own_ipx : are_ipx x.own_ipx ≡ true

opened_named_of : (node : List ℕ) (y x : Context) → bytes_eq y.node node ≡ true → is_well_named (Opened y) ≡ true → y ≡ x → IsNamed node x
opened_named_of node y x of named same =
    let a = and_parts (is_node_name y.node) _ named in
    let b = and_parts (is_node_name y.peer_node) _ a.1 in
    let c = and_parts (are_ipx y.own_ipx) _ b.1 in
    record { node_name = subst (λ n. is_node_name n ≡ true) ((bytes_eq-Decides y.node node).0 of) a.0; own_ipx = subst (λ z. are_ipx z.own_ipx ≡ true) same c.0 }

opened_here : (node : List ℕ) (r : Record) (rest : Option Context) (x : Context) → bytes_eq (node_of r) node ≡ true → is_well_named r ≡ true → (rest ≡ Some x → IsNamed node x) → option_or (opened_context r) rest ≡ Some x → IsNamed node x
opened_here node (Offered n i) rest x of named more e = more e
opened_here node (Opened y) rest x of named more e = opened_named_of node y x of named cc
opened_here node (Keyed n i k) rest x of named more e = more e
opened_here node (Sent n i k s m p) rest x of named more e = more e
opened_here node (Delivered n i k m p) rest x of named more e = more e
opened_here node (Closed n i) rest x of named more e = more e

first_named : (node : List ℕ) (id : ℕ) (rs : List Record) (x : Context) → list_all is_well_named rs ≡ true → first_of opened_context (own node id rs) ≡ Some x → IsNamed node x
first_named node id [] x all e = cc
first_named node id (r ∷ rs) x all e =
    let both = and_parts (is_well_named r) (list_all is_well_named rs) all in
    step (is_of node id r) refl e both.0 (λ e. first_named node id rs x both.1 e)
  where
    step : (b : Bool) → is_of node id r ≡ b → first_of opened_context (cond b (r ∷ own node id rs) (own node id rs)) ≡ Some x → is_well_named r ≡ true → (first_of opened_context (own node id rs) ≡ Some x → IsNamed node x) → IsNamed node x
    step false f e named more = more e
    step true f e named more = opened_here node r (first_of opened_context (own node id rs)) x (and_parts (bytes_eq (node_of r) node) (context_of r == id) f).0 named more e

open_named : (node : List ℕ) (id : ℕ) (rs : List Record) (x : Context) → list_all is_well_named rs ≡ true → open_context node id rs ≡ Some x → IsNamed node x
open_named node id rs x all e = tested (closed node id rs) e
  where
    tested : (b : Bool) → cond b None (opening node id rs) ≡ Some x → IsNamed node x
    tested true e = cc
    tested false e = first_named node id rs x all e

pub node_named : {X : Type 0} (view : X → Context) (node : List ℕ) (id : ℕ) (rs : List Record) (o : Option X) → list_all is_well_named rs ≡ true → option_map view o ≡ open_context node id rs → IfSome o (λ x. is_node_name node ≡ true)
node_named view node id rs None all e = tt
node_named view node id rs (Some x) all e = (open_named node id rs (view x) all (sym e)).node_name

pub ipx_in_form : {X : Type 0} (view : X → Context) (node : List ℕ) (id : ℕ) (rs : List Record) (o : Option X) → list_all is_well_named rs ≡ true → option_map view o ≡ open_context node id rs → IfSome o (λ x. are_ipx (view x).own_ipx ≡ true)
ipx_in_form view node id rs None all e = tt
ipx_in_form view node id rs (Some x) all e = (open_named node id rs (view x) all (sym e)).own_ipx
