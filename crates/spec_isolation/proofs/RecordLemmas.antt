-- What an event puts is a record of the context that the event is of.
use Rattle.std.proofs.Common.{◌≡◌, ℕ, Bool, true, false, ◌&&◌, List, [], ◌∷◌, ◌++◌, Option, Some, None, is_some, Result, Ok, Err, refl, sym, ap, ◌∙◌, subst}
use Rattle.std.specs.Prelude.{ℤ, bytes_eq, ◌==◌, option_and_then}
use Rattle.std.proofs.lemmas.Bool.{and_parts, eqb-true}
use Rattle.spec_documents.specs.Tree.{Tree}
use Rattle.spec_documents.specs.Chain.{◌>>=◌}
use Rattle.spec_messages.specs.Policy.{result_ok}
use Rattle.spec_records.specs.Records.{Record, Opened, Keyed, Offered, Closed, is_of, own}
use Rattle.spec_records.proofs.RecordLemmas.{own-append, own-append_other}
use Rattle.spec_exchange.specs.Isolation.{received_id, is_id}
use Rattle.spec_exchange.specs.Outside.{Reading, Read, ReadFails, BadRecord, Putting, Kept, Lost, KeptUntold, Outcome, behind_reading, or_refusal, with_put}
use Rattle.spec_exchange.specs.Outside as outside
use Rattle.spec_exchange.specs.Calls.{delivered_record, sent_record, protected}
use Rattle.spec_exchange.specs.Accepting.{first_failed}
use Rattle.spec_exchange.specs.Screens.{Passes}
use Rattle.spec_exchange.proofs.ChainLemmas.{bind_then, wanted_ok, ok_same, protected-ok}
use Rattle.spec_exchange.proofs.AcceptLemmas.{refused_ok, accepted-passed}
use Rattle.spec_exchange.proofs.IsolationLemmas.{own-one}
use Rattle.spec_handshake.specs.Documents.{Capability, Prins, Tls, Document, Supports, Chooses, Asks, Selects, Terminates, Terminated, document_of}
use Rattle.spec_handshake.specs.Refusals as handshake
use Rattle.spec_handshake.specs.Starts.{Offer, Start, ForSelection, waits}
use Rattle.spec_handshake.specs.Calls as calls
use Rattle.spec_handshake.proofs.StartLemmas.{found-in}
use Rattle.spec_script.specs.Refusals.{Refusal, NodeUnknown}
use Rattle.spec_script.specs.Events.{Event, AddNode, AddContext, AddKeys, Send, Pass, Inject, Alter, Deliver, Restart, Reported, StartWith, AnswerTo, FinishBy, Terminate, EndBy}
use Rattle.spec_script.specs.Choices.{Signing, Signs, SignerFails, Choices}
use Rattle.spec_script.specs.Steps.{State, Step, or_refuses, puts, known_node, known_document, plmn_at, wire_at, passes_on, step, context_with}
use Rattle.spec_script.specs.Offers.{offer_of}
use Rattle.spec_isolation.specs.Concerns.{sealed_for, context_named, handed_for, names, concerns}

-- ---- a record that may be put

-- it is of the context, or not, as b says
record Names (node : List ℕ) (id : ℕ) (b : Bool) (o : Option Record) : Type 0 where
  pub is : (r : Record) → o ≡ Some r → is_of node id r ≡ b

names_none : (node : List ℕ) (id : ℕ) (b : Bool) → Names node id b None
names_none node id b = record { is = λ r e. cc }

names_one : (node : List ℕ) (id : ℕ) (b : Bool) (item : Record) → is_of node id item ≡ b → Names node id b (Some item)
names_one node id b item h = record { is = λ r e. let same : item ≡ r = cc in ap (is_of node id) (sym same) ∙ h }

names_step : {A : Type 0} (node : List ℕ) (id : ℕ) (b : Bool) (s : State) (r : Result A Refusal) (k : A → Result Step Refusal)
    → ((x : A) → r ≡ Ok x → Names node id b (or_refuses s (k x)).put) → Names node id b (or_refuses s (r >>= k)).put
unfolding ◌>>=◌
names_step node id b s (Err e) k h = names_none node id b
names_step node id b s (Ok x) k h = h x refl

names_event : (node : List ℕ) (id : ℕ) (b : Bool) (s : State) (p : Putting) (name : List ℕ) (item : Record) → is_of node id item ≡ b → Names node id b (puts s p name item).put
names_event node id b s Kept name item h = names_one node id b item h
names_event node id b s Lost name item h = names_none node id b
names_event node id b s KeptUntold name item h = names_one node id b item h

names_put : {T : Type 0} (R : Type 0) (node : List ℕ) (id : ℕ) (b : Bool) (p : Putting) (item : Record) (x : T) → is_of node id item ≡ b → Names node id b (outside.puts {R = R} p item x).put
names_put R node id b Kept item x h = names_one node id b item h
names_put R node id b Lost item x h = names_none node id b
names_put R node id b KeptUntold item x h = names_one node id b item h

names_call : {X R T : Type 0} (node : List ℕ) (id : ℕ) (b : Bool) (reading : Reading) (r : Result X R) (k : X → Outcome R T)
    → ((x : X) → r ≡ Ok x → Names node id b (k x).put) → Names node id b (behind_reading reading (or_refusal r k)).put
names_call node id b Read (Ok x) k h = h x refl
names_call node id b Read (Err e) k h = names_none node id b
names_call node id b ReadFails r k h = names_none node id b
names_call node id b (BadRecord number) r k h = names_none node id b

-- ---- names

-- at a known node a record of that node and id is of the context as the event is
named_as : (node : List ℕ) (id : ℕ) (s : State) (n plmn : List ℕ) → known_node s n ≡ Ok plmn → (i : Option ℕ) (j : ℕ) → i ≡ Some j → (m : List ℕ) → m ≡ n
    → (bytes_eq m node && (j == id)) ≡ names node id s n i
named_as node id s n plmn known i j e m same =
    ap (λ z. bytes_eq z node && (j == id)) same
    ∙ (ap (λ o. bytes_eq n node && is_id o id) (sym e)
    ∙ sym (ap (λ b. b && (bytes_eq n node && is_id i id)) (ap is_some (wanted_ok (plmn_at s.sites n) NodeUnknown plmn known))))

-- ---- what the calls of the handshake put

names_reply : (node : List ℕ) (id : ℕ) (b : Bool) (p : Putting) (records : List Record) (n plmn : List ℕ) (offer : Offer) → (bytes_eq n node && (offer.id == id)) ≡ b
    → (d : Document) (y : calls.Replied) → calls.replies_to records n plmn offer d ≡ Ok y → Names node id b (calls.put_reply p y).put
names_reply node id b p records n plmn offer h (Supports call sender capabilities) y e =
    let P : calls.Replied → Type 0 = λ z. Names node id b (calls.put_reply p z).put in
    bind_then _ _ y e λ c ec e1. subst P (ok_same {E = handshake.Refusal} _ y e1) (names_none node id b)
names_reply node id b p records n plmn offer h (Asks a) y e =
    let P : calls.Replied → Type 0 = λ z. Names node id b (calls.put_reply p z).put in
    bind_then _ _ y e λ suite es e1.
    bind_then _ _ y e1 λ u eu e2.
    bind_then _ _ y e2 λ v ev e3.
    bind_then _ _ y e3 λ w ew e4.
    subst P (ok_same {E = handshake.Refusal} _ y e4) (names_put _ node id b p (Opened (calls.context_replying n offer a suite)) _ h)
names_reply node id b p records n plmn offer h (Chooses call sender c) y e = cc
names_reply node id b p records n plmn offer h (Selects a) y e = cc
names_reply node id b p records n plmn offer h (Terminates i) y e = cc
names_reply node id b p records n plmn offer h (Terminated i) y e = cc

names_choice : (node : List ℕ) (id : ℕ) (b : Bool) (p : Putting) (n plmn : List ℕ) (offer : Offer) (c : Capability) → Names node id b (calls.put_finished p (calls.after_choice n plmn offer c)).put
names_choice node id b p n plmn offer Prins = names_none node id b
names_choice node id b p n plmn offer Tls = names_none node id b

names_finish : (node : List ℕ) (id : ℕ) (b : Bool) (p : Putting) (records : List Record) (starts : List Start) (n plmn : List ℕ) (d : Document)
    → ((i : ℕ) → context_named d ≡ Some i → (bytes_eq n node && (i == id)) ≡ b)
    → (y : calls.Finished) → calls.finishes_with records starts n plmn d ≡ Ok y → Names node id b (calls.put_finished p y).put
names_finish node id b p records starts n plmn (Chooses call sender c) h y e =
    let P : calls.Finished → Type 0 = λ z. Names node id b (calls.put_finished p z).put in
    bind_then _ _ y e λ st es e1.
    bind_then _ _ y e1 λ u eu e2.
    subst P (ok_same {E = handshake.Refusal} _ y e2) (names_choice node id b p n plmn st.offer c)
names_finish node id b p records starts n plmn (Selects a) h y e =
    let P : calls.Finished → Type 0 = λ z. Names node id b (calls.put_finished p z).put in
    bind_then _ _ y e λ st es e1.
    bind_then _ _ y e1 λ u eu e2.
    bind_then _ _ y e2 λ v ev e3.
    bind_then _ _ y e3 λ w ew e4.
    let found = found-in (waits n a.call a.sender ForSelection) starts st (wanted_ok _ _ st es) in
    let called = and_parts (st.offer.id == a.call) _ (and_parts (bytes_eq st.node n) _ found.1).1 in
    let same : st.offer.id ≡ a.call = eqb-true st.offer.id a.call called.0 in
    subst P (ok_same {E = handshake.Refusal} _ y e4)
    (names_put _ node id b p (Opened (calls.context_finishing n st.offer a)) _ (ap (λ i. bytes_eq n node && (i == id)) same ∙ h a.call refl))
names_finish node id b p records starts n plmn (Supports call sender capabilities) h y e = cc
names_finish node id b p records starts n plmn (Asks a) h y e = cc
names_finish node id b p records starts n plmn (Terminates i) h y e = cc
names_finish node id b p records starts n plmn (Terminated i) h y e = cc

closes_id : (records : List Record) (n : List ℕ) (i : ℕ) (made : ℕ → Document) (c : calls.Closing) → calls.closes records n i made ≡ Ok c → i ≡ c.id
closes_id records n i made c e =
    bind_then _ _ c e λ x ex e1.
    bind_then _ _ c e1 λ u eu e2.
    ap (λ (z : calls.Closing). z.id) (ok_same {E = handshake.Refusal} _ c e2)

terminated_named : (d : Document) (i : ℕ) → calls.terminated_id d ≡ Ok i → context_named d ≡ Some i
terminated_named (Terminates j) i e = cc
terminated_named (Supports call sender capabilities) i e = cc
terminated_named (Chooses call sender c) i e = cc
terminated_named (Asks a) i e = cc
terminated_named (Selects a) i e = cc
terminated_named (Terminated j) i e = cc

-- the context that the document of a number names, which is read to d
handed_as : (s : State) (number : ℤ) (t : Tree) (d : Document) → known_document s number ≡ Ok t → calls.read_document t ≡ Ok d → option_and_then handed_for (wire_at s.wire number) ≡ context_named d
handed_as s number t d known read =
    ap (option_and_then handed_for) (wanted_ok _ _ t known) ∙ ap (λ r. option_and_then context_named (result_ok r)) (refused_ok _ (document_of t) d read)

-- ---- events

put_names : (passes : Passes) (s : State) (f : Choices) (node : List ℕ) (id : ℕ) (e : Event) → Names node id (concerns node id s e) (step passes s f e).put
put_names passes s f node id (AddNode n plmn) = names_step node id _ s _ _ λ u eu. names_none node id _
put_names passes s f node id (AddContext x) =
    names_step node id _ s _ _ λ plmn known. names_step node id _ s _ _ λ policy ep. names_step node id _ s _ _ λ read er. names_step node id _ s _ _ λ new en. names_step node id _ s _ _ λ room eo.
    names_event node id _ s f.keeper.putting _ (Opened (context_with x policy)) (named_as node id s x.node plmn known (Some x.id) x.id refl x.node refl)
put_names passes s f node id (AddKeys n i set) =
    names_step node id _ s _ _ λ plmn known. names_step node id _ s _ _ λ read er. names_step node id _ s _ _ λ x ex. names_step node id _ s _ _ λ new en. names_step node id _ s _ _ λ fit ef. names_step node id _ s _ _ λ room eo.
    names_event node id _ s f.keeper.putting _ (Keyed n i set) (named_as node id s n plmn known (Some i) i refl n refl)
put_names passes s f node id (Send n i t answers) =
    names_step node id _ s _ _ λ plmn known. names_step node id _ s _ _ λ room eo. names_step node id _ s _ _ λ m em.
    names_call node id _ f.keeper.reading (protected s.records n i m.0 m.1) _ λ y ey.
    let next = protected-ok s.records n i m.0 m.1 y ey in
    names_put _ node id _ f.keeper.putting (sent_record y) y (named_as node id s n plmn known (Some i) y.id (ap (λ j. Some j) (sym next.id_is)) y.node next.node_is)
put_names passes s f node id (Pass ipx number operations) = names_step node id _ s _ _ λ t et. names_step node id _ s _ _ λ room eo. passed f.signer t
  where
    passed : (g : Signing) (t : Tree) → Names node id false (or_refuses s (passes_on s g ipx operations t)).put
    passed (Signs g) t = names_step node id false s _ _ λ d ed. names_none node id false
    passed SignerFails t = names_step node id false s _ _ λ parts ed. names_none node id false
put_names passes s f node id (Inject t) = names_step node id _ s _ _ λ room eo. names_none node id _
put_names passes s f node id (Alter number ops) = names_step node id _ s _ _ λ t et. names_step node id _ s _ _ λ room eo. names_step node id _ s _ _ λ u eu. names_none node id _
put_names passes s f node id (Deliver n number) =
    names_step node id _ s _ _ λ plmn known. names_step node id _ s _ _ λ t et.
    names_call node id _ f.keeper.reading (first_failed passes f.verifier s.records n t) _ λ y ey.
    let passed = accepted-passed passes f.verifier s.records n t y ey in
    let sealed : option_and_then sealed_for (wire_at s.wire number) ≡ Some y.id = ap (option_and_then sealed_for) (wanted_ok _ _ t et) ∙ (ap received_id passed.form ∙ ap (λ i. Some i) (sym passed.id_is)) in
    names_put _ node id _ f.keeper.putting (delivered_record y) y (named_as node id s n plmn known _ y.id sealed y.node passed.new.node_is)
put_names passes s f node id (Restart n) = names_step node id _ s _ _ λ plmn known. names_none node id _
put_names passes s f node id (Reported n t) = names_step node id _ s _ _ λ plmn known. names_step node id _ s _ _ λ r er. names_none node id _
put_names passes s f node id (StartWith n peer x) =
    names_step node id _ s _ _ λ plmn known. names_step node id _ s _ _ λ room eo. names_step node id _ s _ _ λ policy ep.
    names_call node id _ f.keeper.reading (calls.begins s.records n (offer_of x policy)) _ λ d ed.
    names_put _ node id _ f.keeper.putting (Offered n x.id) d (named_as node id s n plmn known (Some x.id) x.id refl n refl)
put_names passes s f node id (AnswerTo n number x) =
    names_step node id _ s _ _ λ plmn known. names_step node id _ s _ _ λ t et. names_step node id _ s _ _ λ room eo. names_step node id _ s _ _ λ policy ep.
    names_call node id _ f.keeper.reading (calls.replies s.records n plmn (offer_of x policy) t) _ λ y ey.
    bind_then _ _ y ey λ d ed e1.
    names_reply node id _ f.keeper.putting s.records n plmn (offer_of x policy) (named_as node id s n plmn known (Some x.id) x.id refl n refl) d y e1
put_names passes s f node id (FinishBy n number) =
    names_step node id _ s _ _ λ plmn known. names_step node id _ s _ _ λ t et. names_step node id _ s _ _ λ room eo.
    names_call node id _ f.keeper.reading (calls.finishes s.records s.starts n plmn t) _ λ y ey.
    bind_then _ _ y ey λ d ed e1.
    names_finish node id _ f.keeper.putting s.records s.starts n plmn d (λ i ei. named_as node id s n plmn known _ i (handed_as s number t d et ed ∙ ei) n refl) y e1
put_names passes s f node id (Terminate n i) =
    names_step node id _ s _ _ λ plmn known. names_step node id _ s _ _ λ room eo.
    names_call node id _ f.keeper.reading (calls.closes s.records n i Terminates) _ λ c ec.
    names_put _ node id _ f.keeper.putting (Closed n c.id) c (named_as node id s n plmn known (Some i) c.id (ap (λ j. Some j) (closes_id s.records n i Terminates c ec)) n refl)
put_names passes s f node id (EndBy n number) =
    names_step node id _ s _ _ λ plmn known. names_step node id _ s _ _ λ t et. names_step node id _ s _ _ λ room eo.
    names_call node id _ f.keeper.reading (calls.closes_by s.records n t) _ λ c ec.
    bind_then _ _ c ec λ d ed e1.
    bind_then _ _ c e1 λ i ei e2.
    names_put _ node id _ f.keeper.putting (Closed n c.id) c
    (named_as node id s n plmn known _ c.id (handed_as s number t d et ed ∙ (terminated_named d i ei ∙ ap (λ j. Some j) (closes_id s.records n i Terminated c e2))) n refl)

-- ---- the records of a context after an event

kept_apart : (node : List ℕ) (id : ℕ) (records : List Record) (o : Option Record) → Names node id false o → own node id (with_put records o) ≡ own node id records
kept_apart node id records None h = refl
kept_apart node id records (Some r) h = own-append_other node id records r (h.is r refl)

kept_own : (node : List ℕ) (id : ℕ) (records : List Record) (o : Option Record) → Names node id true o → own node id (with_put records o) ≡ with_put (own node id records) o
kept_own node id records None h = refl
kept_own node id records (Some r) h = own-append node id records (r ∷ []) ∙ ap (λ rs. own node id records ++ rs) (own-one node id r (h.is r refl))

pub other_event : (passes : Passes) (s : State) (f : Choices) (node : List ℕ) (id : ℕ) (e : Event) → concerns node id s e ≡ false → own node id (with_put s.records (step passes s f e).put) ≡ own node id s.records
other_event passes s f node id e h =
    let P : Bool → Type 0 = λ b. Names node id b (step passes s f e).put in
    kept_apart node id s.records (step passes s f e).put (subst P h (put_names passes s f node id e))

pub own_event : (passes : Passes) (s : State) (f : Choices) (node : List ℕ) (id : ℕ) (e : Event) → concerns node id s e ≡ true → own node id (with_put s.records (step passes s f e).put) ≡ with_put (own node id s.records) (step passes s f e).put
own_event passes s f node id e h =
    let P : Bool → Type 0 = λ b. Names node id b (step passes s f e).put in
    kept_own node id s.records (step passes s f e).put (subst P h (put_names passes s f node id e))
