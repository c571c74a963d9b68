-- Each event of a script is a happening of handshakes, or none that matters to them.
use Rattle.std.proofs.Common.{◌≡◌, ℕ, true, false, List, ◌++◌, pos, negsuc, Option, Some, None, Result, Ok, Err, refl, ap, ◌∙◌, subst}
use Rattle.std.specs.Prelude.{⊤, ℤ, slice_get}
use Rattle.spec_documents.specs.Tree.{Tree}
use Rattle.spec_documents.specs.Chain.{◌>>=◌, or_refused}
use Rattle.spec_messages.specs.Policy.{Policy}
use Rattle.spec_messages.specs.PolicyDocument.{policy_of, ReadsBack}
use Rattle.spec_messages.proofs.PolicyBack.{policy_back}
use Rattle.spec_records.specs.Records.{Record, Keyed, KeySet, takes_id}
use Rattle.spec_exchange.specs.Outside.{Choice, Cause, no_fault, Reading, Read, ReadFails, BadRecord, Putting, Kept, Lost, KeptUntold, Outcome, behind_reading, or_refusal, with_put}
use Rattle.spec_exchange.specs.Outside as outside
use Rattle.spec_exchange.specs.Calls.{protected, sends, sent_record, accepted, delivered_record}
use Rattle.spec_exchange.specs.Accepting.{first_failed}
use Rattle.spec_exchange.specs.Screens.{Passes}
use Rattle.spec_handshake.specs.Documents.{Document, document_tree}
use Rattle.spec_handshake.specs.Refusals as handshake
use Rattle.spec_handshake.specs.Starts.{Offer}
use Rattle.spec_handshake.specs.Forms.{IsNode, IsPlmn, IsOffer}
use Rattle.spec_handshake.specs.Calls as calls
use Rattle.spec_handshake.specs.Runs.{World, with_made, made_by, reply_document, next_document, answers_at, finishes_at, NodeStarts, NodeAnswers, NodeFinishes, NodeTerminates, NodeEnds, NodeRestarts, Puts}
use Rattle.spec_handshake.specs.Agreement.{Invariant, Stands}
use Rattle.spec_handshake.proofs.Runs.{happens-keeps}
use Rattle.spec_handshake.proofs.Chains.{wanted_ok}
use Rattle.spec_script.specs.Refusals.{Refusal, BadPolicy}
use Rattle.spec_script.specs.Events.{Event, AddNode, AddContext, AddKeys, Send, Pass, Inject, Alter, Deliver, Restart, Reported, StartWith, AnswerTo, FinishBy, Terminate, EndBy}
use Rattle.spec_script.specs.Offers.{HandedOffer, offer_of}
use Rattle.spec_script.specs.Choices.{Signing, Signs, SignerFails, Choices, of_accepting}
use Rattle.spec_script.specs.Steps.{State, Step, after, refuses, or_refuses, next_number, puts, adds_node, injects, forwards, reports, keys_up, passes_on, sends_sealed, delivers, restarts, starts_with, answers_to, finishes_by, closes, replied_answer, finished_answer, plmn_at, known_node, known_document, policy_to_hold, wire_at, step, step_with}
use Rattle.spec_agreement.specs.ByHandshakes.{Said, number_told, number_made, is_among, shakes_hands}
use Rattle.spec_agreement.proofs.EventForms.{OfferHasForm, HasForm}
use Rattle.spec_agreement.proofs.EventForms as forms
use Rattle.spec_agreement.proofs.Following.{Follows, sited_at, sited_more, goes_on, next_numbers, shaken}

-- the nodes, records and starts of a state as those of handshakes
abbrev world : State → List Document → World
world s made = record { records = s.records; starts = s.starts; made = made }

-- ---- a record of another kind

abbrev IsPlain : Option Record → Type 0
IsPlain None = ⊤
IsPlain (Some r) = takes_id r ≡ false

-- a call puts such a record, or none
record PutsPlain {R T : Type 0} (o : Outcome R T) : Type 0 where
  is : IsPlain o.put

plain_puts : {R T : Type 0} (p : Putting) (r : Record) (x : T) → takes_id r ≡ false → PutsPlain {R = R} (outside.puts p r x)
plain_puts Kept r x e = record { is = e }
plain_puts Lost r x e = record { is = tt }
plain_puts KeptUntold r x e = record { is = e }

plain_chain : {R X T : Type 0} (r : Result X R) (k : X → Outcome R T) → ((x : X) → PutsPlain (k x)) → PutsPlain (or_refusal r k)
plain_chain (Ok x) k h = h x
plain_chain (Err d) k h = record { is = tt }

plain_read : {R T : Type 0} (reading : Reading) (o : Outcome R T) → PutsPlain o → PutsPlain (behind_reading reading o)
plain_read Read o h = h
plain_read ReadFails o h = record { is = tt }
plain_read (BadRecord k) o h = record { is = tt }

plain_put : (s : State) (made : List Document) (o : Option Record) → Invariant s.records s.starts made → IsPlain o → Invariant (with_put s.records o) s.starts made
plain_put s made None inv e = inv
plain_put s made (Some r) inv e = happens-keeps (world s made) no_fault (Puts r) inv e

puts_follow : (s : State) (numbers : List ℕ) → Follows s numbers → (p : Putting) (name : List ℕ) (r : Record) → takes_id r ≡ false → Follows (after s (puts s p name r)) numbers
puts_follow s numbers h Kept name r e = goes_on s numbers h (puts s Kept name r) (plain_put s h.made (Some r) h.stands e) h.sited
puts_follow s numbers h Lost name r e = h
puts_follow s numbers h KeptUntold name r e = goes_on s numbers h (puts s KeptUntold name r) (plain_put s h.made (Some r) h.stands e) h.sited

-- ---- chains

-- of a refusal, and of what follows the check
checked_by : {A : Type 0} (P : Step → Type 0) (s : State) (r : Result A Refusal) (k : A → Result Step Refusal)
    → ((e : Refusal) → P (refuses s e)) → ((x : A) → r ≡ Ok x → P (or_refuses s (k x))) → P (or_refuses s (r >>= k))
unfolding ◌>>=◌
checked_by P s (Err e) k refused h = refused e
checked_by P s (Ok x) k refused h = h x refl

-- after an event that makes nothing
abbrev Then : State → List ℕ → Step → Type 0
Then s numbers r = Follows (after s r) numbers

-- after one that makes a document, where it isn't refused
abbrev ThenMade : State → List ℕ → Step → Type 0
ThenMade s numbers r = Follows (after s r) (number_told r.answer ++ numbers)

keyed_follows : (s : State) (numbers : List ℕ) → Follows s numbers → (f : Choice) (node : List ℕ) (id : ℕ) (set : KeySet) → Then s numbers (or_refuses s (keys_up s f node id set))
keyed_follows s numbers h f node id set =
    checked_by (Then s numbers) s _ _ (λ e. h) λ read i. checked_by (Then s numbers) s _ _ (λ e. h) λ x j. checked_by (Then s numbers) s _ _ (λ e. h) λ new k.
    checked_by (Then s numbers) s _ _ (λ e. h) λ fit l. checked_by (Then s numbers) s _ _ (λ e. h) λ room m. puts_follow s numbers h f.putting _ (Keyed node id set) refl

passed_follows : (s : State) (numbers : List ℕ) → Follows s numbers → (signing : Signing) (ipx : List ℕ) (operations t : Tree) → Then s numbers (or_refuses s (passes_on s signing ipx operations t))
passed_follows s numbers h (Signs g) ipx operations t = checked_by (Then s numbers) s _ _ (λ e. h) λ d i. goes_on s numbers h (forwards s d) h.stands h.sited
passed_follows s numbers h SignerFails ipx operations t = checked_by (Then s numbers) s _ _ (λ e. h) λ parts i. h

-- ---- what handshakes need

network_known : (s : State) (numbers : List ℕ) → Follows s numbers → (node plmn : List ℕ) → known_node s node ≡ Ok plmn → IsPlmn plmn
network_known s numbers h node plmn e = sited_at s.sites node plmn h.sited (wanted_ok (plmn_at s.sites node) _ plmn e)

policy_known : (t : Tree) (policy : Policy) → policy_to_hold t ≡ Ok policy → ReadsBack policy
policy_known t policy e = by (policy_of t) refl e
  where
    by : (r : Result Policy ℕ) → policy_of t ≡ r → or_refused BadPolicy r ≡ Ok policy → ReadsBack policy
    by (Ok p) f g = policy_back t policy (let same : p ≡ policy = cc in f ∙ ap Ok same)
    by (Err k) f g = cc

offered : (x : HandedOffer) (t : Tree) (policy : Policy) → OfferHasForm x → policy_to_hold t ≡ Ok policy → IsOffer (offer_of x policy)
offered x t policy h e = record { id = h.id; policy = policy_known t policy e; ipx = h.ipx }

-- the document that is named was made
named : (s : State) (numbers : List ℕ) (h : Follows s numbers) (number : ℤ) (t : Tree) → is_among numbers number ≡ true → known_document s number ≡ Ok t
    → (place : ℕ) × (d : Document) × (slice_get h.made place ≡ Some d) × (document_tree d ≡ t)
named s numbers h (pos k) t among e =
    let n = h.names k among in
    let there : wire_at s.wire (pos k) ≡ Some t = wanted_ok (wire_at s.wire (pos k)) _ t e in
    (n.place, n.document, n.is_made, (let same : document_tree n.document ≡ t = cc in same))
named s numbers h (negsuc k) t among e = cc

-- ---- calls of the handshake

started : (s : State) (numbers : List ℕ) (h : Follows s numbers) (f : Choice) (node peer : List ℕ) (offer : Offer) → IsNode node → IsOffer offer → ThenMade s numbers (starts_with s f node peer offer)
started s numbers h f node peer offer n o =
    shaken s numbers h _ Some _ (calls.start f s.records node offer) (λ d. refl) (happens-keeps (world s h.made) f (NodeStarts node peer offer) h.stands (n, o))

reply_tells : (s : State) (x : calls.Replied) → number_told (replied_answer (next_number s) x) ≡ next_numbers s (reply_document x)
reply_tells s (calls.Chose d) = refl
reply_tells s (calls.OpenedBy d x) = refl

answered : (s : State) (numbers : List ℕ) (h : Follows s numbers) (f : Choice) (node plmn : List ℕ) (offer : Offer) → IsNode node → IsPlmn plmn → IsOffer offer
    → (place : ℕ) (d : Document) → slice_get h.made place ≡ Some d → ThenMade s numbers (answers_to s f node plmn offer (document_tree d))
answered s numbers h f node plmn offer n l o place d at =
    let w = world s h.made in
    let P : Option Document → Type 0 = λ z. Stands (answers_at w f node plmn offer z) in
    shaken s numbers h (replied_answer (next_number s)) reply_document s.starts (calls.answer f s.records node plmn offer (document_tree d)) (reply_tells s)
    (subst P at (happens-keeps w f (NodeAnswers node plmn offer place) h.stands (n, (l, o))))

finish_tells : (s : State) (x : calls.Finished) → number_told (finished_answer (next_number s) x) ≡ next_numbers s (next_document x)
finish_tells s (calls.Next d) = refl
finish_tells s (calls.OpenedAs x) = refl
finish_tells s calls.EndedTls = refl

finished : (s : State) (numbers : List ℕ) (h : Follows s numbers) (f : Choice) (node plmn : List ℕ) → IsNode node → IsPlmn plmn
    → (place : ℕ) (d : Document) → slice_get h.made place ≡ Some d → ThenMade s numbers (finishes_by s f node plmn (document_tree d))
finished s numbers h f node plmn n l place d at =
    let w = world s h.made in
    let P : Option Document → Type 0 = λ z. Stands (finishes_at w f node plmn z) in
    shaken s numbers h (finished_answer (next_number s)) next_document _ (calls.finish f s.records s.starts node plmn (document_tree d)) (finish_tells s)
    (subst P at (happens-keeps w f (NodeFinishes node plmn place) h.stands (n, l)))

-- a call that makes no document for a handshake
none_made : {T : Type 0} (r : Result T (Cause handshake.Refusal)) → made_by (λ x. None) r ≡ None
none_made (Ok x) = refl
none_made (Err e) = refl

closed : (s : State) (numbers : List ℕ) (h : Follows s numbers) (o : Outcome handshake.Refusal calls.Closing)
    → Invariant (with_put s.records o.put) s.starts (with_made h.made (made_by (λ x. None) o.result)) → Then s numbers (closes s o)
closed s numbers h o inv =
    let P : Option Document → Type 0 = λ z. Invariant (with_put s.records o.put) s.starts (with_made h.made z) in
    goes_on s numbers h (closes s o) (subst P (none_made o.result) inv) h.sited

-- ---- events

event_follows : (passes : Passes) (s : State) (f : Choices) (numbers : List ℕ) → Follows s numbers → (e : Event) → HasForm e → shakes_hands numbers (Ok e) ≡ true
    → Follows (after s (step passes s f e)) (number_made (Ok e) (step passes s f e).answer ++ numbers)
event_follows passes s f numbers h (AddNode node plmn) form by =
    checked_by (Then s numbers) s _ _ (λ e. h) λ new i. goes_on s numbers h (adds_node s node plmn) h.stands (sited_more s.sites (record { node = node; plmn = plmn }) h.sited form)
event_follows passes s f numbers h (AddContext x) form by = cc
event_follows passes s f numbers h (AddKeys node id set) form by = checked_by (Then s numbers) s _ _ (λ e. h) λ plmn i. keyed_follows s numbers h f.keeper node id set
event_follows passes s f numbers h (Send node id t answers) form by =
    checked_by (Then s numbers) s _ _ (λ e. h) λ plmn i. checked_by (Then s numbers) s _ _ (λ e. h) λ room j. checked_by (Then s numbers) s _ _ (λ e. h) λ m k.
    goes_on s numbers h (sends_sealed s (sends f.keeper s.records node id m.0 m.1))
    (plain_put s h.made (sends f.keeper s.records node id m.0 m.1).put h.stands
    (plain_read f.keeper.reading _ (plain_chain (protected s.records node id m.0 m.1) _ λ y. plain_puts f.keeper.putting (sent_record y) y refl)).is)
    h.sited
event_follows passes s f numbers h (Pass ipx number operations) form by =
    checked_by (Then s numbers) s _ _ (λ e. h) λ t i. checked_by (Then s numbers) s _ _ (λ e. h) λ room j. passed_follows s numbers h f.signer ipx operations t
event_follows passes s f numbers h (Inject t) form by = checked_by (Then s numbers) s _ _ (λ e. h) λ room i. goes_on s numbers h (injects s t) h.stands h.sited
event_follows passes s f numbers h (Alter number ops) form by =
    checked_by (Then s numbers) s _ _ (λ e. h) λ t i. checked_by (Then s numbers) s _ _ (λ e. h) λ room j. checked_by (Then s numbers) s _ _ (λ e. h) λ u k. goes_on s numbers h (forwards s u) h.stands h.sited
event_follows passes s f numbers h (Deliver node number) form by =
    checked_by (Then s numbers) s _ _ (λ e. h) λ plmn i. checked_by (Then s numbers) s _ _ (λ e. h) λ t j.
    goes_on s numbers h (delivers s t (accepted passes (of_accepting f) s.records node t))
    (plain_put s h.made (accepted passes (of_accepting f) s.records node t).put h.stands
    (plain_read f.keeper.reading _ (plain_chain (first_failed passes f.verifier s.records node t) _ λ y. plain_puts f.keeper.putting (delivered_record y) y refl)).is)
    h.sited
event_follows passes s f numbers h (Restart node) form by =
    checked_by (Then s numbers) s _ _ (λ e. h) λ plmn i. goes_on s numbers h (restarts s node) (happens-keeps (world s h.made) f.keeper (NodeRestarts node) h.stands tt) h.sited
event_follows passes s f numbers h (Reported node t) form by =
    checked_by (Then s numbers) s _ _ (λ e. h) λ plmn i. checked_by (Then s numbers) s _ _ (λ e. h) λ r j. goes_on s numbers h (reports s r) h.stands h.sited
event_follows passes s f numbers h (StartWith node peer x) form by =
    checked_by (ThenMade s numbers) s _ _ (λ e. h) λ plmn i. checked_by (ThenMade s numbers) s _ _ (λ e. h) λ room j. checked_by (ThenMade s numbers) s _ _ (λ e. h) λ policy k.
    started s numbers h f.keeper node peer (offer_of x policy) form.0 (offered x x.policy policy form.1 k)
event_follows passes s f numbers h (AnswerTo node number x) form by =
    checked_by (ThenMade s numbers) s _ _ (λ e. h) λ plmn i. checked_by (ThenMade s numbers) s _ _ (λ e. h) λ t j. checked_by (ThenMade s numbers) s _ _ (λ e. h) λ room k.
    checked_by (ThenMade s numbers) s _ _ (λ e. h) λ policy l.
    let n = named s numbers h number t by j in
    let P : Tree → Type 0 = λ z. ThenMade s numbers (answers_to s f.keeper node plmn (offer_of x policy) z) in
    subst P n.3 (answered s numbers h f.keeper node plmn (offer_of x policy) form.0 (network_known s numbers h node plmn i) (offered x x.policy policy form.1 l) n.0 n.1 n.2)
event_follows passes s f numbers h (FinishBy node number) form by =
    checked_by (ThenMade s numbers) s _ _ (λ e. h) λ plmn i. checked_by (ThenMade s numbers) s _ _ (λ e. h) λ t j. checked_by (ThenMade s numbers) s _ _ (λ e. h) λ room k.
    let n = named s numbers h number t by j in
    let P : Tree → Type 0 = λ z. ThenMade s numbers (finishes_by s f.keeper node plmn z) in
    subst P n.3 (finished s numbers h f.keeper node plmn form (network_known s numbers h node plmn i) n.0 n.1 n.2)
event_follows passes s f numbers h (Terminate node id) form by =
    checked_by (Then s numbers) s _ _ (λ e. h) λ plmn i. checked_by (Then s numbers) s _ _ (λ e. h) λ room j.
    closed s numbers h (calls.terminate f.keeper s.records node id) (happens-keeps (world s h.made) f.keeper (NodeTerminates node id) h.stands tt)
event_follows passes s f numbers h (EndBy node number) form by =
    checked_by (Then s numbers) s _ _ (λ e. h) λ plmn i. checked_by (Then s numbers) s _ _ (λ e. h) λ t j. checked_by (Then s numbers) s _ _ (λ e. h) λ room k.
    closed s numbers h (calls.ended f.keeper s.records node t) (happens-keeps (world s h.made) f.keeper (NodeEnds node t) h.stands tt)

pub said_follows : (passes : Passes) (s : State) (f : Choices) (numbers : List ℕ) → Follows s numbers → (e : Said) → forms.Read HasForm e → shakes_hands numbers e ≡ true
    → Follows (after s (step_with passes s f e)) (number_made e (step_with passes s f e).answer ++ numbers)
said_follows passes s f numbers h (Ok e) form by = event_follows passes s f numbers h e (form.is e refl) by
said_follows passes s f numbers h (Err d) form by = h
