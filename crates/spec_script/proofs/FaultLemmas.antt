-- Faults of the outside: how many are answered, and what is answered without them.
use Rattle.std.proofs.Common.{◌≡◌, ℕ, ◌+◌, ◌≤◌, Bool, true, false, List, [], ◌∷◌, Option, Some, Result, Ok, Err, refl, sym, ap, ◌∙◌, cond, arith}
use Rattle.std.specs.Prelude.{count_by}
use Rattle.std.proofs.lemmas.List.Sums.{sum_by-cons}
use Rattle.spec_records.specs.Records.{KeySet, Context, Record}
use Rattle.spec_documents.specs.Tree.{Tree}
use Rattle.spec_sealing.specs.Received.{Received}
use Rattle.spec_sealing.specs.Entries.{signed_entry}
use Rattle.spec_sealing.specs.Passing.{tag_text, with_room, with_entry}
use Rattle.spec_exchange.specs.Chain.{◌>>=◌, or_refused}
use Rattle.spec_exchange.specs.AcceptRefusals as accepting
use Rattle.spec_exchange.specs.Calls.{accepted, Sealed, delivered_record, sent_record, protected}
use Rattle.spec_exchange.specs.SendingRefusals as sending
use Rattle.spec_exchange.specs.Outside.{Choice, Cause, Own, Outside, no_fault, Reading, Read, ReadFails, BadRecord, Putting, Kept, Lost, KeptUntold, Outcome, behind_reading, or_refusal}
use Rattle.spec_exchange.specs.Outside as outside
use Rattle.spec_exchange.specs.Stages.{Delivery}
use Rattle.spec_handshake.specs.Documents.{Document, Terminates, document_tree}
use Rattle.spec_handshake.specs.Refusals as handshake
use Rattle.spec_handshake.specs.Starts.{Offer, Start}
use Rattle.spec_handshake.specs.Calls as calls
use Rattle.spec_handshake.specs.Runs.{reply_document, next_document}
use Rattle.spec_script.specs.Refusals.{Refusal, BadForm, SignerFailed}
use Rattle.spec_script.specs.Events.{Event, AddNode, AddContext, AddKeys, Send, Pass, Inject, Alter, Deliver, Restart, Reported, StartWith, AnswerTo, FinishBy, Terminate, EndBy}
use Rattle.spec_script.specs.Choices.{Signer, Signing, Signs, SignerFails, Choices, Meanings, SignsBy, VerifiesBy, IsBy, unfailing, of_accepting}
use Rattle.spec_script.specs.Steps.{State, Answer, Step, or_refuses, puts, forwards, sends_sealed, sealed_answer, delivers, delivery_answer, has_read, passes_on, opens, keys_up, step, step_with, Forwards, next_number, call_answer, shakes, replied_answer, finished_answer, starts_with, answers_to, finishes_by, closes}
use Rattle.spec_script.specs.Output.{RoseBy, HaveCauses, count_after, has_refusal, is_verifier_failure, is_outside_refusal}
use Rattle.spec_script.specs.Offers.{offer_of}
use Rattle.spec_script.proofs.HandLemmas.{IsTold, forwards_told, replied_told, finished_told}
use Rattle.spec_script.proofs.VerifierLemmas.{SameChecks, accepting-same}

-- ---- counts

-- first no more, and then one more
RoseBy-zero : (a b : ℕ) → a ≤ b → RoseBy 0 a b
RoseBy-zero a b h = omega arith

RoseBy-append : (n m a b c : ℕ) → RoseBy n a b → RoseBy m b c → RoseBy (n + m) a c
RoseBy-append n m a b c h k = omega arith

one_step : (b : Bool) (before now : ℕ) → before ≤ now → (b ≡ true → RoseBy 1 before now) → RoseBy (cond b 1 0) before now
one_step true before now h k = k refl
one_step false before now h k = RoseBy-zero before now h

pub counted_faults : (p : Answer → Bool) (before : ℕ) (steps : List (Answer × ℕ)) → HaveCauses p before steps → RoseBy (count_by (λ (x : Answer × ℕ). p x.0) steps) before (count_after before steps)
counted_faults p before [] h = RoseBy-zero before before (omega arith)
counted_faults p before (x ∷ xs) h =
    rw (sum_by-cons (λ (y : Answer × ℕ). cond (p y.0) 1 0) x xs)
    (RoseBy-append (cond (p x.0) 1 0) (count_by (λ (y : Answer × ℕ). p y.0) xs) before x.1 (count_after x.1 xs) (one_step (p x.0) before x.1 h.0 h.1) (counted_faults p x.1 xs h.2))

-- ---- what is answered without faults

-- a step is the other, where it answers no fault
pub record SameStep (r q : Step) : Type 0 where
  pub is : has_refusal is_outside_refusal r.answer ≡ false → r ≡ q

step_self : (r : Step) → SameStep r r
step_self r = record { is = λ e. refl }

step_bind : {A : Type 0} (s : State) (r : Result A Refusal) (k k' : A → Result Step Refusal) → ((x : A) → SameStep (or_refuses s (k x)) (or_refuses s (k' x))) → SameStep (or_refuses s (r >>= k)) (or_refuses s (r >>= k'))
unfolding ◌>>=◌
step_bind s (Err e) k k' h = step_self _
step_bind s (Ok x) k k' h = h x

step_read : (s : State) (reading : Reading) (k k' : Unit {0} → Result Step Refusal) → SameStep (or_refuses s (k tt)) (or_refuses s (k' tt)) → SameStep (or_refuses s (has_read reading >>= k)) (or_refuses s (has_read Read >>= k'))
unfolding ◌>>=◌
step_read s Read k k' h = h
step_read s ReadFails k k' h = record { is = λ e. cc }
step_read s (BadRecord n) k k' h = record { is = λ e. cc }

step_puts : (s : State) (p : Putting) (name : List ℕ) (r : Record) → SameStep (puts s p name r) (puts s Kept name r)
step_puts s Kept name r = step_self _
step_puts s Lost name r = record { is = λ e. cc }
step_puts s KeptUntold name r = record { is = λ e. cc }

-- a call is the other, where it answers no fault of the outside. Some refusals of its own are such faults
abbrev faulty : {R T : Type 0} → (R → Bool) → Result T (Cause R) → Bool
faulty bad (Ok x) = false
faulty bad (Err (Own refusal)) = bad refusal
faulty bad (Err (Outside fault)) = true

record SameCall {R T : Type 0} (bad : R → Bool) (o p : Outcome R T) : Type 0 where
  is : faulty bad o.result ≡ false → o ≡ p

call_self : {R T : Type 0} (bad : R → Bool) (o : Outcome R T) → SameCall bad o o
call_self bad o = record { is = λ e. refl }

call_read : {R T : Type 0} (bad : R → Bool) (reading : Reading) (o p : Outcome R T) → SameCall bad o p → SameCall bad (behind_reading reading o) (behind_reading Read p)
call_read bad Read o p h = h
call_read bad ReadFails o p h = record { is = λ e. cc }
call_read bad (BadRecord k) o p h = record { is = λ e. cc }

call_puts : {R T : Type 0} (bad : R → Bool) (p : Putting) (r : Record) (x : T) → SameCall {R = R} bad (outside.puts p r x) (outside.puts Kept r x)
call_puts bad Kept r x = call_self bad _
call_puts bad Lost r x = record { is = λ e. cc }
call_puts bad KeptUntold r x = record { is = λ e. cc }

call_chain : {R X : Type 0} (bad : R → Bool) (p : Putting) (item : X → Record) (r q : Result X R) → SameChecks bad r q
    → SameCall bad (or_refusal r (λ y. outside.puts p (item y) y)) (or_refusal q (λ y. outside.puts Kept (item y) y))
call_chain bad p item (Ok x) q h = record { is = λ e. (call_puts bad p (item x) x).is e ∙ ap (λ z. or_refusal z (λ y. outside.puts Kept (item y) y)) (h.is refl) }
call_chain bad p item (Err d) q h = record { is = λ e. ap (λ z. or_refusal z (λ y. outside.puts Kept (item y) y)) (h.is e) }

abbrev no_failure : sending.Refusal → Bool
no_failure refusal = false

sealed_faulty : (n : ℕ) (r : Result Sealed (Cause sending.Refusal)) → has_refusal is_outside_refusal (sealed_answer n r) ≡ faulty no_failure r
sealed_faulty n (Ok x) = refl
sealed_faulty n (Err (Own refusal)) = refl
sealed_faulty n (Err (Outside fault)) = refl

delivery_faulty : (t : Tree) (r : Result Delivery (Cause accepting.Refusal)) → has_refusal is_outside_refusal (delivery_answer t r) ≡ faulty is_verifier_failure r
delivery_faulty t (Ok x) = refl
delivery_faulty t (Err (Own refusal)) = refl
delivery_faulty t (Err (Outside fault)) = refl

sealed-same : (s : State) (o p : Outcome sending.Refusal Sealed) → SameCall no_failure o p → SameStep (sends_sealed s o) (sends_sealed s p)
sealed-same s o p h = record { is = λ z. ap (sends_sealed s) (h.is (sym (sealed_faulty _ o.result) ∙ z)) }

delivery-same : (s : State) (t : Tree) (o p : Outcome accepting.Refusal Delivery) → SameCall is_verifier_failure o p → SameStep (delivers s t o) (delivers s t p)
delivery-same s t o p h = record { is = λ z. ap (delivers s t) (h.is (sym (delivery_faulty t o.result) ∙ z)) }

-- a document is accepted as without faults
accepted-same : (m : Meanings) (f : Choices) → VerifiesBy m.verifier f.verifier → (records : List Record) (node : List ℕ) (t : Tree)
    → SameCall is_verifier_failure (accepted m.passes (of_accepting f) records node t) (accepted m.passes (of_accepting (unfailing m)) records node t)
accepted-same m f by records node t = call_read is_verifier_failure f.keeper.reading _ _
    (call_chain is_verifier_failure f.keeper.putting delivered_record _ _
    (rw by.is (accepting-same m.passes m.verifier by.failing records node t)))

-- a signer that fails is told behind the document's form
unsigned : (s : State) (g : Signer) (ipx : List ℕ) (operations t : Tree) (r : Result Received (List ℕ))
    → SameStep (or_refuses s (or_refused BadForm r >>= λ parts. Err SignerFailed)) (or_refuses s (or_refused BadForm (r >>= λ parts. Ok (with_entry t parts.entries (signed_entry g.algorithm ipx operations (tag_text parts.jwe) (g.sign ipx)))) >>= λ d. Ok (forwards s d)))
unfolding ◌>>=◌
unsigned s g ipx operations t (Ok parts) = record { is = λ e. cc }
unsigned s g ipx operations t (Err member) = step_self _

passed-same : (s : State) (g : Signer) (signing : Signing) (ipx : List ℕ) (operations t : Tree) → SignsBy g signing → SameStep (or_refuses s (passes_on s signing ipx operations t)) (or_refuses s (passes_on s (Signs g) ipx operations t))
passed-same s g (Signs signer) ipx operations t by = rw by (step_self _)
passed-same s g SignerFails ipx operations t by = unsigned s g ipx operations t (with_room t)

opens-same : (s : State) (f : Choice) (x : Context) → SameStep (or_refuses s (opens s f x)) (or_refuses s (opens s no_fault x))
opens-same s f x = step_read s f.reading _ _ (step_bind s _ _ _ λ new. step_bind s _ _ _ λ room. step_puts s f.putting _ _)

keys-same : (s : State) (f : Choice) (node : List ℕ) (id : ℕ) (set : KeySet) → SameStep (or_refuses s (keys_up s f node id set)) (or_refuses s (keys_up s no_fault node id set))
keys-same s f node id set = step_read s f.reading _ _ (step_bind s _ _ _ λ x. step_bind s _ _ _ λ new. step_bind s _ _ _ λ fit. step_bind s _ _ _ λ room. step_puts s f.putting _ _)

-- ---- calls of the handshake, none of whose own refusals is a fault of the outside

abbrev no_fault_of : handshake.Refusal → Bool
no_fault_of refusal = false

call_each : {R X T : Type 0} (bad : R → Bool) (r : Result X R) (k l : X → Outcome R T) → ((x : X) → SameCall bad (k x) (l x)) → SameCall bad (or_refusal r k) (or_refusal r l)
call_each bad (Ok x) k l h = h x
call_each bad (Err d) k l h = call_self bad _

shaken_faulty : {T : Type 0} (told : T → Answer) → ((x : T) → has_refusal is_outside_refusal (told x) ≡ false) → (r : Result T (Cause handshake.Refusal)) → has_refusal is_outside_refusal (call_answer told r) ≡ faulty no_fault_of r
shaken_faulty told fine (Ok x) = fine x
shaken_faulty told fine (Err (Own refusal)) = refl
shaken_faulty told fine (Err (Outside fault)) = refl

shaken-same : {T : Type 0} (s : State) (told : T → Answer) (made : T → Option Document) (starts : Outcome handshake.Refusal T → List Start) (o p : Outcome handshake.Refusal T)
    → ((x : T) → IsTold s (told x) (made x)) → SameCall no_fault_of o p → SameStep (shakes s told made (starts o) o) (shakes s told made (starts p) p)
shaken-same s told made starts o p is h = record { is = λ z. ap (λ q. shakes s told made (starts q) q) (h.is (sym (shaken_faulty told (λ x. (is x).fine) o.result) ∙ z)) }

starts-same : (s : State) (f : Choice) (node peer : List ℕ) (offer : Offer) → SameStep (starts_with s f node peer offer) (starts_with s no_fault node peer offer)
starts-same s f node peer offer = shaken-same s (λ d. Forwards (document_tree d) (next_number s)) Some (λ o. calls.after_start s.starts node peer offer o.result) _ _ (forwards_told s)
    (call_read no_fault_of f.reading _ _ (call_each no_fault_of (calls.begins s.records node offer) _ _ λ d. call_puts no_fault_of f.putting _ d))

reply-same : (p : Putting) (x : calls.Replied) → SameCall no_fault_of (calls.put_reply p x) (calls.put_reply Kept x)
reply-same p (calls.Chose d) = call_self no_fault_of _
reply-same p (calls.OpenedBy d x) = call_puts no_fault_of p _ _

answers-same : (s : State) (f : Choice) (node plmn : List ℕ) (offer : Offer) (t : Tree) → SameStep (answers_to s f node plmn offer t) (answers_to s no_fault node plmn offer t)
answers-same s f node plmn offer t = shaken-same s (replied_answer (next_number s)) reply_document (λ o. s.starts) _ _ (replied_told s)
    (call_read no_fault_of f.reading _ _ (call_each no_fault_of (calls.replies s.records node plmn offer t) _ _ (reply-same f.putting)))

finished-same : (p : Putting) (x : calls.Finished) → SameCall no_fault_of (calls.put_finished p x) (calls.put_finished Kept x)
finished-same p (calls.Next d) = call_self no_fault_of _
finished-same p (calls.OpenedAs x) = call_puts no_fault_of p _ _
finished-same p calls.EndedTls = call_self no_fault_of _

-- what a finish comes to, once the reading is known
abbrev finishes_as : State → (node : List ℕ) → Tree → Reading → Outcome handshake.Refusal calls.Finished → Step
finishes_as s node t reading o = shakes s (finished_answer (next_number s)) next_document (calls.after_finish reading s.starts node t (behind_reading reading o).result) (behind_reading reading o)

finishes_read : (s : State) (node : List ℕ) (t : Tree) (reading : Reading) (o p : Outcome handshake.Refusal calls.Finished) → SameCall no_fault_of o p → SameStep (finishes_as s node t reading o) (finishes_as s node t Read p)
finishes_read s node t Read o p h = shaken-same s (finished_answer (next_number s)) next_document (λ q. calls.after_finish Read s.starts node t q.result) o p (finished_told s) h
finishes_read s node t ReadFails o p h = record { is = λ e. cc }
finishes_read s node t (BadRecord k) o p h = record { is = λ e. cc }

finishes-same : (s : State) (f : Choice) (node plmn : List ℕ) (t : Tree) → SameStep (finishes_by s f node plmn t) (finishes_by s no_fault node plmn t)
finishes-same s f node plmn t = finishes_read s node t f.reading _ _ (call_each no_fault_of (calls.finishes s.records s.starts node plmn t) _ _ (finished-same f.putting))

closing-same : (s : State) (f : Choice) (node : List ℕ) (r : Result calls.Closing handshake.Refusal)
    → SameStep (closes s (behind_reading f.reading (or_refusal r (calls.put_closing node f.putting)))) (closes s (behind_reading Read (or_refusal r (calls.put_closing node Kept))))
closing-same s f node r = shaken-same s (λ c. Forwards (document_tree c.document) (next_number s)) (λ c. Some c.document) (λ o. s.starts) _ _ (λ c. forwards_told s c.document)
    (call_read no_fault_of f.reading _ _ (call_each no_fault_of r _ _ λ c. call_puts no_fault_of f.putting _ c))

step-same : (m : Meanings) (s : State) (f : Choices) → IsBy m f → (e : Event) → SameStep (step m.passes s f e) (step m.passes s (unfailing m) e)
step-same m s f by (AddNode node plmn) = step_self _
step-same m s f by (AddContext x) = step_bind s _ _ _ λ plmn. step_bind s _ _ _ λ policy. opens-same s f.keeper _
step-same m s f by (AddKeys node id set) = step_bind s _ _ _ λ plmn. keys-same s f.keeper node id set
step-same m s f by (Send node id t answers) = step_bind s _ _ _ λ plmn. step_bind s _ _ _ λ room. step_bind s _ _ _ λ x.
    sealed-same s _ _ (call_read no_failure f.keeper.reading _ _ (call_chain no_failure f.keeper.putting sent_record (protected s.records node id x.0 x.1) _ (record { is = λ e. refl })))
step-same m s f by (Pass ipx number operations) = step_bind s _ _ _ λ t. step_bind s _ _ _ λ room. passed-same s m.signer f.signer ipx operations t by.signs
step-same m s f by (Inject t) = step_self _
step-same m s f by (Alter number ops) = step_self _
step-same m s f by (Deliver node number) = step_bind s _ _ _ λ plmn. step_bind s _ _ _ λ t.
    delivery-same s t _ _ (accepted-same m f by.verifies s.records node t)
step-same m s f by (Restart node) = step_self _
step-same m s f by (Reported node t) = step_self _
step-same m s f by (StartWith node peer x) = step_bind s _ _ _ λ plmn. step_bind s _ _ _ λ room. step_bind s _ _ _ λ policy. starts-same s f.keeper node peer (offer_of x policy)
step-same m s f by (AnswerTo node number x) = step_bind s _ _ _ λ plmn. step_bind s _ _ _ λ t. step_bind s _ _ _ λ room. step_bind s _ _ _ λ policy. answers-same s f.keeper node plmn (offer_of x policy) t
step-same m s f by (FinishBy node number) = step_bind s _ _ _ λ plmn. step_bind s _ _ _ λ t. step_bind s _ _ _ λ room. finishes-same s f.keeper node plmn t
step-same m s f by (Terminate node id) = step_bind s _ _ _ λ plmn. step_bind s _ _ _ λ room. closing-same s f.keeper node (calls.closes s.records node id Terminates)
step-same m s f by (EndBy node number) = step_bind s _ _ _ λ plmn. step_bind s _ _ _ λ t. step_bind s _ _ _ λ room. closing-same s f.keeper node (calls.closes_by s.records node t)

pub line_determined : (m : Meanings) (s : State) (f : Choices) → IsBy m f → (r : Result Event Refusal) → has_refusal is_outside_refusal (step_with m.passes s f r).answer ≡ false → step_with m.passes s f r ≡ step_with m.passes s (unfailing m) r
line_determined m s f by (Ok e) h = (step-same m s f by e).is h
line_determined m s f by (Err e) h = refl
