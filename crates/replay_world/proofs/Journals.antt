-- A record that is none is told only where the keeper's records are read, and a fault of signer or verifier only where it is asked and fails.
use Rattle.std.proofs.Common.{◌≡◌, ℕ, List, [], ◌∷◌, Bool, true, false, cond, nat_le, Option, Some, None, Result, Ok, Err, refl, ap, subst}
use Rattle.spec_documents.specs.Tree.{Tree}
use Rattle.spec_messages.specs.Message.{Message, Member, Kind, of_request, of_response, kind_of, message_of, body_depth, wanted}
use Rattle.spec_records.specs.Records.{KeySet, Context, Record}
use Rattle.spec_exchange.specs.Chain.{◌>>=◌, unless, or_refused}
use Rattle.spec_exchange.specs.AcceptRefusals as receiving
use Rattle.spec_exchange.specs.Accepting.{first_failed}
use Rattle.spec_exchange.specs.EntryRefusals.{VerifierFailed}
use Rattle.spec_exchange.proofs.EntryLemmas.{FailsAt, accepting_fails}
use Rattle.spec_exchange.specs.Screens.{Passes}
use Rattle.spec_exchange.specs.SendingRefusals as sending
use Rattle.spec_exchange.specs.Outside.{Journal, Cause, Own, Outside, Reading, Read, ReadFails, BadRecord, Putting, Kept, Lost, KeptUntold, Outcome, behind_reading, or_refusal, Keeper}
use Rattle.spec_exchange.specs.Outside as outside
use Rattle.spec_exchange.specs.Stages.{Delivery}
use Rattle.spec_exchange.specs.Calls.{Sealed, delivered_record, sent_record, protected}
use Rattle.spec_handshake.specs.Documents.{Document, Terminates}
use Rattle.spec_handshake.specs.Refusals as handshake
use Rattle.spec_handshake.specs.Starts.{Start}
use Rattle.spec_handshake.specs.Calls as calls
use Rattle.spec_script.specs.Offers.{offer_of}
use Rattle.spec_script.proofs.HandLemmas.{IsTold, forwards_told, replied_told, finished_told}
use Rattle.spec_script.specs.Refusals.{Refusal, DeepBody, OfReceiving, OfOutside, SignerFailed}
use Rattle.spec_script.specs.Messages.{shallow_message}
use Rattle.spec_script.specs.Choices.{Signing, Signs, SignerFails, Choices}
use Rattle.spec_script.specs.Altering.{altered_by, altered}
use Rattle.spec_documents.specs.Patch.{Op}
use Rattle.serde_json.specs.Data.{Data}
use Rattle.spec_documents.specs.Reading.{tree_from}
use Rattle.spec_documents.specs.Place as place
use Rattle.spec_script.specs.LineTree.{text_value, value_tree, or_other_number}
use Rattle.spec_script.specs.Events.{Event, AddNode, AddContext, AddKeys, Send, Inject, Deliver, Restart, Pass, Alter, Reported, event_of, or_bad_event, line_event, StartWith, AnswerTo, FinishBy, Terminate, EndBy}
use Rattle.spec_script.specs.Steps.{State, Step, Refuses, refuses, or_refuses, puts, sends_sealed, sealed_answer, delivers, delivery_answer, has_read, outgoing_of, message_to_send, passes_on, opens, keys_up, step, step_with, line_step, Answer, shakes}

-- ---- calls

-- a call tells of a record only where it is read so
put_told : {R T : Type 0} (p : Putting) (r : Record) (x : T) (k : ℕ) → (outside.puts {R = R} p r x).result ≡ Err (Outside (Journal k)) → ⊥
put_told Kept r x k e = cc
put_told Lost r x k e = cc
put_told KeptUntold r x k e = cc

call_told : {R T : Type 0} (reading : Reading) (p : Putting) (r : Result T R) (item : T → Record) (k : ℕ)
    → (behind_reading reading (or_refusal r (λ x. outside.puts p (item x) x))).result ≡ Err (Outside (Journal k)) → reading ≡ BadRecord k
call_told Read p (Ok x) item k e = absurd (put_told p (item x) x k e)
call_told Read p (Err d) item k e = cc
call_told ReadFails p r item k e = cc
call_told (BadRecord n) p r item k e = cc

-- a call's own refusal is that of its checks
put_owns : {R T : Type 0} (p : Putting) (r : Record) (x : T) (e : R) → (outside.puts {R = R} p r x).result ≡ Err (Own e) → ⊥
put_owns Kept r x e h = cc
put_owns Lost r x e h = cc
put_owns KeptUntold r x e h = cc

call_owns : {R T : Type 0} (reading : Reading) (p : Putting) (r : Result T R) (item : T → Record) (e : R)
    → (behind_reading reading (or_refusal r (λ x. outside.puts p (item x) x))).result ≡ Err (Own e) → r ≡ Err e
call_owns Read p (Ok x) item e h = absurd (put_owns p (item x) x e h)
call_owns Read p (Err d) item e h = cc
call_owns ReadFails p r item e h = cc
call_owns (BadRecord n) p r item e h = cc

-- ---- steps

-- a record is told only where the keeper's records are read so, and a fault of signer or verifier only where it fails
record Tells (f : Choices) (r : Step) : Type 0 where
  pub of : (k : ℕ) → r.answer ≡ Refuses (OfOutside (Journal k)) → f.keeper.reading ≡ BadRecord k
  pub signer : r.answer ≡ Refuses SignerFailed → f.signer ≡ SignerFails
  pub verifier : (number : ℕ) (report : Option Tree) → r.answer ≡ Refuses (OfReceiving (receiving.OfEntry number VerifierFailed) report) → FailsAt f.verifier number

abbrev names_record : Refusal → Bool
names_record (OfOutside (Journal number)) = true
names_record SignerFailed = true
names_record (OfReceiving (receiving.OfEntry number VerifierFailed) report) = true
names_record _ = false

refusal_tells : (s : State) (f : Choices) (d : Refusal) → names_record d ≡ false → Tells f (refuses s d)
refusal_tells s f d other = record {
  of = λ k e. let same : d ≡ OfOutside (Journal k) = cc in let told : names_record d ≡ true = ap names_record same in cc;
  signer = λ e. let same : d ≡ SignerFailed = cc in let told : names_record d ≡ true = ap names_record same in cc;
  verifier = λ n report e. let same : d ≡ OfReceiving (receiving.OfEntry n VerifierFailed) report = cc in let told : names_record d ≡ true = ap names_record same in cc;
}

done_tells : (f : Choices) (r : Step) → ((e : Refusal) → r.answer ≡ Refuses e → ⊥) → Tells f r
done_tells f r other = record { of = λ k e. absurd (other _ e); signer = λ e. absurd (other _ e); verifier = λ n report e. absurd (other _ e) }

record Mute {A : Type 0} (r : Result A Refusal) : Type 0 where
  pub is : (e : Refusal) → r ≡ Err e → names_record e ≡ false

mute_ok : {A : Type 0} (x : A) → Mute (Ok x)
mute_ok x = record { is = λ e h. cc }

mute_err : {A : Type 0} (d : Refusal) → names_record d ≡ false → Mute {A = A} (Err d)
mute_err d other = record { is = λ e h. let same : d ≡ e = cc in subst (λ (z : Refusal). names_record z ≡ false) same other }

mute_bind : {A B : Type 0} (r : Result A Refusal) (k : A → Result B Refusal) → Mute r → ((x : A) → Mute (k x)) → Mute (r >>= k)
unfolding ◌>>=◌
mute_bind (Ok x) k h g = g x
mute_bind (Err d) k h g = mute_err d (h.is d refl)

mute_wanted : {A : Type 0} (o : Option A) (d : Refusal) → names_record d ≡ false → Mute (wanted o d)
mute_wanted None d other = mute_err d other
mute_wanted (Some x) d other = mute_ok x

mute_unless : (b : Bool) (d : Refusal) → names_record d ≡ false → Mute (unless b d)
mute_unless true d other = mute_err d other
mute_unless false d other = mute_ok tt

mute_or_refused : {X D : Type 0} (d : D → Refusal) (r : Result X D) → ((x : D) → names_record (d x) ≡ false) → Mute (or_refused d r)
mute_or_refused d (Ok x) other = mute_ok x
mute_or_refused d (Err e) other = mute_err (d e) (other e)

step_bind : {A : Type 0} (s : State) (f : Choices) (r : Result A Refusal) (k : A → Result Step Refusal) → Mute r → ((x : A) → Tells f (or_refuses s (k x))) → Tells f (or_refuses s (r >>= k))
unfolding ◌>>=◌
step_bind s f (Ok x) k h g = g x
step_bind s f (Err d) k h g = refusal_tells s f d (h.is d refl)

read_tells : (s : State) (f : Choices) (reading : Reading) (k : Unit {0} → Result Step Refusal) → f.keeper.reading ≡ reading → Tells f (or_refuses s (k tt)) → Tells f (or_refuses s (has_read reading >>= k))
unfolding ◌>>=◌
read_tells s f Read k is h = h
read_tells s f ReadFails k is h = record { of = λ k e. cc; signer = λ e. cc; verifier = λ n report e. cc }
read_tells s f (BadRecord n) k is h = record { of = λ k e. cc; signer = λ e. cc; verifier = λ n report e. cc }

puts_tells : (s : State) (f : Choices) (p : Putting) (name : List ℕ) (r : Record) → Tells f (puts s p name r)
puts_tells s f Kept name r = record { of = λ k e. cc; signer = λ e. cc; verifier = λ n report e. cc }
puts_tells s f Lost name r = record { of = λ k e. cc; signer = λ e. cc; verifier = λ n report e. cc }
puts_tells s f KeptUntold name r = record { of = λ k e. cc; signer = λ e. cc; verifier = λ n report e. cc }

sealed_is : (n k : ℕ) (r : Result Sealed (Cause sending.Refusal)) → sealed_answer n r ≡ Refuses (OfOutside (Journal k)) → r ≡ Err (Outside (Journal k))
sealed_is n k (Ok x) e = cc
sealed_is n k (Err (Own d)) e = cc
sealed_is n k (Err (Outside fault)) e = cc

delivery_is : (t : Tree) (k : ℕ) (r : Result Delivery (Cause receiving.Refusal)) → delivery_answer t r ≡ Refuses (OfOutside (Journal k)) → r ≡ Err (Outside (Journal k))
delivery_is t k (Ok x) e = cc
delivery_is t k (Err (Own d)) e = cc
delivery_is t k (Err (Outside fault)) e = cc

-- no call of a SEPP asks the signer
sealed_asks : (n : ℕ) (r : Result Sealed (Cause sending.Refusal)) → sealed_answer n r ≡ Refuses SignerFailed → ⊥
sealed_asks n (Ok x) e = cc
sealed_asks n (Err (Own d)) e = cc
sealed_asks n (Err (Outside fault)) e = cc

delivery_asks : (t : Tree) (r : Result Delivery (Cause receiving.Refusal)) → delivery_answer t r ≡ Refuses SignerFailed → ⊥
delivery_asks t (Ok x) e = cc
delivery_asks t (Err (Own d)) e = cc
delivery_asks t (Err (Outside fault)) e = cc

sealed_verifies : (n k : ℕ) (report : Option Tree) (r : Result Sealed (Cause sending.Refusal)) → sealed_answer n r ≡ Refuses (OfReceiving (receiving.OfEntry k VerifierFailed) report) → ⊥
sealed_verifies n k report (Ok x) e = cc
sealed_verifies n k report (Err (Own d)) e = cc
sealed_verifies n k report (Err (Outside fault)) e = cc

delivery_verifies : (t : Tree) (k : ℕ) (report : Option Tree) (r : Result Delivery (Cause receiving.Refusal)) → delivery_answer t r ≡ Refuses (OfReceiving (receiving.OfEntry k VerifierFailed) report) → r ≡ Err (Own (receiving.OfEntry k VerifierFailed))
delivery_verifies t k report (Ok x) e = cc
delivery_verifies t k report (Err (Own d)) e = cc
delivery_verifies t k report (Err (Outside fault)) e = cc

sealed_tells : (s : State) (f : Choices) (r : Result Sealed sending.Refusal) → Tells f (sends_sealed s (behind_reading f.keeper.reading (or_refusal r (λ x. outside.puts f.keeper.putting (sent_record x) x))))
sealed_tells s f r = record { of = λ k e. call_told f.keeper.reading f.keeper.putting r sent_record k (sealed_is _ k _ e); signer = λ e. absurd (sealed_asks _ _ e); verifier = λ n report e. absurd (sealed_verifies _ n report _ e) }

delivery_tells : (passes : Passes) (s : State) (f : Choices) (node : List ℕ) (t : Tree) → Tells f (delivers s t (behind_reading f.keeper.reading (or_refusal (first_failed passes f.verifier s.records node t) (λ x. outside.puts f.keeper.putting (delivered_record x) x))))
delivery_tells passes s f node t = record {
  of = λ k e. call_told f.keeper.reading f.keeper.putting (first_failed passes f.verifier s.records node t) delivered_record k (delivery_is t k _ e);
  signer = λ e. absurd (delivery_asks t _ e);
  verifier = λ n report e. accepting_fails passes f.verifier s.records node t n (call_owns f.keeper.reading f.keeper.putting (first_failed passes f.verifier s.records node t) delivered_record _ (delivery_verifies t n report _ e));
}

opens_tells : (s : State) (f : Choices) (x : Context) → Tells f (or_refuses s (opens s f.keeper x))
opens_tells s f x =
    read_tells s f f.keeper.reading _ refl
    (step_bind s f _ _ (mute_unless _ _ refl) λ a.
    step_bind s f _ _ (mute_unless _ _ refl) λ b.
    puts_tells s f f.keeper.putting _ _)

keys_tells : (s : State) (f : Choices) (node : List ℕ) (id : ℕ) (set : KeySet) → Tells f (or_refuses s (keys_up s f.keeper node id set))
keys_tells s f node id set =
    read_tells s f f.keeper.reading _ refl
    (step_bind s f _ _ (mute_wanted _ _ refl) λ x.
    step_bind s f _ _ (mute_unless _ _ refl) λ a.
    step_bind s f _ _ (mute_unless _ _ refl) λ b.
    step_bind s f _ _ (mute_unless _ _ refl) λ c.
    puts_tells s f f.keeper.putting _ _)

message_mute : (r : Result Message Member) → Mute (shallow_message r)
message_mute (Ok m) = by_depth (nat_le (body_depth m.body) 64)
  where
    by_depth : (b : Bool) → Mute (cond b (Ok m) (Err DeepBody))
    by_depth true = mute_ok m
    by_depth false = mute_err _ refl
message_mute (Err k) = mute_err _ refl

outgoing_mute : (k : Kind) (answers : Option ℕ) → Mute (outgoing_of k answers)
outgoing_mute of_request None = mute_ok _
outgoing_mute of_request (Some to) = mute_err _ refl
outgoing_mute of_response None = mute_err _ refl
outgoing_mute of_response (Some to) = mute_ok _

sent_mute : (t : Tree) (answers : Option ℕ) → Mute (message_to_send t answers)
sent_mute t answers =
    mute_bind _ _ (message_mute (message_of t)) λ m.
    mute_bind _ _ (outgoing_mute (kind_of m) answers) λ o.
    mute_ok _

altered_mute : (ops : List Op) (t : Tree) → Mute (altered ops t)
altered_mute [] t = mute_ok t
altered_mute (op ∷ ops) t =
    mute_bind (altered_by op t) (λ u. altered ops u)
    (mute_bind _ _ (mute_or_refused _ _ λ cause. refl) λ u. mute_bind _ _ (mute_unless _ _ refl) λ a. mute_bind _ _ (mute_unless _ _ refl) λ b. mute_ok u)
    λ u. altered_mute ops u

passed_tells : (s : State) (f : Choices) (signing : Signing) → f.signer ≡ signing → (ipx : List ℕ) (operations t : Tree) → Tells f (or_refuses s (passes_on s signing ipx operations t))
passed_tells s f (Signs g) is ipx operations t = step_bind s f _ _ (mute_or_refused _ _ λ member. refl) λ d. done_tells f _ λ e is. cc
passed_tells s f SignerFails is ipx operations t = step_bind s f _ _ (mute_or_refused _ _ λ member. refl) λ parts. record { of = λ k e. cc; signer = λ e. is; verifier = λ n report e. cc }

-- once the store was read, a call of the handshake names no record
abbrev Unread : {T : Type 0} → Outcome handshake.Refusal T → Type 0
Unread o = (k : ℕ) → o.result ≡ Err (Outside (Journal k)) → ⊥

unread_puts : {T : Type 0} (p : Putting) (r : Record) (x : T) → Unread (outside.puts p r x)
unread_puts Kept r x k h = cc
unread_puts Lost r x k h = cc
unread_puts KeptUntold r x k h = cc

unread_each : {X T : Type 0} (r : Result X handshake.Refusal) (c : X → Outcome handshake.Refusal T) → ((x : X) → Unread (c x)) → Unread (or_refusal r c)
unread_each (Ok x) c h = h x
unread_each (Err d) c h = λ k e. cc

unread_reply : (p : Putting) (x : calls.Replied) → Unread (calls.put_reply p x)
unread_reply p (calls.Chose d) = λ k e. cc
unread_reply p (calls.OpenedBy d x) = unread_puts p _ _

unread_finished : (p : Putting) (x : calls.Finished) → Unread (calls.put_finished p x)
unread_finished p (calls.Next d) = λ k e. cc
unread_finished p (calls.OpenedAs x) = unread_puts p _ _
unread_finished p calls.EndedTls = λ k e. cc

shaken_by : {T : Type 0} (s : State) (f : Choices) (told : T → Answer) (made : T → Option Document) (starts : List Start) (put : Option Record) (r : Result T (Cause handshake.Refusal))
    → ((x : T) → IsTold s (told x) (made x)) → ((k : ℕ) → r ≡ Err (Outside (Journal k)) → ⊥) → Tells f (shakes s told made starts (record { result = r; put = put }))
shaken_by s f told made starts put (Ok x) is unread = done_tells f _ (is x).refused
shaken_by s f told made starts put (Err (Own d)) is unread = record { of = λ k e. cc; signer = λ e. cc; verifier = λ n report e. cc }
shaken_by s f told made starts put (Err (Outside (Journal n))) is unread = absurd (unread n refl)
shaken_by s f told made starts put (Err (Outside Keeper)) is unread = record { of = λ k e. cc; signer = λ e. cc; verifier = λ n report e. cc }

shaken_tells : {T : Type 0} (s : State) (f : Choices) (told : T → Answer) (made : T → Option Document) (starts : List Start) (reading : Reading) (o : Outcome handshake.Refusal T) → f.keeper.reading ≡ reading
    → ((x : T) → IsTold s (told x) (made x)) → Unread o → Tells f (shakes s told made starts (behind_reading reading o))
shaken_tells s f told made starts Read o at is unread = shaken_by s f told made starts o.put o.result is unread
shaken_tells s f told made starts ReadFails o at is unread = record { of = λ k e. cc; signer = λ e. cc; verifier = λ n report e. cc }
shaken_tells s f told made starts (BadRecord n) o at is unread = record { of = λ k e. cc; signer = λ e. cc; verifier = λ n report e. cc }

event_tells : (passes : Passes) (s : State) (f : Choices) (e : Event) → Tells f (step passes s f e)
event_tells passes s f (AddNode node plmn) = step_bind s f _ _ (mute_unless _ _ refl) λ a. done_tells f _ λ e is. cc
event_tells passes s f (AddContext x) = step_bind s f _ _ (mute_wanted _ _ refl) λ plmn. step_bind s f _ _ (mute_or_refused _ _ λ k. refl) λ policy. opens_tells s f _
event_tells passes s f (AddKeys node id set) = step_bind s f _ _ (mute_wanted _ _ refl) λ plmn. keys_tells s f node id set
event_tells passes s f (Send node id t answers) = step_bind s f _ _ (mute_wanted _ _ refl) λ plmn. step_bind s f _ _ (mute_unless _ _ refl) λ room. step_bind s f _ _ (sent_mute t answers) λ m. sealed_tells s f (protected s.records node id m.0 m.1)
event_tells passes s f (Pass ipx number operations) = step_bind s f _ _ (mute_wanted _ _ refl) λ t. step_bind s f _ _ (mute_unless _ _ refl) λ room. passed_tells s f f.signer refl ipx operations t
event_tells passes s f (Inject t) = step_bind s f _ _ (mute_unless _ _ refl) λ room. done_tells f _ λ e is. cc
event_tells passes s f (Alter number ops) = step_bind s f _ _ (mute_wanted _ _ refl) λ t. step_bind s f _ _ (mute_unless _ _ refl) λ room. step_bind s f _ _ (altered_mute ops t) λ u. done_tells f _ λ e is. cc
event_tells passes s f (Deliver node number) = step_bind s f _ _ (mute_wanted _ _ refl) λ plmn. step_bind s f _ _ (mute_wanted _ _ refl) λ t. delivery_tells passes s f node t
event_tells passes s f (Restart node) = step_bind s f _ _ (mute_wanted _ _ refl) λ plmn. done_tells f _ λ e is. cc
event_tells passes s f (Reported node t) = step_bind s f _ _ (mute_wanted _ _ refl) λ plmn. step_bind s f _ _ (mute_or_refused _ _ λ none. refl) λ r. done_tells f _ λ e is. cc
event_tells passes s f (StartWith node peer x) = step_bind s f _ _ (mute_wanted _ _ refl) λ plmn. step_bind s f _ _ (mute_unless _ _ refl) λ room. step_bind s f _ _ (mute_or_refused _ _ λ k. refl) λ policy.
    shaken_tells s f _ _ _ f.keeper.reading _ refl (forwards_told s) (unread_each (calls.begins s.records node (offer_of x policy)) _ λ d. unread_puts f.keeper.putting _ d)
event_tells passes s f (AnswerTo node number x) = step_bind s f _ _ (mute_wanted _ _ refl) λ plmn. step_bind s f _ _ (mute_wanted _ _ refl) λ t. step_bind s f _ _ (mute_unless _ _ refl) λ room. step_bind s f _ _ (mute_or_refused _ _ λ k. refl) λ policy.
    shaken_tells s f _ _ _ f.keeper.reading _ refl (replied_told s) (unread_each (calls.replies s.records node plmn (offer_of x policy) t) _ (unread_reply f.keeper.putting))
event_tells passes s f (FinishBy node number) = step_bind s f _ _ (mute_wanted _ _ refl) λ plmn. step_bind s f _ _ (mute_wanted _ _ refl) λ t. step_bind s f _ _ (mute_unless _ _ refl) λ room.
    shaken_tells s f _ _ _ f.keeper.reading _ refl (finished_told s) (unread_each (calls.finishes s.records s.starts node plmn t) _ (unread_finished f.keeper.putting))
event_tells passes s f (Terminate node id) = step_bind s f _ _ (mute_wanted _ _ refl) λ plmn. step_bind s f _ _ (mute_unless _ _ refl) λ room.
    shaken_tells s f _ _ _ f.keeper.reading _ refl (λ c. forwards_told s c.document) (unread_each (calls.closes s.records node id Terminates) _ λ c. unread_puts f.keeper.putting _ c)
event_tells passes s f (EndBy node number) = step_bind s f _ _ (mute_wanted _ _ refl) λ plmn. step_bind s f _ _ (mute_wanted _ _ refl) λ t. step_bind s f _ _ (mute_unless _ _ refl) λ room.
    shaken_tells s f _ _ _ f.keeper.reading _ refl (λ c. forwards_told s c.document) (unread_each (calls.closes_by s.records node t) _ λ c. unread_puts f.keeper.putting _ c)

-- ---- lines

event_mute : (r : Result Event (List ℕ)) → Mute (or_bad_event r)
event_mute (Ok e) = mute_ok e
event_mute (Err k) = mute_err _ refl

tree_mute : (o : Option Tree) → Mute (place.◌>>=◌ (or_other_number o) (λ t. or_bad_event (event_of t)))
tree_mute None = mute_err _ refl
tree_mute (Some t) = event_mute (event_of t)

value_mute : (o : Option Data) → Mute (place.◌>>=◌ (value_tree o) (λ t. or_bad_event (event_of t)))
value_mute None = mute_err _ refl
value_mute (Some v) = tree_mute (tree_from v)

with_tells : (passes : Passes) (s : State) (f : Choices) (r : Result Event Refusal) → Mute r → Tells f (step_with passes s f r)
with_tells passes s f (Ok e) mute = event_tells passes s f e
with_tells passes s f (Err e) mute = refusal_tells s f e (mute.is e refl)

-- a line that is answered by a bad record: the keeper was read, and has it
pub line_tells : (passes : Passes) (s : State) (f : Choices) (line : List ℕ) (k : ℕ) → (line_step passes s f line).answer ≡ Refuses (OfOutside (Journal k)) → f.keeper.reading ≡ BadRecord k
line_tells passes s f line k e = (with_tells passes s f (line_event line) (value_mute (text_value line))).of k e

-- one that is answered by a fault of the signer: it failed
pub line_signs : (passes : Passes) (s : State) (f : Choices) (line : List ℕ) → (line_step passes s f line).answer ≡ Refuses SignerFailed → f.signer ≡ SignerFails
line_signs passes s f line e = (with_tells passes s f (line_event line) (value_mute (text_value line))).signer e

-- one that is answered by a fault of the verifier: it failed
pub line_verifies : (passes : Passes) (s : State) (f : Choices) (line : List ℕ) (number : ℕ) (report : Option Tree) → (line_step passes s f line).answer ≡ Refuses (OfReceiving (receiving.OfEntry number VerifierFailed) report) → FailsAt f.verifier number
line_verifies passes s f line number report e = (with_tells passes s f (line_event line) (value_mute (text_value line))).verifier number report e
