-- Steps that the calls of a handshake come to.
use Rattle.std.proofs.Common.{◌≡◌, ℕ, Bool, true, false, List, Option, Some, None, Result, Ok, Err, refl, ap, ◌∙◌, cond, inl, inr}
use Rattle.std.specs.Prelude.{option_map}
use Rattle.spec_documents.specs.Tree.{Tree}
use Rattle.spec_records.specs.Records.{Record, Opened, Closed}
use Rattle.spec_exchange.specs.Outside.{Choice, Cause, Own, Outside, Journal, Keeper, Reading, Read, ReadFails, BadRecord, Putting, Kept, Lost, KeptUntold, Outcome, behind_reading, or_refusal}
use Rattle.spec_exchange.specs.Outside as outside
use Rattle.spec_exchange.specs.Calls.{Sealed}
use Rattle.spec_exchange.specs.Runs as exchange
use Rattle.spec_handshake.specs.Documents.{Document, document_tree}
use Rattle.spec_handshake.specs.Refusals as handshake
use Rattle.spec_handshake.specs.Refusals.{ends_start}
use Rattle.spec_handshake.specs.Starts.{Offer, Start, without_first}
use Rattle.spec_handshake.specs.Calls as calls
use Rattle.spec_handshake.specs.Runs.{reply_document, next_document}
use Rattle.spec_script.specs.Refusals.{Refusal}
use Rattle.spec_script.specs.Steps.{State, Answer, OnWire, Sends, Forwards, Opens, Refuses, next_number, replied_answer, finished_answer}
use Rattle.spec_script.specs.Output.{has_refusal, is_outside_refusal, reply_in, LosesOne}

-- ---- what is told

-- what is told of a call that is done: no refusal and no reply of another call, and its document with the next number
pub record IsTold (s : State) (a : Answer) (d : Option Document) : Type 0 where
  pub other : reply_in a ≡ exchange.Other
  pub fine : has_refusal is_outside_refusal a ≡ false
  pub refused : (e : Refusal) → a ≡ Refuses e → ⊥
  pub sealed : (x : Sealed) (k : ℕ) → a ≡ Sends x k → ⊥
  pub injected : (k : ℕ) → a ≡ OnWire k → ⊥
  pub forwarded : (t : Tree) (k : ℕ) → a ≡ Forwards t k → (option_map document_tree d ≡ Some t) × (k ≡ next_number s)
  pub opened : (t : Tree) (k id : ℕ) → a ≡ Opens t k id → (option_map document_tree d ≡ Some t) × (k ≡ next_number s)

pub forwards_told : (s : State) (d : Document) → IsTold s (Forwards (document_tree d) (next_number s)) (Some d)
forwards_told s d = record { other = refl; fine = refl; refused = λ e h. cc; sealed = λ x k h. cc; injected = λ k h. cc; forwarded = λ t k h. (cc, cc); opened = λ t k id h. cc }

pub replied_told : (s : State) (x : calls.Replied) → IsTold s (replied_answer (next_number s) x) (reply_document x)
replied_told s (calls.Chose d) = forwards_told s d
replied_told s (calls.OpenedBy d x) = record { other = refl; fine = refl; refused = λ e h. cc; sealed = λ x k h. cc; injected = λ k h. cc; forwarded = λ t k h. cc; opened = λ t k id h. (cc, cc) }

pub finished_told : (s : State) (x : calls.Finished) → IsTold s (finished_answer (next_number s) x) (next_document x)
finished_told s (calls.Next d) = forwards_told s d
finished_told s (calls.OpenedAs x) = record { other = refl; fine = refl; refused = λ e h. cc; sealed = λ x k h. cc; injected = λ k h. cc; forwarded = λ t k h. cc; opened = λ t k id h. cc }
finished_told s calls.EndedTls = record { other = refl; fine = refl; refused = λ e h. cc; sealed = λ x k h. cc; injected = λ k h. cc; forwarded = λ t k h. cc; opened = λ t k id h. cc }

-- ---- what is put

abbrev pub is_keeper_cause : {R : Type 0} → Cause R → Bool
is_keeper_cause (Own refusal) = false
is_keeper_cause (Outside Keeper) = true
is_keeper_cause (Outside (Journal number)) = false

pub other_cause : {R P : Type 0} (e : Cause R) → Outside Keeper ≡ e → is_keeper_cause e ≡ false → P
other_cause e same k = let told : true ≡ false = ap is_keeper_cause same ∙ k in cc

-- a call that answers anything but the keeper's fault puts nothing, where it is refused
pub record Clean {R T : Type 0} (o : Outcome R T) : Type 0 where
  pub is : (e : Cause R) → o.result ≡ Err e → is_keeper_cause e ≡ false → o.put ≡ None

pub clean_refused : {R T : Type 0} (d : Cause R) → Clean (outside.refused {R = R} {T = T} d)
clean_refused d = record { is = λ e h k. refl }

pub clean_puts : {R T : Type 0} (p : Putting) (r : Record) (x : T) → Clean {R = R} (outside.puts p r x)
clean_puts Kept r x = record { is = λ e h k. cc }
clean_puts Lost r x = record { is = λ e h k. refl }
clean_puts {R} KeptUntold r x = record { is = λ (e : Cause R) h k. let same : Outside Keeper ≡ e = cc in other_cause e same k }

pub clean_chain : {R X T : Type 0} (r : Result X R) (k : X → Outcome R T) → ((x : X) → Clean (k x)) → Clean (or_refusal r k)
clean_chain (Ok x) k h = h x
clean_chain (Err d) k h = clean_refused (Own d)

pub clean_read : {R T : Type 0} (reading : Reading) (o : Outcome R T) → Clean o → Clean (behind_reading reading o)
clean_read Read o h = h
clean_read ReadFails o h = clean_refused _
clean_read (BadRecord k) o h = clean_refused _

clean_reply : (p : Putting) (x : calls.Replied) → Clean (calls.put_reply p x)
clean_reply p (calls.Chose d) = record { is = λ e h k. cc }
clean_reply p (calls.OpenedBy d x) = clean_puts p (Opened x) (calls.OpenedBy d x)

clean_finished : (p : Putting) (x : calls.Finished) → Clean (calls.put_finished p x)
clean_finished p (calls.Next d) = record { is = λ e h k. cc }
clean_finished p (calls.OpenedAs x) = clean_puts p (Opened x) (calls.OpenedAs x)
clean_finished p calls.EndedTls = record { is = λ e h k. cc }

-- ---- which starts wait

-- after a refusal, over what the call answers
pub record Waits {T : Type 0} (before now : List Start) (r : Result T (Cause handshake.Refusal)) : Type 0 where
  pub own : (e : handshake.Refusal) → r ≡ Err (Own e) → ends_start e ≡ false → now ≡ before
  pub journal : (k : ℕ) → r ≡ Err (Outside (Journal k)) → now ≡ before
  pub one : (e : Cause handshake.Refusal) → r ≡ Err e → LosesOne before now

waits_same : {T : Type 0} (starts : List Start) (r : Result T (Cause handshake.Refusal)) → Waits starts starts r
waits_same starts r = record { own = λ e h k. refl; journal = λ k h. refl; one = λ e h. inl refl }

waits_started : (starts : List Start) (node peer : List ℕ) (offer : Offer) (r : Result Document (Cause handshake.Refusal)) → Waits starts (calls.after_start starts node peer offer r) r
waits_started starts node peer offer (Ok d) = record { own = λ e h k. cc; journal = λ k h. cc; one = λ e h. cc }
waits_started starts node peer offer (Err e) = waits_same starts (Err e)

-- once the store was read, no fault is one of the journal
abbrev pub Unread : {T : Type 0} → Result T (Cause handshake.Refusal) → Type 0
Unread r = (k : ℕ) → r ≡ Err (Outside (Journal k)) → ⊥

unread_puts : {T : Type 0} (p : Putting) (r : Record) (x : T) → Unread (outside.puts p r x).result
unread_puts Kept r x k h = cc
unread_puts Lost r x k h = cc
unread_puts KeptUntold r x k h = cc

unread_finished : (p : Putting) (x : calls.Finished) → Unread (calls.put_finished p x).result
unread_finished p (calls.Next d) k h = cc
unread_finished p (calls.OpenedAs x) k h = unread_puts p (Opened x) (calls.OpenedAs x) k h
unread_finished p calls.EndedTls k h = cc

unread_chain : (p : Putting) (r : Result calls.Finished handshake.Refusal) → Unread (or_refusal r (calls.put_finished p)).result
unread_chain p (Ok x) k h = unread_finished p x k h
unread_chain p (Err e) k h = cc

waits_ended : (b : Bool) (p : Start → Bool) (starts : List Start) → LosesOne starts (cond b (without_first p starts) starts)
waits_ended true p starts = inr (p, refl)
waits_ended false p starts = inl refl

waits_left : (p : Start → Bool) (starts : List Start) (r : Result calls.Finished (Cause handshake.Refusal)) → Unread r → Waits starts (calls.starts_left p starts r) r
waits_left p starts (Ok (calls.Next d)) u = record { own = λ e h k. cc; journal = λ k h. cc; one = λ e h. cc }
waits_left p starts (Ok (calls.OpenedAs x)) u = record { own = λ e h k. cc; journal = λ k h. cc; one = λ e h. cc }
waits_left p starts (Ok calls.EndedTls) u = record { own = λ e h k. cc; journal = λ k h. cc; one = λ e h. cc }
waits_left p starts (Err (Own d)) u = record {
  own = λ e h k. let same : d ≡ e = cc in let ends : ends_start d ≡ false = ap ends_start same ∙ k in ap (λ b. cond b (without_first p starts) starts) ends;
  journal = λ k h. cc;
  one = λ e h. waits_ended (ends_start d) p starts;
}
waits_left p starts (Err (Outside fault)) u = record { own = λ e h k. cc; journal = λ k h. absurd (u k h); one = λ e h. inr (p, refl) }

waits_finished : (f : Choice) (starts : List Start) (node : List ℕ) (t : Tree) (r : Result calls.Finished handshake.Refusal)
    → let o = behind_reading f.reading (or_refusal r (calls.put_finished f.putting)) in Waits starts (calls.after_finish f.reading starts node t o.result) o.result
waits_finished f starts node t r = by_reading f.reading
  where
    by_reading : (reading : Reading) → let o = behind_reading reading (or_refusal r (calls.put_finished f.putting)) in Waits starts (calls.after_finish reading starts node t o.result) o.result
    by_reading Read = waits_left _ starts _ (unread_chain f.putting r)
    by_reading ReadFails = waits_same starts _
    by_reading (BadRecord k) = waits_same starts _

-- ---- calls

-- a call that is refused leaves records and starts so
pub record IsCall {T : Type 0} (s : State) (starts : List Start) (o : Outcome handshake.Refusal T) : Type 0 where
  pub clean : Clean o
  pub waits : Waits s.starts starts o.result

pub start_call : (s : State) (f : Choice) (node peer : List ℕ) (offer : Offer) → let o = calls.start f s.records node offer in IsCall s (calls.after_start s.starts node peer offer o.result) o
start_call s f node peer offer = record {
  clean = clean_read f.reading _ (clean_chain (calls.begins s.records node offer) _ λ d. clean_puts f.putting _ d);
  waits = waits_started s.starts node peer offer _;
}

pub answer_call : (s : State) (f : Choice) (node plmn : List ℕ) (offer : Offer) (t : Tree) → IsCall s s.starts (calls.answer f s.records node plmn offer t)
answer_call s f node plmn offer t = record {
  clean = clean_read f.reading _ (clean_chain (calls.replies s.records node plmn offer t) _ (clean_reply f.putting));
  waits = waits_same s.starts _;
}

pub finish_call : (s : State) (f : Choice) (node plmn : List ℕ) (t : Tree) → let o = calls.finish f s.records s.starts node plmn t in IsCall s (calls.after_finish f.reading s.starts node t o.result) o
finish_call s f node plmn t = record {
  clean = clean_read f.reading _ (clean_chain (calls.finishes s.records s.starts node plmn t) _ (clean_finished f.putting));
  waits = waits_finished f s.starts node t (calls.finishes s.records s.starts node plmn t);
}

closing_call : (s : State) (f : Choice) (node : List ℕ) (r : Result calls.Closing handshake.Refusal) → IsCall s s.starts (behind_reading f.reading (or_refusal r (calls.put_closing node f.putting)))
closing_call s f node r = record {
  clean = clean_read f.reading _ (clean_chain r _ λ c. clean_puts f.putting (Closed node c.id) c);
  waits = waits_same s.starts _;
}

pub terminate_call : (s : State) (f : Choice) (node : List ℕ) (id : ℕ) → IsCall s s.starts (calls.terminate f s.records node id)
terminate_call s f node id = closing_call s f node _

pub ended_call : (s : State) (f : Choice) (node : List ℕ) (t : Tree) → IsCall s s.starts (calls.ended f s.records node t)
ended_call s f node t = closing_call s f node _
