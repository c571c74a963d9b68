-- A context's calls go by its own records alone.
use Rattle.std.proofs.Common.{◌≡◌, suc, ℕ, ◌&&◌, ◌+◌, ◌<◌, ◌≤◌, Bool, true, false, List, [], ◌∷◌, ◌++◌, length, Option, Some, None, is_some, Result, Ok, Err, refl, sym, ap, ap₂, ◌∙◌, subst, cond, arith, length-append, map}
use Rattle.std.specs.Prelude.{bytes_eq, nat_le, filter, find, slice_get, ◌==◌}
use Rattle.std.specs.List.{list_any, position_from}
use Rattle.std.proofs.lemmas.Bool.{le-leb, lt-leb, eqb-true, and_parts}
use Rattle.std.proofs.lemmas.Slice.Eq.{bytes_eq-Decides}
use Rattle.std.proofs.lemmas.List.Sums.{length-filter, count_by-le-length}
use Rattle.spec_documents.specs.Tree.{Tree}
use Rattle.spec_messages.specs.Message.{Message, Kind, wanted, of_request, of_response}
use Rattle.spec_records.specs.Records.{Record, Context, is_of, own, is_closed, opened_context, first_of, record_limit, open_context, keys, keys_behind, mapping_delivered, answered, next_seq, delivered_at, was_delivered, is_delivery, mapping_sent}
use Rattle.spec_records.proofs.RecordLemmas.{own-append, own-append_other, delivered_at-is_some}
use Rattle.spec_exchange.specs.Chain.{◌>>=◌, unless, none_of, or_refused}
use Rattle.spec_sealing.specs.Received.{Received, received}
use Rattle.spec_messages.specs.Limits.{many_records}
use Rattle.spec_exchange.specs.ReceivingRefusals.{Form, NoContext, NoReceiveKeys, Replay, NoRoom}
use Rattle.spec_exchange.specs.SendingRefusals.{ContextNotFound, NoKeys, NoRequest, Answered, SeqSpent, Beyond}
use Rattle.spec_exchange.specs.SendingRefusals as sending
use Rattle.spec_exchange.specs.Stages.{Delivery, keyed_context}
use Rattle.spec_exchange.specs.Outside.{Cause, Reading, Read, ReadFails, BadRecord, Putting, Kept, Lost, KeptUntold, Outcome, puts, behind_reading, or_refusal, with_put}
use Rattle.spec_exchange.specs.Calls.{Sealed, Outgoing, Asks, Replies, kind_of_outgoing, delivered_record, sent_record, mapping_to_send, protected, Choices}
use Rattle.spec_exchange.specs.Runs.{Call, Deliver, Send, Puts, Reply, told, made, reply_of, put_of, after, replies, Event}
use Rattle.spec_exchange.specs.Isolation.{unnumbered_cause, unnumbered_reply, unnumbered_result, received_id, is_id, concerns, own_events, own_replies}
use Rattle.spec_exchange.proofs.ChainLemmas.{protected-ok, puts-some}
use Rattle.spec_exchange.specs.AcceptRefusals.{Refusal, Receiving, Unasked}
use Rattle.spec_exchange.specs.Asked.{asked_for}
use Rattle.spec_exchange.specs.Screens.{Passes}
use Rattle.spec_exchange.specs.EntryChecks.{Verifying}
use Rattle.spec_exchange.specs.Accepting.{stage, first_failed, first_failed_of}
use Rattle.spec_exchange.proofs.AcceptLemmas.{accepted-passed}

-- ---- the records of one context

filter-filter : {X : Type 0} (q : X → Bool) (xs : List X) → filter q (filter q xs) ≡ filter q xs
filter-filter q [] = refl
filter-filter q (x ∷ xs) = passed (q x) refl (filter-filter q xs)
  where
    passed : (b : Bool) → q x ≡ b → filter q (filter q xs) ≡ filter q xs → filter q (cond b (x ∷ filter q xs) (filter q xs)) ≡ cond b (x ∷ filter q xs) (filter q xs)
    passed true e h = rw e (ap (λ r. x ∷ r) h)
    passed false e h = h

pub own-own : (node : List ℕ) (id : ℕ) (records : List Record) → own node id (own node id records) ≡ own node id records
own-own node id records = filter-filter (is_of node id) records

pub own-one : (node : List ℕ) (id : ℕ) (r : Record) → is_of node id r ≡ true → own node id (r ∷ []) ≡ r ∷ []
own-one node id r e = rw e

-- ---- the questions, over a context's own records

open_context-own : (node : List ℕ) (id : ℕ) (records : List Record) → open_context node id (own node id records) ≡ open_context node id records
open_context-own node id records = ap (λ (rs : List Record). cond (list_any is_closed rs) None (first_of opened_context rs)) (own-own node id records)

keys-own : (node : List ℕ) (id : ℕ) (records : List Record) → keys node id (own node id records) ≡ keys node id records
keys-own node id records = ap (keys_behind None) (own-own node id records)

mapping_delivered-own : (node : List ℕ) (id message : ℕ) (records : List Record) → mapping_delivered node id message (own node id records) ≡ mapping_delivered node id message records
mapping_delivered-own node id message records = rw own-own

answered-own : (node : List ℕ) (id message : ℕ) (records : List Record) → answered node id message (own node id records) ≡ answered node id message records
answered-own node id message records = rw own-own

next_seq-own : (node : List ℕ) (id : ℕ) (kind : Kind) (records : List Record) → next_seq node id kind (own node id records) ≡ next_seq node id kind records
next_seq-own node id kind records = rw own-own

pub delivered_at-own : (node : List ℕ) (id : ℕ) (kind : Kind) (message : ℕ) (records : List Record) → is_some (delivered_at node id kind message records) ≡ is_some (delivered_at node id kind message (own node id records))
delivered_at-own node id kind message records =
    delivered_at-is_some node id kind message records ∙ (same ∙ sym (delivered_at-is_some node id kind message (own node id records)))
  where
    same : was_delivered node id kind message records ≡ was_delivered node id kind message (own node id records)
    same = sym (rw own-own)

own-shorter : (node : List ℕ) (id : ℕ) (records : List Record) → length (own node id records) ≤ length records
own-shorter node id records = omega (arith, length-filter (is_of node id) records, count_by-le-length (is_of node id) records)

-- below the limit both lists are
room-own : (node : List ℕ) (id : ℕ) (records : List Record) → (record_limit ≤ length records → ⊥) → nat_le record_limit (length records) ≡ nat_le record_limit (length (own node id records))
room-own node id records room =
    let short : length records < record_limit = omega (arith, room) in
    let shorter : length (own node id records) < record_limit = omega (arith, own-shorter node id records) in
    lt-leb record_limit (length records) short ∙ sym (lt-leb record_limit (length (own node id records)) shorter)

-- ---- chains of checks

-- P holds of the whole chain, and so of what is left of it
bind_alike : {A B : Type 0} (P : Result B Refusal → Type 0) (r s : Result A Refusal) → r ≡ s → (f g : A → Result B Refusal) → P (r >>= f) → ((x : A) → P (f x) → unnumbered_result (f x) ≡ unnumbered_result (g x))
    → unnumbered_result (r >>= f) ≡ unnumbered_result (s >>= g)
unfolding ◌>>=◌
bind_alike P (Ok x) s e f g p h = rw (← e) (h x p)
bind_alike P (Err d) s e f g p h = rw (← e)

replay_alike : {B : Type 0} (P : Result B Refusal → Type 0) (o p : Option ℕ) → is_some o ≡ is_some p → (f g : Unit {0} → Result B Refusal) → P (stage (none_of (λ r. Replay r) o) >>= f)
    → ((u : Unit {0}) → P (f u) → unnumbered_result (f u) ≡ unnumbered_result (g u)) → unnumbered_result (stage (none_of (λ r. Replay r) o) >>= f) ≡ unnumbered_result (stage (none_of (λ r. Replay r) p) >>= g)
unfolding ◌>>=◌
replay_alike P None None e f g q h = h tt q
replay_alike P (Some a) (Some b) e f g q h = refl
replay_alike P None (Some b) e f g q h = cc
replay_alike P (Some a) None e f g q h = cc

pub bind_same : {A B E : Type 0} (r s : Result A E) → r ≡ s → (f g : A → Result B E) → ((x : A) → f x ≡ g x) → (r >>= f) ≡ (s >>= g)
unfolding ◌>>=◌
bind_same (Ok x) s e f g h = rw (← e) (h x)
bind_same (Err d) s e f g h = rw (← e)

bind_under : {A B E : Type 0} (P : Result B E → Type 0) (r s : Result A E) → r ≡ s → (f g : A → Result B E) → P (r >>= f) → ((x : A) → P (f x) → f x ≡ g x) → (r >>= f) ≡ (s >>= g)
unfolding ◌>>=◌
bind_under P (Ok x) s e f g p h = rw (← e) (h x p)
bind_under P (Err d) s e f g p h = rw (← e)

-- ---- the limit on records

-- where no record more may be held, something else is answered than that
abbrev pub Otherwise : {X E : Type 0} → List Record → (full : E) → Result X E → Type 0
Otherwise records full r = record_limit ≤ length records → r ≡ Err full → ⊥

pub otherwise_below : {X E : Type 0} (records : List Record) (full : E) (r : Result X E) → length records < record_limit → Otherwise records full r
otherwise_below records full r short = λ le e. omega arith

-- a last check that doesn't refuse for the limit has room
has_place : {X E : Type 0} (records : List Record) (full : E) (check : Bool → Result (Unit {0}) E) → check true ≡ Err full → (f : Unit {0} → Result X E)
    → Otherwise records full (check (nat_le record_limit (length records)) >>= f) → record_limit ≤ length records → ⊥
unfolding ◌>>=◌
has_place records full check is f other le = other le (rw (le-leb record_limit (length records) le, is))

pub keyed_context-own : (records : List Record) (node : List ℕ) (id : ℕ) → keyed_context records node id ≡ keyed_context (own node id records) node id
keyed_context-own records node id =
    bind_same _ _ (ap (λ o. wanted o NoContext) (sym (open_context-own node id records))) _ _ λ x.
    bind_same _ _ (ap (λ o. wanted o NoReceiveKeys) (sym (keys-own node id records))) _ _ λ k.
    refl

-- ---- a document

mapping_sent-own : (node : List ℕ) (id message : ℕ) (records : List Record) → mapping_sent node id message (own node id records) ≡ mapping_sent node id message records
mapping_sent-own node id message records = rw own-own

asked_for-own : (records : List Record) (node : List ℕ) (id : ℕ) (kind : Kind) (message : ℕ) → asked_for records node id kind message ≡ asked_for (own node id records) node id kind message
asked_for-own records node id of_request message = refl
asked_for-own records node id of_response message = bind_same _ _ (ap (λ o. wanted o Unasked) (sym (mapping_sent-own node id message records))) _ _ λ k. refl

isolated_of : (passes : Passes) (v : Verifying) (records : List Record) (node : List ℕ) (d : Received) → Otherwise records (Receiving NoRoom) (first_failed_of passes v records node d)
    → unnumbered_result (first_failed_of passes v records node d) ≡ unnumbered_result (first_failed_of passes v (own node d.context records) node d)
isolated_of passes v records node d other =
    let P : Result Delivery Refusal → Type 0 = λ r. Otherwise records (Receiving NoRoom) r in
    bind_alike P _ _ (ap stage (keyed_context-own records node d.context)) _ _ other λ c o1.
    bind_alike P _ _ refl _ _ o1 λ plain o2.
    replay_alike P _ _ (delivered_at-own node d.context d.kind d.message records) _ _ o2 λ u3 o3.
    bind_alike P _ _ (asked_for-own records node d.context d.kind d.message) _ _ o3 λ by o4.
    bind_alike P _ _ refl _ _ o4 λ m o5.
    bind_alike P _ _ refl _ _ o5 λ u5 o6.
    bind_alike P _ _ refl _ _ o6 λ p o7.
    bind_alike P _ _ refl _ _ o7 λ u7 o8.
    let room = has_place records (Receiving NoRoom) (λ b. stage (unless b NoRoom)) refl _ o8 in
    bind_alike P _ _ (ap (λ b. stage (unless b NoRoom)) (room-own node d.context records room)) _ _ o8 λ u8 o9.
    refl

received_alike : (P : Result Delivery Refusal → Type 0) (r : Result Received (List ℕ)) (id : ℕ) → is_id (received_id r) id ≡ true → (f g : Received → Result Delivery Refusal) → P (stage (or_refused Form r) >>= f)
    → ((d : Received) → d.context ≡ id → P (f d) → unnumbered_result (f d) ≡ unnumbered_result (g d)) → unnumbered_result (stage (or_refused Form r) >>= f) ≡ unnumbered_result (stage (or_refused Form r) >>= g)
unfolding ◌>>=◌
received_alike P (Ok d) id e f g p h = h d (eqb-true d.context id e) p
received_alike P (Err m) id e f g p h = refl

-- a document is answered by its context's own records
pub document_apart : (passes : Passes) (v : Verifying) (records : List Record) (node : List ℕ) (id : ℕ) (t : Tree) → is_id (received_id (received t)) id ≡ true → Otherwise records (Receiving NoRoom) (first_failed passes v records node t)
    → unnumbered_result (first_failed passes v records node t) ≡ unnumbered_result (first_failed passes v (own node id records) node t)
document_apart passes v records node id t e other =
    received_alike (λ r. Otherwise records (Receiving NoRoom) r) (received t) id e _ _ other λ d same o.
    let P : ℕ → Type 0 = λ i. unnumbered_result (first_failed_of passes v records node d) ≡ unnumbered_result (first_failed_of passes v (own node i records) node d) in
    subst P same (isolated_of passes v records node d o)

pub isolated_document : (passes : Passes) (v : Verifying) (records : List Record) (node : List ℕ) (id : ℕ) (t : Tree) → is_id (received_id (received t)) id ≡ true → length records < record_limit
    → unnumbered_result (first_failed passes v records node t) ≡ unnumbered_result (first_failed passes v (own node id records) node t)
isolated_document passes v records node id t e short = document_apart passes v records node id t e (otherwise_below records _ _ short)

-- ---- a message

mapping_to_send-own : (o : Outgoing) (x : Context) (m : Message) (records : List Record) (node : List ℕ) (id : ℕ) → mapping_to_send o x m records node id ≡ mapping_to_send o x m (own node id records) node id
mapping_to_send-own Asks x m records node id = refl
mapping_to_send-own (Replies to) x m records node id =
    bind_same _ _ (ap (λ z. wanted z NoRequest) (sym (mapping_delivered-own node id to records))) _ _ λ k.
    bind_same _ _ (ap (λ b. unless b Answered) (sym (answered-own node id to records))) _ _ λ u.
    refl

-- a message is sealed by its context's own records
pub message_apart : (records : List Record) (node : List ℕ) (id : ℕ) (o : Outgoing) (m : Message) → Otherwise records (Beyond many_records) (protected records node id o m) → protected records node id o m ≡ protected (own node id records) node id o m
message_apart records node id o m other =
    let P : Result Sealed sending.Refusal → Type 0 = λ r. Otherwise records (Beyond many_records) r in
    bind_under P _ _ (ap (λ z. wanted z ContextNotFound) (sym (open_context-own node id records))) _ _ other λ x o1.
    bind_under P _ _ (ap (λ z. wanted z NoKeys) (sym (keys-own node id records))) _ _ o1 λ k o2.
    bind_under P _ _ (mapping_to_send-own o x m records node id) _ _ o2 λ mapping o3.
    bind_under P _ _ (ap (λ z. wanted z SeqSpent) (sym (next_seq-own node id (kind_of_outgoing o) records))) _ _ o3 λ seq o4.
    bind_under P _ _ refl _ _ o4 λ t o5.
    let room = has_place records (Beyond many_records) (λ b. unless b (Beyond many_records)) refl _ o5 in
    bind_under P _ _ (ap (λ b. unless b (Beyond many_records)) (room-own node id records room)) _ _ o5 λ u o6.
    refl

pub isolated_message : (records : List Record) (node : List ℕ) (id : ℕ) (o : Outgoing) (m : Message) → length records < record_limit → protected records node id o m ≡ protected (own node id records) node id o m
isolated_message records node id o m short = message_apart records node id o m (otherwise_below records _ _ short)

-- ---- calls

-- what is delivered is the same, and what is put
abbrev unnumbered_answer : {T : Type 0} → Result T (Cause Refusal) → Result T (Cause Refusal)
unnumbered_answer (Ok x) = Ok x
unnumbered_answer (Err e) = Err (unnumbered_cause e)

record Alike {X : Type 0} (f g : Outcome Refusal X) : Type 0 where
  result_is : unnumbered_answer f.result ≡ unnumbered_answer g.result
  put_is : f.put ≡ g.put

alike-calls : {X : Type 0} (reading : Reading) (r s : Result X Refusal) (p : Putting) (item : X → Record) → unnumbered_result r ≡ unnumbered_result s
    → Alike (behind_reading reading (or_refusal r (λ y. puts p (item y) y))) (behind_reading reading (or_refusal s (λ y. puts p (item y) y)))
alike-calls ReadFails r s p item e = record { result_is = refl; put_is = refl }
alike-calls (BadRecord k) r s p item e = record { result_is = refl; put_is = refl }
alike-calls Read (Ok x) (Ok y) Kept item e = record { result_is = cc; put_is = cc }
alike-calls Read (Ok x) (Ok y) Lost item e = record { result_is = refl; put_is = refl }
alike-calls Read (Ok x) (Ok y) KeptUntold item e = record { result_is = refl; put_is = cc }
alike-calls Read (Err d) (Err f) p item e = record { result_is = cc; put_is = refl }
alike-calls Read (Ok x) (Err f) p item e = cc
alike-calls Read (Err d) (Ok y) p item e = cc

told-alike : (r s : Result Delivery (Cause Refusal)) → unnumbered_answer r ≡ unnumbered_answer s → unnumbered_reply (told r) ≡ unnumbered_reply (told s)
told-alike (Ok x) (Ok y) e = ap (λ z. told z) e
told-alike (Err d) (Err f) e = ap (λ z. told z) e
told-alike (Ok x) (Err f) e = cc
told-alike (Err d) (Ok y) e = cc

-- a call of the context over its own records
record Own (passes : Passes) (node : List ℕ) (id : ℕ) (records : List Record) (f : Choices) (call : Call) : Type 0 where
  reply_is : unnumbered_reply (reply_of passes records f call) ≡ unnumbered_reply (reply_of passes (own node id records) f call)
  put_is : put_of passes records f call ≡ put_of passes (own node id records) f call

own_call : (passes : Passes) (node : List ℕ) (id : ℕ) (records : List Record) (f : Choices) (call : Call) → concerns node id call ≡ true → length records < record_limit → Own passes node id records f call
own_call passes node id records f (Deliver n t) e short =
    let p = and_parts (bytes_eq n node) _ e in
    let at : n ≡ node = (bytes_eq-Decides n node).0 p.0 in
    let P : List ℕ → Type 0 = λ z. unnumbered_result (first_failed passes f.verifier records n t) ≡ unnumbered_result (first_failed passes f.verifier (own z id records) n t) in
    let same = subst P at (isolated_document passes f.verifier records n id t p.1 short) in
    let a = alike-calls f.keeper.reading (first_failed passes f.verifier records n t) (first_failed passes f.verifier (own node id records) n t) f.keeper.putting delivered_record same in
    record { reply_is = told-alike _ _ a.result_is; put_is = a.put_is }
own_call passes node id records f (Send n i o content) e short =
    let p = and_parts (bytes_eq n node) _ e in
    let at : n ≡ node = (bytes_eq-Decides n node).0 p.0 in
    let same_id : i ≡ id = eqb-true i id p.1 in
    let P : List ℕ → Type 0 = λ z. protected records n i o content ≡ protected (own z i records) n i o content in
    let Q : ℕ → Type 0 = λ z. protected records n i o content ≡ protected (own node z records) n i o content in
    let same = subst Q same_id (subst P at (isolated_message records n i o content short)) in
    let F : Result Sealed sending.Refusal → Outcome sending.Refusal Sealed = λ r. behind_reading f.keeper.reading (or_refusal r (λ s. puts f.keeper.putting (sent_record s) s)) in
    record { reply_is = ap (λ r. unnumbered_reply (made (F r).result)) same; put_is = ap (λ r. (F r).put) same }
own_call passes node id records f (Puts o) e short = record { reply_is = refl; put_is = refl }

-- ---- what a call puts is of the context that the call is of

pub is_id-at : (o : Option ℕ) (i j : ℕ) → o ≡ Some i → is_id o j ≡ (i == j)
is_id-at o i j e = rw e

pub length_after : (records : List Record) (o : Option Record) → length (with_put records o) ≤ length records + 1
length_after records None = omega arith
length_after records (Some r) = omega (arith, length-append records (r ∷ []))

put_names : (passes : Passes) (node : List ℕ) (id : ℕ) (records : List Record) (f : Choices) (call : Call) (r : Record) → put_of passes records f call ≡ Some r → is_of node id r ≡ concerns node id call
put_names passes node id records f (Deliver n t) r e =
    let p = puts-some f.keeper.reading (first_failed passes f.verifier records n t) f.keeper.putting delivered_record r e in
    let passed = accepted-passed passes f.verifier records n t p.value p.is in
    let named = is_id-at (received_id (received t)) p.value.id id (ap received_id passed.form ∙ ap (λ i. Some i) (sym passed.id_is)) in
    let P : Record → Type 0 = λ z. is_of node id z ≡ concerns node id (Deliver n t) in
    subst P p.item_is (rw (passed.new.node_is, named))
put_names passes node id records f (Send n i o content) r e =
    let p = puts-some f.keeper.reading (protected records n i o content) f.keeper.putting sent_record r e in
    let next = protected-ok records n i o content p.value p.is in
    let P : Record → Type 0 = λ z. is_of node id z ≡ concerns node id (Send n i o content) in
    subst P p.item_is (rw (next.node_is, next.id_is))
put_names passes node id records f (Puts o) r e = rw e

-- the context's records after a call
own_after : (passes : Passes) (node : List ℕ) (id : ℕ) (records : List Record) (f : Choices) (call : Call) → concerns node id call ≡ true → length records < record_limit
    → own node id (after passes records f call) ≡ after passes (own node id records) f call
own_after passes node id records f call e short = stepped (put_of passes records f call) refl
  where
    stepped : (o : Option Record) → put_of passes records f call ≡ o → own node id (with_put records o) ≡ with_put (own node id records) (put_of passes (own node id records) f call)
    stepped None h = ap (with_put (own node id records)) (sym h ∙ (own_call passes node id records f call e short).put_is)
    stepped (Some r) h =
        own-append node id records (r ∷ []) ∙ (ap (λ rs. own node id records ++ rs) (own-one node id r (put_names passes node id records f call r h ∙ e))
        ∙ ap (with_put (own node id records)) (sym h ∙ (own_call passes node id records f call e short).put_is))

other_after : (passes : Passes) (node : List ℕ) (id : ℕ) (records : List Record) (f : Choices) (call : Call) → concerns node id call ≡ false → own node id (after passes records f call) ≡ own node id records
other_after passes node id records f call e = stepped (put_of passes records f call) refl
  where
    stepped : (o : Option Record) → put_of passes records f call ≡ o → own node id (with_put records o) ≡ own node id records
    stepped None h = refl
    stepped (Some r) h = own-append_other node id records r (put_names passes node id records f call r h ∙ e)

pub apart : (passes : Passes) (node : List ℕ) (id : ℕ) (records : List Record) (events : List Event) → length records + length events ≤ record_limit
    → map unnumbered_reply (own_replies passes node id records events) ≡ map unnumbered_reply (replies passes (own node id records) (own_events node id events))
apart passes node id records [] short = refl
apart passes node id records (e ∷ es) short =
    stepped (concerns node id e.1) refl (apart passes node id (after passes records e.0 e.1) es (omega (arith, length_after records (put_of passes records e.0 e.1))))
  where
    stepped : (b : Bool) → concerns node id e.1 ≡ b
        → map unnumbered_reply (own_replies passes node id (after passes records e.0 e.1) es) ≡ map unnumbered_reply (replies passes (own node id (after passes records e.0 e.1)) (own_events node id es))
        → map unnumbered_reply (cond b (reply_of passes records e.0 e.1 ∷ own_replies passes node id (after passes records e.0 e.1) es) (own_replies passes node id (after passes records e.0 e.1) es))
        ≡ map unnumbered_reply (replies passes (own node id records) (cond b (e ∷ own_events node id es) (own_events node id es)))
    stepped true h ih =
        let room : length records < record_limit = omega arith in
        ap₂ (λ (r : Reply) (rs : List Reply). r ∷ rs) (own_call passes node id records e.0 e.1 h room).reply_is
        (ih ∙ ap (λ (rs : List Record). map unnumbered_reply (replies passes rs (own_events node id es))) (own_after passes node id records e.0 e.1 h room))
    stepped false h ih = ih ∙ ap (λ (rs : List Record). map unnumbered_reply (replies passes rs (own_events node id es))) (other_after passes node id records e.0 e.1 h)

-- ---- the number of a delivery

-- the place that is found is that of the first that passes
pub record IsPlace {X : Type 0} (p : X → Bool) (k n : ℕ) (xs : List X) : Type 0 where
  pub place : ℕ
  pub is : n ≡ k + place
  pub get : slice_get xs place ≡ find p xs

pub position_from-is : {X : Type 0} (p : X → Bool) (k n : ℕ) (xs : List X) → position_from p k xs ≡ Some n → IsPlace p k n xs
position_from-is p k n [] e = cc
position_from-is {X} p k n (x ∷ xs) e =
    let r = found (p x) e (λ z. position_from-is p (k + 1) n xs z) in record { place = r.0; is = r.1; get = r.2 }
  where
    found : (b : Bool) → cond b (Some k) (position_from p (k + 1) xs) ≡ Some n → (position_from p (k + 1) xs ≡ Some n → IsPlace p (k + 1) n xs)
        → (place : ℕ) × (n ≡ k + place) × (slice_get (x ∷ xs) place ≡ cond b (Some x) (find p xs))
    found true h ih = (0, (let same : k ≡ n = cc in omega arith), refl)
    found false h ih = let r = ih h in (suc r.place, (let e = r.is in omega arith), r.get)

find-filter : {X : Type 0} (p q : X → Bool) (xs : List X) → find (λ x. q x && p x) (filter q xs) ≡ find (λ x. q x && p x) xs
find-filter p q [] = refl
find-filter {X} p q (x ∷ xs) = passed (q x) refl (find-filter p q xs)
  where
    passed : (b : Bool) → q x ≡ b → find (λ x. q x && p x) (filter q xs) ≡ find (λ x. q x && p x) xs → find (λ x. q x && p x) (cond b (x ∷ filter q xs) (filter q xs)) ≡ cond (b && p x) (Some x) (find (λ x. q x && p x) xs)
    passed true e ih = rw e (ap (λ z. cond (p x) (Some x) z) ih)
    passed false e ih = ih

-- the number in a replay's refusal names one record, in the whole list and among the context's own
pub same_delivery : (node : List ℕ) (id : ℕ) (kind : Kind) (message k l : ℕ) (records : List Record) → delivered_at node id kind message records ≡ Some k → delivered_at node id kind message (own node id records) ≡ Some l
    → slice_get records k ≡ slice_get (own node id records) l
same_delivery node id kind message k l records e f =
    let a = position_from-is (λ r. is_of node id r && is_delivery kind message r) 0 k records e in
    let b = position_from-is (λ r. is_of node id r && is_delivery kind message r) 0 l (own node id records) f in
    let at : k ≡ a.place = omega (arith, a.is) in
    let there : l ≡ b.place = omega (arith, b.is) in
    ap (slice_get records) at ∙ (a.get ∙ (sym (find-filter (is_delivery kind message) (is_of node id) records) ∙ (sym b.get ∙ ap (slice_get (own node id records)) (sym there))))
