-- What a run tells a context is what it would be told in a world of its own.
use Rattle.std.proofs.Common.{◌≡◌, ℕ, ◌+◌, ◌<◌, Bool, true, false, List, [], ◌∷◌, ◌++◌, length, map, Option, Some, None, is_some, Result, Ok, Err, refl, sym, ap, ap₂, ◌∙◌, subst, cond, arith, length-append}
use Rattle.std.specs.Prelude.{ℤ, MatchBool, bytes_eq, option_and_then}
use Rattle.std.specs.List.{list_any}
use Rattle.std.proofs.lemmas.Bool.{and_parts, or_parts, eqb-true}
use Rattle.std.proofs.lemmas.Slice.Eq.{bytes_eq-Decides}
use Rattle.spec_documents.specs.Tree.{Tree}
use Rattle.spec_documents.specs.Chain.{◌>>=◌, unless}
use Rattle.spec_documents.specs.Lines.{is_blank}
use Rattle.spec_messages.specs.Message.{Message, wanted}
use Rattle.spec_messages.specs.Limits.{full_wire}
use Rattle.spec_records.specs.Records.{Record, own, record_limit}
use Rattle.spec_sealing.specs.Received.{Received, received}
use Rattle.spec_exchange.specs.AcceptRefusals as accepting
use Rattle.spec_exchange.specs.AcceptRefusals.{Receiving}
use Rattle.spec_exchange.specs.ReceivingRefusals.{Replay}
use Rattle.spec_exchange.specs.SendingRefusals as sending
use Rattle.spec_exchange.specs.EntryChecks.{Claim}
use Rattle.spec_exchange.specs.Isolation.{unnumbered, unnumbered_result, is_id}
use Rattle.spec_exchange.specs.Outside.{Cause, Own, Outside, Kept, Outcome, no_fault, or_refusal, with_put}
use Rattle.spec_exchange.specs.Outside as outside
use Rattle.spec_exchange.specs.Calls.{Sealed, Outgoing, delivered_record, sends, accepted, protected}
use Rattle.spec_exchange.specs.Stages.{Delivery}
use Rattle.spec_exchange.specs.Accepting.{first_failed}
use Rattle.spec_exchange.specs.Screens.{Passes}
use Rattle.spec_exchange.proofs.IsolationLemmas.{isolated_document, isolated_message}
use Rattle.spec_script.specs.Refusals.{Refusal, NodeUnknown, WireUnknown, Beyond, OfReceiving}
use Rattle.spec_script.specs.Reports.{report_with, report_on}
use Rattle.spec_script.specs.Events.{Event, AddContext, AddKeys, Send, Deliver, StartWith, AnswerTo, FinishBy, Terminate, EndBy, line_event}
use Rattle.spec_script.specs.Choices.{Choices, Meanings, IsBy, unfailing, of_accepting}
use Rattle.spec_script.specs.Steps.{State, Step, Answer, Refuses, or_refuses, next_number, sealed_answer, sends_sealed, delivery_answer, delivers, plmn_at, wire_at, is_full, message_to_send, step, step_with, line_step}
use Rattle.spec_script.specs.Output.{Answered, Numbered, has_refusal, is_outside_refusal}
use Rattle.spec_script.proofs.FaultLemmas.{line_determined}
use Rattle.spec_script.proofs.OutputLemmas.{run-grown}
use Rattle.spec_isolation.specs.Concerns.{Brought, ToSend, Makes, sealed_for, names, concerns, arrival, brought}
use Rattle.spec_isolation.specs.Alone as alone
use Rattle.spec_isolation.specs.Alone.{world_of, sends_alone, delivers_alone, told_alone}
use Rattle.spec_isolation.specs.OwnPart as part
use Rattle.spec_isolation.specs.OwnPart.{Undisturbed, onto_own, by_line, own_in, own_part, all_brought, told, but_for_numbers, is_hindrance}
use Rattle.spec_isolation.proofs.RecordLemmas.{other_event, own_event}

-- ---- steps alike

-- they answer the same but for numbers, and put the same
record Alike (r q : Step) : Type 0 where
  pub answer_is : but_for_numbers r.answer ≡ but_for_numbers q.answer
  pub put_is : r.put ≡ q.put

sealed_alike : (k l : ℕ) (r : Result Sealed (Cause sending.Refusal)) → but_for_numbers (sealed_answer k r) ≡ but_for_numbers (sealed_answer l r)
sealed_alike k l (Ok x) = refl
sealed_alike k l (Err (Own e)) = refl
sealed_alike k l (Err (Outside fault)) = refl

-- a report is the same whatever record a replay names
replay_report : (k l : ℕ) (r : Result Received (List ℕ)) → report_with (Receiving (Replay k)) r ≡ report_with (Receiving (Replay l)) r
replay_report k l (Ok parts) = refl
replay_report k l (Err member) = refl

same_report : (t : Tree) (e : accepting.Refusal) → report_on t (unnumbered e) ≡ report_on t e
same_report t (Receiving (Replay k)) = replay_report 0 k (received t)
same_report t _ = refl

came_alike : (s w : State) (t : Tree) (r q : Result Delivery accepting.Refusal) → unnumbered_result r ≡ unnumbered_result q
    → Alike (delivers s t (or_refusal r (λ d. outside.puts Kept (delivered_record d) d))) (delivers w t (or_refusal q (λ d. outside.puts Kept (delivered_record d) d)))
came_alike s w t (Ok x) (Ok y) e = let same : x ≡ y = cc in record { answer_is = ap (λ d. but_for_numbers (delivery_answer t (Ok d))) same; put_is = ap (λ d. Some (delivered_record d)) same }
came_alike s w t (Err d) (Err f) e =
    let same : unnumbered d ≡ unnumbered f = cc in
    let report : report_on t d ≡ report_on t f = sym (same_report t d) ∙ (ap (report_on t) same ∙ same_report t f) in
    record { answer_is = ap₂ (λ (x : accepting.Refusal) (y : Option Tree). Refuses (OfReceiving x y)) same report; put_is = refl }
came_alike s w t (Ok x) (Err f) e = cc
came_alike s w t (Err d) (Ok y) e = cc

-- ---- a message

-- the step of a message to send: o is the node's network, and full whether the wire is
abbrev sent_by : State → (node : List ℕ) (id : ℕ) → (o : Option (List ℕ)) → (full : Bool) → Result (Outgoing × Message) Refusal → Step
sent_by s node id o full r = or_refuses s (wanted o NodeUnknown >>= λ plmn. unless full (Beyond full_wire) >>= λ room. r >>= λ m. Ok (sends_sealed s (sends no_fault s.records node id m.0 m.1)))

sent_alike : (s w : State) (node : List ℕ) (id : ℕ) → w.records ≡ own node id s.records → length s.records < record_limit
    → (o p : Option (List ℕ)) (full : Bool) (r : Result (Outgoing × Message) Refusal) → is_some o ≡ true → is_some p ≡ true → has_refusal is_hindrance (sent_by s node id o full r).answer ≡ false
    → Alike (sent_by s node id o full r) (sent_by w node id p false r)
unfolding ◌>>=◌
sent_alike s w node id own_is short (Some x) (Some y) false (Err e) known there h = record { answer_is = refl; put_is = refl }
sent_alike s w node id own_is short (Some x) (Some y) false (Ok m) known there h =
    let same : sends no_fault s.records node id m.0 m.1 ≡ sends no_fault w.records node id m.0 m.1 =
    ap (λ r. or_refusal r (λ z. outside.puts Kept (Rattle.spec_exchange.specs.Calls.sent_record z) z)) (isolated_message s.records node id m.0 m.1 short ∙ ap (λ rs. protected rs node id m.0 m.1) (sym own_is)) in
    let P : Outcome sending.Refusal Sealed → Type 0 = λ z. Alike (sends_sealed s (sends no_fault s.records node id m.0 m.1)) (sends_sealed w z) in
    subst P same (record { answer_is = sealed_alike (next_number s) (next_number w) (sends no_fault s.records node id m.0 m.1).result; put_is = refl })
sent_alike s w node id own_is short (Some x) (Some y) true r known there h = cc
sent_alike s w node id own_is short None p full r known there h = cc
sent_alike s w node id own_is short (Some x) None full r known there h = cc

-- ---- a document

abbrev came_by : Passes → (Claim → Bool) → State → (node : List ℕ) → (o : Option (List ℕ)) → (document : Option Tree) → Step
came_by passes verifier s node o document = or_refuses s (wanted o NodeUnknown >>= λ plmn. wanted document WireUnknown >>= λ t. Ok (delivers s t (accepted passes (of_accepting (alone.alone verifier)) s.records node t)))

came_by-alike : (passes : Passes) (verifier : Claim → Bool) (s w : State) (node : List ℕ) (id : ℕ) → w.records ≡ own node id s.records → length s.records < record_limit
    → (o p : Option (List ℕ)) (t : Tree) → is_some o ≡ true → is_some p ≡ true → is_id (sealed_for t) id ≡ true
    → Alike (came_by passes verifier s node o (Some t)) (came_by passes verifier w node p (Some t))
unfolding ◌>>=◌
came_by-alike passes verifier s w node id own_is short (Some x) (Some y) t known there named =
    let v = (alone.alone verifier).verifier in
    came_alike s w t (first_failed passes v s.records node t) (first_failed passes v w.records node t)
    (isolated_document passes v s.records node id t named short ∙ ap (λ rs. unnumbered_result (first_failed passes v rs node t)) (sym own_is))
came_by-alike passes verifier s w node id own_is short None p t known there named = cc
came_by-alike passes verifier s w node id own_is short (Some x) None t known there named = cc

-- ---- an event of a context

-- in its own world the node is known
node_there : (node : List ℕ) (wire : List Tree) (records : List Record) → is_some (plmn_at (world_of node wire records).sites node) ≡ true
node_there node wire records = ap (λ b. is_some {T = List ℕ} (cond b (Some []) None)) ((bytes_eq-Decides node node).1 refl)

no_outside : (a : Answer) → has_refusal is_hindrance a ≡ false → has_refusal is_outside_refusal a ≡ false
no_outside (Refuses (Beyond limit)) h = refl
no_outside (Refuses _) h = h
no_outside _ h = refl

-- the event's names
record Named (node : List ℕ) (id : ℕ) (s : State) (n : List ℕ) (i : Option ℕ) : Type 0 where
  pub known : is_some (plmn_at s.sites n) ≡ true
  pub node_is : n ≡ node
  pub id_is : is_id i id ≡ true

named : (node : List ℕ) (id : ℕ) (s : State) (n : List ℕ) (i : Option ℕ) → names node id s n i ≡ true → Named node id s n i
named node id s n i e =
    let a = and_parts (is_some (plmn_at s.sites n)) _ e in
    let b = and_parts (bytes_eq n node) _ a.1 in
    record { known = a.0; node_is = (bytes_eq-Decides n node).0 b.0; id_is = b.1 }

-- a step without faults, where it is answered none
unfailed : (m : Meanings) (s : State) (f : Choices) → IsBy m f → (e : Event) → has_refusal is_hindrance (step m.passes s f e).answer ≡ false → step m.passes s f e ≡ step m.passes s (unfailing m) e
unfailed m s f by e h = line_determined m s f by (Ok e) (no_outside _ h)

send_alike : (m : Meanings) (s : State) (f : Choices) → IsBy m f → (node : List ℕ) (id : ℕ) (n : List ℕ) (i : ℕ) (t : Tree) (answers : Option ℕ)
    → Named node id s n (Some i) → length s.records < record_limit → has_refusal is_hindrance (step m.passes s f (Send n i t answers)).answer ≡ false
    → Alike (step m.passes s f (Send n i t answers)) (sends_alone m.verifier m.passes node id (own node id s.records) t answers)
send_alike m s f by node id n i t answers named short h =
    let e = unfailed m s f by (Send n i t answers) h in
    let same_id : i ≡ id = eqb-true i id named.id_is in
    let w : State = world_of n [] (own n i s.records) in
    let P : Step → Type 0 = λ z. Alike z (sends_alone m.verifier m.passes n i (own n i s.records) t answers) in
    let Q : List ℕ → Type 0 = λ z. Alike (step m.passes s f (Send n i t answers)) (sends_alone m.verifier m.passes z i (own z i s.records) t answers) in
    let R : ℕ → Type 0 = λ z. Alike (step m.passes s f (Send n i t answers)) (sends_alone m.verifier m.passes node z (own node z s.records) t answers) in
    subst R same_id (subst Q named.node_is (subst P (sym e)
    (sent_alike s w n i refl short (plmn_at s.sites n) (plmn_at w.sites n) (is_full s.wire) (message_to_send t answers) named.known (node_there n [] (own n i s.records)) (sym (ap (λ (z : Step). has_refusal is_hindrance z.answer) e) ∙ h))))

-- the document of a number, which names the context
record IsThere (id : ℕ) (o : Option Tree) : Type 0 where
  pub document : Tree
  pub is : o ≡ Some document
  pub named : is_id (sealed_for document) id ≡ true

is_there : (id : ℕ) (o : Option Tree) → is_id (option_and_then sealed_for o) id ≡ true → IsThere id o
is_there id (Some t) e = record { document = t; is = refl; named = e }
is_there id None e = cc

deliver_alike : (m : Meanings) (s : State) (f : Choices) → IsBy m f → (node : List ℕ) (id : ℕ) (n : List ℕ) (number : ℤ) (d : IsThere id (wire_at s.wire number))
    → Named node id s n (option_and_then sealed_for (wire_at s.wire number)) → length s.records < record_limit → has_refusal is_hindrance (step m.passes s f (Deliver n number)).answer ≡ false
    → Alike (step m.passes s f (Deliver n number)) (delivers_alone m.verifier m.passes node (own node id s.records) d.document)
deliver_alike m s f by node id n number d named short h =
    let e = unfailed m s f by (Deliver n number) h in
    let w : State = world_of n (d.document ∷ []) (own n id s.records) in
    let P : Step → Type 0 = λ z. Alike z (delivers_alone m.verifier m.passes n (own n id s.records) d.document) in
    let D : Option Tree → Type 0 = λ z. Alike (came_by m.passes m.verifier s n (plmn_at s.sites n) z) (delivers_alone m.verifier m.passes n (own n id s.records) d.document) in
    let Q : List ℕ → Type 0 = λ z. Alike (step m.passes s f (Deliver n number)) (delivers_alone m.verifier m.passes z (own z id s.records) d.document) in
    subst Q named.node_is (subst P (sym e) (subst D (sym d.is)
    (came_by-alike m.passes m.verifier s w n id refl short (plmn_at s.sites n) (plmn_at w.sites n) d.document named.known (node_there n (d.document ∷ []) (own n id s.records)) d.named)))

-- ---- runs

-- what these events were told is what their context would be told over these records
record ToldAlone (m : Meanings) (node : List ℕ) (id : ℕ) (records : List Record) (events : List part.Own) : Type 0 where
  pub is : list_any (has_refusal is_hindrance) (told events) ≡ false → map but_for_numbers (told events) ≡ map but_for_numbers (told_alone m.verifier m.passes node id (own node id records) (all_brought events))

-- the first of them and the rest, over the records that the first leaves
told_first : (m : Meanings) (node : List ℕ) (id : ℕ) (s : State) (a b : Answer) (put : Option Record) (left : List Record) (events : List part.Own)
    → own node id left ≡ with_put (own node id s.records) put → but_for_numbers a ≡ but_for_numbers b → ToldAlone m node id left events
    → list_any (has_refusal is_hindrance) (told events) ≡ false
    → map but_for_numbers (a ∷ told events) ≡ map but_for_numbers (b ∷ told_alone m.verifier m.passes node id (with_put (own node id s.records) put) (all_brought events))
told_first m node id s a b put left events own_is same rest h =
    ap₂ (λ (x : Answer) (xs : List Answer). x ∷ xs) same
    (rest.is h ∙ ap (λ (rs : List Record). map but_for_numbers (told_alone m.verifier m.passes node id rs (all_brought events))) own_is)

-- an event of the context, in front of the later ones
sent_told : (m : Meanings) (s : State) (f : Choices) → IsBy m f → (node : List ℕ) (id : ℕ) (n : List ℕ) (i : ℕ) (t : Tree) (answers : Option ℕ) → concerns node id s (Send n i t answers) ≡ true → length s.records < record_limit
    → (events : List part.Own) → ToldAlone m node id (with_put s.records (step m.passes s f (Send n i t answers)).put) events → ToldAlone m node id s.records ((ToSend t answers, (step m.passes s f (Send n i t answers)).answer) ∷ events)
sent_told m s f by node id n i t answers c short events rest = record {
  is = λ h.
      let p = or_parts (has_refusal is_hindrance (step m.passes s f (Send n i t answers)).answer) _ h in
      let a = send_alike m s f by node id n i t answers (named node id s n (Some i) c) short p.0 in
      told_first m node id s _ _ _ (with_put s.records (step m.passes s f (Send n i t answers)).put) events
      (own_event m.passes s f node id (Send n i t answers) c ∙ ap (with_put (own node id s.records)) a.put_is) a.answer_is rest p.1;
}

came_told : (m : Meanings) (s : State) (f : Choices) → IsBy m f → (node : List ℕ) (id : ℕ) (n : List ℕ) (number : ℤ) → concerns node id s (Deliver n number) ≡ true → length s.records < record_limit
    → (events : List part.Own) → ToldAlone m node id (with_put s.records (step m.passes s f (Deliver n number)).put) events → ToldAlone m node id s.records ((arrival (wire_at s.wire number), (step m.passes s f (Deliver n number)).answer) ∷ events)
came_told m s f by node id n number c short events rest =
    let all = named node id s n (option_and_then sealed_for (wire_at s.wire number)) c in
    let d = is_there id (wire_at s.wire number) all.id_is in
    let P : Option Tree → Type 0 = λ z. ToldAlone m node id s.records ((arrival z, (step m.passes s f (Deliver n number)).answer) ∷ events) in
    subst P (sym d.is) (record {
      is = λ h.
          let p = or_parts (has_refusal is_hindrance (step m.passes s f (Deliver n number)).answer) _ h in
          let a = deliver_alike m s f by node id n number d all short p.0 in
          told_first m node id s _ _ _ (with_put s.records (step m.passes s f (Deliver n number)).put) events
          (own_event m.passes s f node id (Deliver n number) c ∙ ap (with_put (own node id s.records)) a.put_is) a.answer_is rest p.1;
    })

made_told : (m : Meanings) (s : State) (f : Choices) (node : List ℕ) (id : ℕ) (e : Event) → concerns node id s e ≡ true
    → (events : List part.Own) → ToldAlone m node id (with_put s.records (step m.passes s f e).put) events → ToldAlone m node id s.records ((Makes (step m.passes s f e).put, (step m.passes s f e).answer) ∷ events)
made_told m s f node id e c events rest = record {
  is = λ h.
      rest.is h ∙ ap (λ (rs : List Record). map but_for_numbers (told_alone m.verifier m.passes node id rs (all_brought events))) (own_event m.passes s f node id e c);
}

event_told : (m : Meanings) (s : State) (f : Choices) → IsBy m f → (node : List ℕ) (id : ℕ) (e : Event) → concerns node id s e ≡ true → length s.records < record_limit
    → (events : List part.Own) → ToldAlone m node id (with_put s.records (step m.passes s f e).put) events → ToldAlone m node id s.records ((brought s e (step m.passes s f e), (step m.passes s f e).answer) ∷ events)
event_told m s f by node id (Send n i t answers) c short events rest = sent_told m s f by node id n i t answers c short events rest
event_told m s f by node id (Deliver n number) c short events rest = came_told m s f by node id n number c short events rest
event_told m s f by node id (AddContext x) c short events rest = made_told m s f node id (AddContext x) c events rest
event_told m s f by node id (AddKeys n i set) c short events rest = made_told m s f node id (AddKeys n i set) c events rest
event_told m s f by node id (StartWith n peer x) c short events rest = made_told m s f node id (StartWith n peer x) c events rest
event_told m s f by node id (AnswerTo n number x) c short events rest = made_told m s f node id (AnswerTo n number x) c events rest
event_told m s f by node id (FinishBy n number) c short events rest = made_told m s f node id (FinishBy n number) c events rest
event_told m s f by node id (Terminate n i) c short events rest = made_told m s f node id (Terminate n i) c events rest
event_told m s f by node id (EndBy n number) c short events rest = made_told m s f node id (EndBy n number) c events rest
event_told m s f by node id _ c short events rest = cc

-- a line, which may be of no event
line_told : (m : Meanings) (s : State) (f : Choices) → IsBy m f → (node : List ℕ) (id : ℕ) (r : Result Event Refusal) → length s.records < record_limit
    → (events : List part.Own) → ToldAlone m node id (with_put s.records (step_with m.passes s f r).put) events → ToldAlone m node id s.records (onto_own node id s r (step_with m.passes s f r) events)
line_told m s f by node id (Err e) short events rest = rest
line_told m s f by node id (Ok e) short events rest = concerned (concerns node id s e) refl
  where
    concerned : (b : Bool) → concerns node id s e ≡ b → ToldAlone m node id s.records (cond b ((brought s e (step m.passes s f e), (step m.passes s f e).answer) ∷ events) events)
    concerned true c = event_told m s f by node id e c short events rest
    concerned false c = let P : List Record → Type 0 = λ rs. list_any (has_refusal is_hindrance) (told events) ≡ false → map but_for_numbers (told events) ≡ map but_for_numbers (told_alone m.verifier m.passes node id rs (all_brought events)) in
        record { is = subst P (other_event m.passes s f node id e c) rest.is }

-- what holds of a blank line's events and of another's
in_line : {B N : Type 0} (b : Bool) (x : MatchBool b B N) (blank : B → List part.Own) (spoken : N → List part.Own) (P : List part.Own → Type 0)
    → ((y : B) → P (blank y)) → ((y : N) → P (spoken y)) → P (by_line b x blank spoken)
in_line true x blank spoken P h k = h x
in_line false x blank spoken P h k = k x

run_told : (m : Meanings) (node : List ℕ) (id : ℕ) (s : State) (n : ℕ) (lines : List (List ℕ)) (answers : List Numbered) (last : State) → (run : Answered m s n lines answers last)
    → length last.records < record_limit → ToldAlone m node id s.records (own_in m node id s n lines answers last run)
run_told m node id s n [] answers last run room = record { is = λ h. refl }
run_told m node id s n (line ∷ lines) answers last run room =
    let g = run-grown m s n (line ∷ lines) answers last run in
    let held : length last.records ≡ length (s.records ++ g.more) = ap length g.are in
    let short : length s.records < record_limit = omega (arith, held, length-append s.records g.more) in
    in_line (is_blank line) run _ _ (λ xs. ToldAlone m node id s.records xs)
    (λ rest. run_told m node id s (n + 1) lines answers last rest room)
    λ k.
    let P : List Record → Type 0 = λ rs. ToldAlone m node id rs (own_in m node id k.2 (n + 1) lines k.1 last k.5) in
    let after_is : k.2.records ≡ with_put s.records (line_step m.passes s k.4.0 line).put = ap (λ (z : State). z.records) k.4.3 in
    line_told m s k.4.0 k.4.1 node id (line_event line) short _ (subst P after_is (run_told m node id k.2 (n + 1) lines k.1 last k.5 room))

pub run_alone : (m : Meanings) (run : part.Run m) (node : List ℕ) (id : ℕ) → Undisturbed node id run
    → map but_for_numbers (told (own_part node id run)) ≡ map but_for_numbers (told_alone m.verifier m.passes node id (own node id run.start.records) (all_brought (own_part node id run)))
run_alone m run node id calm = (run_told m node id run.start run.first run.lines run.answers run.end run.answered calm.room).is calm.unhindered

pub runs_alike : (m : Meanings) (run other : part.Run m) (node : List ℕ) (id : ℕ) → Undisturbed node id run → Undisturbed node id other
    → own node id run.start.records ≡ own node id other.start.records → all_brought (own_part node id run) ≡ all_brought (own_part node id other)
    → map but_for_numbers (told (own_part node id run)) ≡ map but_for_numbers (told (own_part node id other))
runs_alike m run other node id calm other_calm held brought =
    run_alone m run node id calm
    ∙ (ap₂ (λ (rs : List Record) (bs : List Brought). map but_for_numbers (told_alone m.verifier m.passes node id rs bs)) held brought
    ∙ sym (run_alone m other node id other_calm))
