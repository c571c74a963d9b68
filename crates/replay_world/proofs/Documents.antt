-- What sending and delivering leave of a world.
use Rattle.std.proofs.Common.{◌≡◌, ◌+◌, ℕ, List, [], ◌∷◌, ◌++◌, length, true, false, is_some, Option, Result, Ok, Err, refl, sym, ap, ap₂, subst, ◌∙◌, inr}
use Rattle.spec_documents.specs.Tree.{Tree}
use Rattle.spec_messages.specs.Message.{Message}
use Rattle.spec_records.specs.Records.{Record}
use Rattle.http_message.specs.Reading.{message_view}
use Rattle.spec_exchange.specs.AcceptRefusals as receiving
use Rattle.spec_exchange.specs.SendingRefusals as sending
use Rattle.spec_exchange.specs.Outside.{Choice, Journal, Keeper, Cause, Own, Outside, Outcome}
use Rattle.spec_exchange.specs.Calls.{Sealed, Outgoing, sends, accepted}
use Rattle.spec_exchange.specs.EntryChecks.{Verifying}
use Rattle.spec_exchange.specs.Screens.{Passes}
use Rattle.spec_exchange.specs.Stages.{Delivery}
use Rattle.spec_script.specs.Refusals.{OfSending, OfReceiving, of_cause}
use Rattle.spec_script.specs.Events.{Inject, Reported}
use Rattle.spec_script.specs.Reports.{report_on}
use Rattle.spec_reports.specs.Report.{Report}
use Rattle.spec_reports.specs.Document.{report_in}
use Rattle.spec_script.specs.Answers.{answer_text}
use Rattle.spec_script.specs.Steps.{State, Step, OnWire, Reports, Refuses, injects, forwards, reports, is_full, plmn_at, delivers, delivery_answer, sends_sealed, sealed_answer, sealed_sent, with_sent}
use Rattle.sending_sepp.specs.Outcome as sent
use Rattle.sending_sepp.specs.Sending.{refusal_view as sent_view}
use Rattle.sending_sepp.specs.declared.fault.SendFault.{SendFault}
use Rattle.receiving_sepp.specs.Outcome as received
use Rattle.receiving_sepp.specs.Views.{refused_view}
use Rattle.receiving_sepp.specs.declared.delivery.Delivered.{Delivered}
use Rattle.context_store.specs.declared.call_faults.CallFault.{CallFault}
use Rattle.receiving_sepp.specs.declared.refused.Refused.{Refused}
use Rattle.context_store.specs.declared.call_faults.CallFault.TheVariants as calling
use Rattle.script_lines.specs.AnswerTexts as texts
use Rattle.script_lines.specs.View.{refusal_view}
use Rattle.script_lines.specs.declared.refusal.Refusal.{Refusal}
use Rattle.script_lines.specs.declared.refusal.Refusal.TheVariants as refusals
use Rattle.context_store.specs.Changes.{CallBy}
use Rattle.replay_world.specs.Refusing.{of_sending, of_receiving}
use Rattle.replay_world.specs.Worlds.{sites_view, state_of}
use Rattle.replay_world.specs.Stepping.{Makes, HasPut, GivesUp, Tells, Comes}
use Rattle.replay_world.specs.Outsiders.{all_pass, idle, by, unasked}
use Rattle.replay_world.specs.Wires.{HasMore}
use Rattle.replay_world.specs.declared.world.World.{World}
use Rattle.script_lines.specs.declared.unanswered.Unanswered.TheVariants as unanswered
use Rattle.replay_world.proofs.Parts.{Idles, stays_itself, by_call, gives_up_idly}
use Rattle.replay_world.proofs.EventSteps.{given_goes_on, report_told}

-- ---- delivering

-- the call that accepts, behind a screen and with a verifier
abbrev pub taken : Passes → Verifying → (node : List ℕ) → Tree → Choice → List Record → Outcome receiving.Refusal Delivery
taken passes v node t f records = accepted passes (record { keeper = f; verifier = v }) records node t

told_delivered : (t : Tree) (number : ℕ) (text : List ℕ) (x : Delivered) (r : Result Delivery (Cause receiving.Refusal)) → received.Answers (Ok x) r → text ≡ texts.delivered_answer number (message_view x.message) x.id.value → Tells number (Ok text) (delivery_answer t r)
told_delivered t number text x r a is =
    subst (λ (z : Result Delivery (Cause receiving.Refusal)). Tells number (Ok text) (delivery_answer t z)) (sym a.1) (is ∙ ap₂ (texts.delivered_answer number) a.2.message a.2.id, refl)

-- the wire and the nodes stay
pub comes_delivered : (passes : Passes) (v : Verifying) (steps : State → Choice → Step) (held now : Option (List (List ℕ))) (old new : World) (number : ℕ) (text node : List ℕ) (t : Tree) (x : Delivered)
    → received.Accepts passes v held now old.store new.store node t (Ok x) → ((records : List Record) (f : Choice) → steps (state_of old records) f ≡ delivers (state_of old records) t (taken passes v node t f records))
    → new.sites ≡ old.sites → new.hands ≡ old.hands → new.wire ≡ old.wire → text ≡ texts.delivered_answer number (message_view x.message) x.id.value → Comes steps held now old new number (Ok text)
comes_delivered passes v steps held now old new number text node t x h same sites starts wire is =
    by_call (taken passes v node t) (received.Answers (Ok x)) steps (λ s o. delivers s t o) held now old new.store (Makes (Tells number (Ok text)) held now old.wire new) h same
    (λ records o a change. record { told = told_delivered t number text x o.result a is; sites = ap sites_view sites; starts = starts; sent = wire; change = change })

pub delivery_gives_up : (passes : Passes) (v : Verifying) (steps : State → Choice → Step) (held now : Option (List (List ℕ))) (old new : World) (node : List ℕ) (t : Tree) (x : Delivered)
    → received.Accepts passes v held now old.store new.store node t (Ok x) → ((records : List Record) (f : Choice) → steps (state_of old records) f ≡ delivers (state_of old records) t (taken passes v node t f records))
    → new.sites ≡ old.sites → new.wire ≡ old.wire → GivesUp steps held now old new
delivery_gives_up passes v steps held now old new node t x h same sites wire = record {
  sites = ap sites_view sites;
  wire = wire;
  kept = inr (by_call (taken passes v node t) (received.Answers (Ok x)) steps (λ s o. delivers s t o) held now old new.store (HasPut held now) h same (λ records r a change. change.told));
}

-- a document that is refused
undelivered_by : (passes : Passes) (v : Verifying) (steps : State → Choice → Step) (held now : Option (List (List ℕ))) (old new : World) (number : ℕ) (node : List ℕ) (t : Tree) (e : CallFault Refused) (c : Cause receiving.Refusal) (refusal : Refusal)
    → ((r : Result Delivery (Cause receiving.Refusal)) → received.Answers (Err e) r → r ≡ Err c) → of_cause (λ d. OfReceiving d (report_on t d)) c ≡ refusal_view refusal
    → CallBy (taken passes v node t) (received.Answers (Err e)) held now old.store new.store → ((records : List Record) (f : Choice) → steps (state_of old records) f ≡ delivers (state_of old records) t (taken passes v node t f records))
    → new.sites ≡ old.sites → new.hands ≡ old.hands → new.wire ≡ old.wire → Comes steps held now old new number (Err (unanswered.Refused refusal))
undelivered_by passes v steps held now old new number node t e c refusal is view h same sites starts wire =
    by_call (taken passes v node t) (received.Answers (Err e)) steps (λ s o. delivers s t o) held now old new.store (Makes (Tells number (Err (unanswered.Refused refusal))) held now old.wire new) h same
    (λ records o a change. record { told = ap (delivery_answer t) (is o.result a) ∙ ap Refuses view; sites = ap sites_view sites; starts = starts; sent = wire; change = change })

pub comes_undelivered : (passes : Passes) (v : Verifying) (steps : State → Choice → Step) (held now : Option (List (List ℕ))) (old new : World) (number : ℕ) (node : List ℕ) (t : Tree) (e : CallFault Refused)
    → received.Accepts passes v held now old.store new.store node t (Err e) → ((records : List Record) (f : Choice) → steps (state_of old records) f ≡ delivers (state_of old records) t (taken passes v node t f records))
    → new.sites ≡ old.sites → new.hands ≡ old.hands → new.wire ≡ old.wire → Comes steps held now old new number (Err (of_receiving t e))
comes_undelivered passes v steps held now old new number node t (calling.Refused r) h same sites starts wire = undelivered_by passes v steps held now old new number node t (calling.Refused r) (Own (refused_view r)) (refusals.Receiving r (report_on t (refused_view r))) (λ r a. a) refl h same sites starts wire
comes_undelivered passes v steps held now old new number node t (calling.Journal k) h same sites starts wire = undelivered_by passes v steps held now old new number node t (calling.Journal k) (Outside (Journal k)) (refusals.Journal k) (λ r a. a) refl h same sites starts wire
comes_undelivered passes v steps held now old new number node t calling.Keeper h same sites starts wire = undelivered_by passes v steps held now old new number node t calling.Keeper (Outside Keeper) refusals.Keeper (λ r a. a) refl h same sites starts wire
comes_undelivered passes v steps held now old new number node t calling.NoMemory h same sites starts wire = gives_up_idly steps held now old new sites wire h.told

gives_up_by_call : (passes : Passes) (v : Verifying) (steps : State → Choice → Step) (held now : Option (List (List ℕ))) (old new : World) (node : List ℕ) (t : Tree) (e : CallFault Refused)
    → CallBy (taken passes v node t) (received.Answers (Err e)) held now old.store new.store → ((records : List Record) (f : Choice) → steps (state_of old records) f ≡ delivers (state_of old records) t (taken passes v node t f records))
    → new.sites ≡ old.sites → new.wire ≡ old.wire → GivesUp steps held now old new
gives_up_by_call passes v steps held now old new node t e h same sites wire = record {
  sites = ap sites_view sites;
  wire = wire;
  kept = inr (by_call (taken passes v node t) (received.Answers (Err e)) steps (λ s o. delivers s t o) held now old new.store (HasPut held now) h same (λ records o a change. change.told));
}

-- where memory was refused for a report, the document was refused
pub refusal_gives_up : (passes : Passes) (v : Verifying) (steps : State → Choice → Step) (held now : Option (List (List ℕ))) (old new : World) (node : List ℕ) (t : Tree) (e : CallFault Refused)
    → received.Accepts passes v held now old.store new.store node t (Err e) → ((records : List Record) (f : Choice) → steps (state_of old records) f ≡ delivers (state_of old records) t (taken passes v node t f records))
    → new.sites ≡ old.sites → new.wire ≡ old.wire → GivesUp steps held now old new
refusal_gives_up passes v steps held now old new node t calling.NoMemory h same sites wire = gives_up_idly steps held now old new sites wire h.told
refusal_gives_up passes v steps held now old new node t (calling.Refused r) h same sites wire = gives_up_by_call passes v steps held now old new node t (calling.Refused r) h same sites wire
refusal_gives_up passes v steps held now old new node t (calling.Journal k) h same sites wire = gives_up_by_call passes v steps held now old new node t (calling.Journal k) h same sites wire
refusal_gives_up passes v steps held now old new node t calling.Keeper h same sites wire = gives_up_by_call passes v steps held now old new node t calling.Keeper h same sites wire

-- ---- sending

told_sealed : (number wire : ℕ) (text : List ℕ) (t : Tree) (r : Result Sealed (Cause sending.Refusal)) → sent.Answers (Ok t) r → text ≡ texts.document_answer number t wire → Tells number (Ok text) (sealed_answer wire r)
told_sealed number wire text t r a is =
    subst (λ (z : Result Sealed (Cause sending.Refusal)). Tells number (Ok text) (sealed_answer wire z)) (sym a.1) (is ∙ ap (λ (d : Tree). texts.document_answer number d wire) a.2, refl)

sent_sealed : (wire : List Tree) (t : Tree) (r : Result Sealed (Cause sending.Refusal)) → sent.Answers (Ok t) r → wire ++ t ∷ [] ≡ with_sent wire (sealed_sent r)
sent_sealed wire t r a = ap (λ (d : Tree). wire ++ d ∷ []) a.2 ∙ ap (λ (z : Result Sealed (Cause sending.Refusal)). with_sent wire (sealed_sent z)) (sym a.1)

-- the document goes last on the wire
pub comes_sealed : (o : Outgoing) (steps : State → Choice → Step) (held now : Option (List (List ℕ))) (old new : World) (number : ℕ) (text node : List ℕ) (id : ℕ) (m : Message) (t : Tree)
    → sent.ProtectsAs o held now old.store new.store node id m (Ok t) → ((records : List Record) (f : Choice) → steps (state_of old records) f ≡ sends_sealed (state_of old records) (sends f records node id o m))
    → new.sites ≡ old.sites → new.hands ≡ old.hands → new.wire ≡ old.wire ++ t ∷ [] → text ≡ texts.document_answer number t (length old.wire + 1) → Comes steps held now old new number (Ok text)
comes_sealed o steps held now old new number text node id m t h same sites starts wire is =
    by_call (λ f records. sends f records node id o m) (sent.Answers (Ok t)) steps sends_sealed held now old new.store (Makes (Tells number (Ok text)) held now old.wire new) h same
    (λ records r a change. record { told = told_sealed number (length old.wire + 1) text t r.result a is; sites = ap sites_view sites; starts = starts; sent = wire ∙ sent_sealed old.wire t r.result a; change = change })

pub sealing_gives_up : (o : Outgoing) (steps : State → Choice → Step) (held now : Option (List (List ℕ))) (old new : World) (node : List ℕ) (id : ℕ) (m : Message) (t : Tree)
    → sent.ProtectsAs o held now old.store new.store node id m (Ok t) → ((records : List Record) (f : Choice) → steps (state_of old records) f ≡ sends_sealed (state_of old records) (sends f records node id o m))
    → new.sites ≡ old.sites → new.wire ≡ old.wire → GivesUp steps held now old new
sealing_gives_up o steps held now old new node id m t h same sites wire = record {
  sites = ap sites_view sites;
  wire = wire;
  kept = inr (by_call (λ f records. sends f records node id o m) (sent.Answers (Ok t)) steps sends_sealed held now old new.store (HasPut held now) h same (λ records r a change. change.told));
}

unsent_sealed : (wire : List Tree) (c : Cause sending.Refusal) (r : Result Sealed (Cause sending.Refusal)) → r ≡ Err c → wire ≡ with_sent wire (sealed_sent r)
unsent_sealed wire c r h = ap (λ (z : Result Sealed (Cause sending.Refusal)). with_sent wire (sealed_sent z)) (sym h)

-- a request that is refused
unsealed_by : (o : Outgoing) (steps : State → Choice → Step) (held now : Option (List (List ℕ))) (old new : World) (number : ℕ) (node : List ℕ) (id : ℕ) (m : Message) (e : CallFault SendFault) (c : Cause sending.Refusal) (refusal : Refusal)
    → ((r : Result Sealed (Cause sending.Refusal)) → sent.Answers (Err e) r → r ≡ Err c) → of_cause OfSending c ≡ refusal_view refusal
    → CallBy (λ f records. sends f records node id o m) (sent.Answers (Err e)) held now old.store new.store → ((records : List Record) (f : Choice) → steps (state_of old records) f ≡ sends_sealed (state_of old records) (sends f records node id o m))
    → new.sites ≡ old.sites → new.hands ≡ old.hands → new.wire ≡ old.wire → Comes steps held now old new number (Err (unanswered.Refused refusal))
unsealed_by o steps held now old new number node id m e c refusal is view h same sites starts wire =
    by_call (λ f records. sends f records node id o m) (sent.Answers (Err e)) steps sends_sealed held now old new.store (Makes (Tells number (Err (unanswered.Refused refusal))) held now old.wire new) h same
    (λ records r a change. record { told = ap (sealed_answer (length old.wire + 1)) (is r.result a) ∙ ap Refuses view; sites = ap sites_view sites; starts = starts; sent = wire ∙ unsent_sealed old.wire c r.result (is r.result a); change = change })

pub comes_unsealed : (o : Outgoing) (steps : State → Choice → Step) (held now : Option (List (List ℕ))) (old new : World) (number : ℕ) (node : List ℕ) (id : ℕ) (m : Message) (e : CallFault SendFault)
    → sent.ProtectsAs o held now old.store new.store node id m (Err e) → ((records : List Record) (f : Choice) → steps (state_of old records) f ≡ sends_sealed (state_of old records) (sends f records node id o m))
    → new.sites ≡ old.sites → new.hands ≡ old.hands → new.wire ≡ old.wire → Comes steps held now old new number (Err (of_sending e))
comes_unsealed o steps held now old new number node id m (calling.Refused r) h same sites starts wire = unsealed_by o steps held now old new number node id m (calling.Refused r) (Own (sent_view r)) (refusals.Sending r) (λ r a. a) refl h same sites starts wire
comes_unsealed o steps held now old new number node id m (calling.Journal k) h same sites starts wire = unsealed_by o steps held now old new number node id m (calling.Journal k) (Outside (Journal k)) (refusals.Journal k) (λ r a. a) refl h same sites starts wire
comes_unsealed o steps held now old new number node id m calling.Keeper h same sites starts wire = unsealed_by o steps held now old new number node id m calling.Keeper (Outside Keeper) refusals.Keeper (λ r a. a) refl h same sites starts wire
comes_unsealed o steps held now old new number node id m calling.NoMemory h same sites starts wire = gives_up_idly steps held now old new sites wire h.told

-- ---- putting on the wire

-- what stood on the wire, and one document more
pub idles_given : (old new : World) (number : ℕ) (text : List ℕ) (t : Tree) → is_full old.wire ≡ false → text ≡ answer_text number (OnWire (length old.wire + 1)) → HasMore old new t
    → Idles (unasked (Inject t)) old new number (Ok text)
idles_given old new number text t room is more = record {
  step = injects (state_of old []) t;
  same = λ records f. given_goes_on all_pass (state_of old records) (by idle f) t room;
  puts_none = refl;
  told = (is, refl);
  sites = ap sites_view (more.sites);
  wire = more.wire;
  starts = more.hands;
  store = rw (more.store) (stays_itself old.store);
}

pub idles_made : (steps : State → Choice → Step) (old new : World) (number : ℕ) (text : List ℕ) (t : Tree) → ((records : List Record) (f : Choice) → steps (state_of old records) f ≡ forwards (state_of old records) t)
    → text ≡ texts.document_answer number t (length old.wire + 1) → HasMore old new t → Idles steps old new number (Ok text)
idles_made steps old new number text t same is more = record {
  step = forwards (state_of old []) t;
  same = same;
  puts_none = refl;
  told = (is, refl);
  sites = ap sites_view (more.sites);
  wire = more.wire;
  starts = more.hands;
  store = rw (more.store) (stays_itself old.store);
}

-- a report that is read
pub idles_reported : (old : World) (number : ℕ) (text : List ℕ) (node : List ℕ) (t : Tree) (r : Report) → is_some (plmn_at (sites_view old.sites) node) ≡ true → report_in t ≡ Ok r → text ≡ answer_text number (Reports r)
    → Idles (unasked (Reported node t)) old old number (Ok text)
idles_reported old number text node t r known good is = record {
  step = reports (state_of old []) r;
  same = λ records f. report_told all_pass (state_of old records) (by idle f) node t r known good;
  puts_none = refl;
  told = (is, refl);
  sites = refl;
  wire = refl;
  starts = refl;
  store = stays_itself old.store;
}
