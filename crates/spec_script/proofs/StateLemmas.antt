-- What a step leaves of the state.
use Rattle.std.proofs.Common.{◌≡◌, ℕ, suc, ◌+◌, true, false, List, [], ◌∷◌, ◌++◌, length, pos, Option, Some, None, Result, Ok, Err, refl, ap, ◌∙◌, arith}
use Rattle.std.specs.Prelude.{slice_get}
use Rattle.spec_documents.specs.Tree.{Tree}
use Rattle.spec_records.specs.Records.{Record}
use Rattle.spec_exchange.specs.AcceptRefusals as accepting
use Rattle.spec_exchange.specs.SendingRefusals as sending
use Rattle.spec_exchange.specs.Outside.{Cause, Own, Outside, Journal, Keeper, Putting, Kept, Lost, KeptUntold}
use Rattle.spec_exchange.specs.Stages.{Delivery}
use Rattle.spec_exchange.specs.Calls.{Sealed, delivered_record, sent_record, sends, protected, accepted}
use Rattle.spec_exchange.specs.Screens.{Passes}
use Rattle.spec_exchange.specs.Accepting.{first_failed}
use Rattle.spec_handshake.specs.Documents.{Document}
use Rattle.spec_handshake.specs.Refusals as handshake
use Rattle.spec_handshake.specs.Starts.{Start}
use Rattle.spec_script.specs.Refusals.{Refusal, OfOutside}
use Rattle.spec_script.specs.Events.{line_event}
use Rattle.spec_script.specs.Choices.{Choices, of_accepting}
use Rattle.spec_script.specs.Steps.{State, OnWire, Sends, Forwards, Refuses, Step, after, refuses, puts, sends_sealed, delivers, next_number, wire_at, line_step, Answer, shakes}
use Rattle.spec_script.specs.Output.{is_keeper_refusal}
use Rattle.spec_script.proofs.HandLemmas.{is_keeper_cause, clean_puts, clean_chain, clean_read, IsTold}
use Rattle.spec_script.proofs.StepLemmas.{line_covered}

-- ---- refusals

pub record Keeps (s : State) (r : Step) : Type 0 where
  pub sites : (e : Refusal) → r.answer ≡ Refuses e → r.sites ≡ s.sites
  pub sent : (e : Refusal) → r.answer ≡ Refuses e → r.sent ≡ None
  pub put : (e : Refusal) → r.answer ≡ Refuses e → is_keeper_refusal e ≡ false → r.put ≡ None

refusal_keeps : (s : State) (d : Refusal) → Keeps s (refuses s d)
refusal_keeps s d = record { sites = λ e h. refl; sent = λ e h. refl; put = λ e h k. refl }

-- a refusal that is the keeper's and isn't
pub other_than_keeper : {P : Type 0} (e : Refusal) → OfOutside Keeper ≡ e → is_keeper_refusal e ≡ false → P
other_than_keeper e same k = let told : true ≡ false = ap is_keeper_refusal same ∙ k in cc

put_keeps : (s : State) (p : Putting) (name : List ℕ) (r : Record) → Keeps s (puts s p name r)
put_keeps s Kept name r = record { sites = λ e h. refl; sent = λ e h. refl; put = λ e h k. cc }
put_keeps s Lost name r = refusal_keeps s _
put_keeps s KeptUntold name r = record { sites = λ e h. refl; sent = λ e h. refl; put = λ e h k. let same : OfOutside Keeper ≡ e = cc in other_than_keeper e same k }

-- the refusal of a call puts nothing
abbrev PutsNone : {R T : Type 0} → Result T (Cause R) → Option Record → Type 0
PutsNone {R} r p = (e : Cause R) → r ≡ Err e → is_keeper_cause e ≡ false → p ≡ None

sealed_keeps : (s : State) (r : Result Sealed (Cause sending.Refusal)) (p : Option Record) → PutsNone r p → Keeps s (sends_sealed s (record { result = r; put = p }))
sealed_keeps s (Ok x) p c = record { sites = λ e h. refl; sent = λ e h. cc; put = λ e h k. cc }
sealed_keeps s (Err (Own d)) p c = record { sites = λ e h. refl; sent = λ e h. refl; put = λ e h k. c (Own d) refl refl }
sealed_keeps s (Err (Outside (Journal n))) p c = record { sites = λ e h. refl; sent = λ e h. refl; put = λ e h k. c (Outside (Journal n)) refl refl }
sealed_keeps s (Err (Outside Keeper)) p c = record { sites = λ e h. refl; sent = λ e h. refl; put = λ e h k. let same : OfOutside Keeper ≡ e = cc in other_than_keeper e same k }

delivery_keeps : (s : State) (t : Tree) (r : Result Delivery (Cause accepting.Refusal)) (p : Option Record) → PutsNone r p → Keeps s (delivers s t (record { result = r; put = p }))
delivery_keeps s t (Ok x) p c = record { sites = λ e h. refl; sent = λ e h. refl; put = λ e h k. cc }
delivery_keeps s t (Err (Own d)) p c = record { sites = λ e h. refl; sent = λ e h. refl; put = λ e h k. c (Own d) refl refl }
delivery_keeps s t (Err (Outside (Journal n))) p c = record { sites = λ e h. refl; sent = λ e h. refl; put = λ e h k. c (Outside (Journal n)) refl refl }
delivery_keeps s t (Err (Outside Keeper)) p c = record { sites = λ e h. refl; sent = λ e h. refl; put = λ e h k. let same : OfOutside Keeper ≡ e = cc in other_than_keeper e same k }

shaken_keeps : {T : Type 0} (s : State) (told : T → Answer) (made : T → Option Document) (starts : List Start) (r : Result T (Cause handshake.Refusal)) (p : Option Record)
    → ((x : T) → IsTold s (told x) (made x)) → PutsNone r p → Keeps s (shakes s told made starts (record { result = r; put = p }))
shaken_keeps s told made starts (Ok x) p is c = record { sites = λ e h. refl; sent = λ e h. absurd ((is x).refused e h); put = λ e h k. absurd ((is x).refused e h) }
shaken_keeps s told made starts (Err (Own d)) p is c = record { sites = λ e h. refl; sent = λ e h. refl; put = λ e h k. c (Own d) refl refl }
shaken_keeps s told made starts (Err (Outside (Journal n))) p is c = record { sites = λ e h. refl; sent = λ e h. refl; put = λ e h k. c (Outside (Journal n)) refl refl }
shaken_keeps s told made starts (Err (Outside Keeper)) p is c = record { sites = λ e h. refl; sent = λ e h. refl; put = λ e h k. let same : OfOutside Keeper ≡ e = cc in other_than_keeper e same k }

pub line_keeps : (passes : Passes) (s : State) (f : Choices) (line : List ℕ) → Keeps s (line_step passes s f line)
line_keeps passes s f line = line_covered (λ r. Keeps s r) passes s f (record {
  refused = refusal_keeps s;
  restarted = λ node. record { sites = λ e h. refl; sent = λ e h. refl; put = λ e h k. refl };
  node = λ n plmn. record { sites = λ e h. cc; sent = λ e h. refl; put = λ e h k. refl };
  put = put_keeps s f.keeper.putting;
  injected = λ t. record { sites = λ e h. refl; sent = λ e h. cc; put = λ e h k. refl };
  forwarded = λ t. record { sites = λ e h. refl; sent = λ e h. cc; put = λ e h k. refl };
  reported = λ r. record { sites = λ e h. refl; sent = λ e h. refl; put = λ e h k. refl };
  sealed = λ n i o m. sealed_keeps s (sends f.keeper s.records n i o m).result (sends f.keeper s.records n i o m).put (clean_read f.keeper.reading _ (clean_chain (protected s.records n i o m) _ λ y. clean_puts f.keeper.putting (sent_record y) y)).is;
  came = λ n t. delivery_keeps s t (accepted passes (of_accepting f) s.records n t).result (accepted passes (of_accepting f) s.records n t).put (clean_read f.keeper.reading _ (clean_chain (first_failed passes f.verifier s.records n t) _ λ y. clean_puts f.keeper.putting (delivered_record y) y)).is;
  shaken = λ told made starts o is call. shaken_keeps s told made starts o.result o.put is call.clean.is;
}) (line_event line)

pub unchanged : (s : State) (r : Step) → r.sites ≡ s.sites → r.sent ≡ None → r.put ≡ None → r.starts ≡ s.starts → after s r ≡ s
unchanged s r a b c d = rw (a, b, c, d) refl

pub unput : (s : State) (r : Step) → r.put ≡ None → (after s r).records ≡ s.records
unput s r e = rw e refl

pub unsent : (s : State) (r : Step) → r.sent ≡ None → (after s r).wire ≡ s.wire
unsent s r e = rw e refl

-- ---- the wire

at_end : (ts : List Tree) (t : Tree) → slice_get (ts ++ t ∷ []) (length ts) ≡ Some t
at_end [] t = refl
at_end (u ∷ us) t = at_end us t

pub numbered : (s : State) (t : Tree) → wire_at (s.wire ++ t ∷ []) (pos (next_number s)) ≡ Some t
numbered s t = ap (λ (n : ℕ). wire_at (s.wire ++ t ∷ []) (pos n)) (let e : length s.wire + 1 ≡ suc (length s.wire) = omega arith in e) ∙ at_end s.wire t

pub record Wires (s : State) (r : Step) : Type 0 where
  pub sealed : (x : Sealed) (k : ℕ) → r.answer ≡ Sends x k → (r.sent ≡ Some x.document) × (k ≡ next_number s)
  pub injected : (k : ℕ) → r.answer ≡ OnWire k → (t : Tree) × (r.sent ≡ Some t) × (k ≡ next_number s)
  pub forwarded : (t : Tree) (k : ℕ) → r.answer ≡ Forwards t k → (r.sent ≡ Some t) × (k ≡ next_number s)

put_wires : (s : State) (p : Putting) (name : List ℕ) (r : Record) → Wires s (puts s p name r)
put_wires s Kept name r = record { sealed = λ x k e. cc; injected = λ k e. cc; forwarded = λ t k e. cc }
put_wires s Lost name r = record { sealed = λ x k e. cc; injected = λ k e. cc; forwarded = λ t k e. cc }
put_wires s KeptUntold name r = record { sealed = λ x k e. cc; injected = λ k e. cc; forwarded = λ t k e. cc }

sealed_wires : (s : State) (r : Result Sealed (Cause sending.Refusal)) (p : Option Record) → Wires s (sends_sealed s (record { result = r; put = p }))
sealed_wires s (Ok y) p = record { sealed = λ x k e. (cc, cc); injected = λ k e. cc; forwarded = λ t k e. cc }
sealed_wires s (Err d) p = record { sealed = λ x k e. cc; injected = λ k e. cc; forwarded = λ t k e. cc }

delivery_wires : (s : State) (t : Tree) (r : Result Delivery (Cause accepting.Refusal)) (p : Option Record) → Wires s (delivers s t (record { result = r; put = p }))
delivery_wires s t (Ok y) p = record { sealed = λ x k e. cc; injected = λ k e. cc; forwarded = λ t k e. cc }
delivery_wires s t (Err d) p = record { sealed = λ x k e. cc; injected = λ k e. cc; forwarded = λ t k e. cc }

shaken_wires : {T : Type 0} (s : State) (told : T → Answer) (made : T → Option Document) (starts : List Start) (r : Result T (Cause handshake.Refusal)) (p : Option Record)
    → ((x : T) → IsTold s (told x) (made x)) → Wires s (shakes s told made starts (record { result = r; put = p }))
shaken_wires s told made starts (Ok x) p is = record { sealed = λ y k e. absurd ((is x).sealed y k e); injected = λ k e. absurd ((is x).injected k e); forwarded = (is x).forwarded }
shaken_wires s told made starts (Err d) p is = record { sealed = λ x k e. cc; injected = λ k e. cc; forwarded = λ t k e. cc }

pub line_wires : (passes : Passes) (s : State) (f : Choices) (line : List ℕ) → Wires s (line_step passes s f line)
line_wires passes s f line = line_covered (λ r. Wires s r) passes s f (record {
  refused = λ d. record { sealed = λ x k e. cc; injected = λ k e. cc; forwarded = λ t k e. cc };
  restarted = λ node. record { sealed = λ x k e. cc; injected = λ k e. cc; forwarded = λ t k e. cc };
  node = λ n plmn. record { sealed = λ x k e. cc; injected = λ k e. cc; forwarded = λ t k e. cc };
  put = put_wires s f.keeper.putting;
  injected = λ t. record { sealed = λ x k e. cc; injected = λ k e. (t, refl, cc); forwarded = λ u k e. cc };
  forwarded = λ t. record { sealed = λ x k e. cc; injected = λ k e. cc; forwarded = λ u k e. (cc, cc) };
  reported = λ r. record { sealed = λ x k e. cc; injected = λ k e. cc; forwarded = λ t k e. cc };
  sealed = λ n i o m. sealed_wires s (sends f.keeper s.records n i o m).result (sends f.keeper s.records n i o m).put;
  came = λ n t. delivery_wires s t (accepted passes (of_accepting f) s.records n t).result (accepted passes (of_accepting f) s.records n t).put;
  shaken = λ told made starts o is call. shaken_wires s told made starts o.result o.put is;
}) (line_event line)

pub on_wire : (s : State) (r : Step) (t : Tree) → r.sent ≡ Some t → (after s r).wire ≡ s.wire ++ t ∷ []
on_wire s r t e = rw e refl

pub found_on_wire : (s : State) (r : Step) (t : Tree) (k : ℕ) → r.sent ≡ Some t → k ≡ next_number s → wire_at (after s r).wire (pos k) ≡ Some t
found_on_wire s r t k e at = ap (λ (ts : List Tree). wire_at ts (pos k)) (on_wire s r t e) ∙ (ap (λ (n : ℕ). wire_at (s.wire ++ t ∷ []) (pos n)) at ∙ numbered s t)
