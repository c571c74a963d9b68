-- What the calls of a handshake leave of a world.
use Rattle.std.proofs.Common.{◌≡◌, ℕ, ◌≤◌, List, false, Option, Some, None, Result, Ok, Err, refl, sym, ap, subst, ◌∙◌, inr}
use Rattle.std.specs.Prelude.{option_map, IsErrOf}
use Rattle.n32_outside.specs.Causes.{Rose}
use Rattle.spec_documents.specs.Tree.{Tree}
use Rattle.spec_records.specs.Records.{Record}
use Rattle.spec_exchange.specs.Outside.{Choice, Cause, Own, Outside, Journal, Keeper, Outcome}
use Rattle.context_store.specs.Stores.{Stored, IsConsistent}
use Rattle.context_store.specs.Changes.{Nothing, Change, CallBy}
use Rattle.spec_handshake.specs.Documents.{Document, document_tree}
use Rattle.spec_handshake.specs.Refusals as handshake
use Rattle.spec_handshake.specs.Starts.{Start}
use Rattle.context_store.specs.declared.call_faults.CallFault.{CallFault}
use Rattle.context_store.specs.declared.call_faults.CallFault.TheVariants as faults
use Rattle.n32c_handshake.specs.declared.refusal.HandRefusal.{HandRefusal}
use Rattle.n32c_handshake.specs.Faults.{refusal_view as hand_view}
use Rattle.n32c_handshake.specs.Outcome as hands
use Rattle.n32c_handshake.specs.Progress as progress
use Rattle.n32c_handshake.specs.declared.finishing.Finished.{Finished}
use Rattle.spec_handshake.specs.Calls as calls
use Rattle.spec_script.specs.Refusals.{OfHandshake, of_cause}
use Rattle.spec_script.specs.Answers.{answer_text}
use Rattle.spec_script.specs.Steps.{State, Answer, Step, Refuses, call_answer, call_sent, shakes, with_sent}
use Rattle.script_lines.specs.View.{refusal_view}
use Rattle.script_lines.specs.declared.refusal.Refusal.{Refusal}
use Rattle.script_lines.specs.declared.refusal.Refusal.TheVariants as refusals
use Rattle.script_lines.specs.declared.unanswered.Unanswered.{Unanswered}
use Rattle.script_lines.specs.declared.unanswered.Unanswered.TheVariants as unanswered
use Rattle.replay_world.specs.Worlds.{IsShallow, IsSound, sites_view, state_of}
use Rattle.replay_world.specs.Stepping.{StepBy, Makes, HasPut, GivesUp, Tells, Comes, is_refusal}
use Rattle.replay_world.specs.Handling.{Handles}
use Rattle.replay_world.specs.Refusing.{of_hand}
use Rattle.replay_world.specs.Shaking.{Concludes, HasSent}
use Rattle.replay_world.specs.declared.world.World.{World}
use Rattle.replay_world.proofs.Parts.{gives_up_idly}
use Rattle.replay_world.proofs.Wires.{sound_more}

-- ---- a call

-- the world, once a call has changed its store and its starts
abbrev pub called : World → Stored → List Start → World
called w s waiting = record { sites = w.sites; wire = w.wire; wire_bytes = w.wire_bytes; store = s; hands = waiting }

-- a call over the records of the store, and the starts that wait then, under one choice of the keeper
pub record CallAt {X T : Type 0} (Is : X → T → Type 0) (outcome : Choice → List Record → Outcome handshake.Refusal T) (starts : Choice → List Record → List Start) (held now : Option (List (List ℕ))) (old new : Stored) (left : List Start) (call : Result X (CallFault HandRefusal)) : Type 0 where
  pub by : CallBy outcome (hands.Answers Is call) held now old new
  pub waits : left ≡ starts by.choice by.records

abbrev pub Called : {X T : Type 0} → (X → T → Type 0) → (Choice → List Record → Outcome handshake.Refusal T) → (Choice → List Record → List Start) → (held now : Option (List (List ℕ))) → (old new : Stored) → List Start → Result X (CallFault HandRefusal) → Type 0
Called Is outcome starts held now old new left (Err faults.NoMemory) = Nothing held now old new
Called Is outcome starts held now old new left call = CallAt Is outcome starts held now old new left call

-- what the starts are follows from what is answered
pub called_by : {X T : Type 0} (Is : X → T → Type 0) (outcome : Choice → List Record → Outcome handshake.Refusal T) (starts : Choice → List Record → List Start) (held now : Option (List (List ℕ))) (old new : Stored) (left : List Start) (call : Result X (CallFault HandRefusal))
    → hands.Comes Is outcome held now old new call → ((call ≡ Err faults.NoMemory → ⊥) → (f : Choice) (records : List Record) → hands.Answers Is call (outcome f records).result → left ≡ starts f records) → Called Is outcome starts held now old new left call
called_by Is outcome starts held now old new left (Ok x) h w = record { by = h; waits = w (λ e. cc) h.choice h.records h.comes.answer }
called_by Is outcome starts held now old new left (Err (faults.Journal k)) h w = record { by = h; waits = w (λ e. cc) h.choice h.records h.comes.answer }
called_by Is outcome starts held now old new left (Err (faults.Refused e)) h w = record { by = h; waits = w (λ e. cc) h.choice h.records h.comes.answer }
called_by Is outcome starts held now old new left (Err faults.Keeper) h w = record { by = h; waits = w (λ e. cc) h.choice h.records h.comes.answer }
called_by Is outcome starts held now old new left (Err faults.NoMemory) h w = h

-- the starts after a finish
abbrev pub finish_starts : List Start → (node plmn : List ℕ) → Tree → Choice → List Record → List Start
finish_starts starts node plmn t f records = calls.after_finish f.reading starts node t (calls.finish f records starts node plmn t).result

pub finish_called : (held now : Option (List (List ℕ))) (old new : Stored) (starts left : List Start) (node plmn : List ℕ) (t : Tree) (call : Result Finished (CallFault HandRefusal)) → progress.Finishes held now old new starts left node plmn t call
    → Called progress.IsFinished (λ f records. calls.finish f records starts node plmn t) (finish_starts starts node plmn t) held now old new left call
finish_called held now old new starts left node plmn t (Ok x) h = record { by = h.call; waits = h.waits }
finish_called held now old new starts left node plmn t (Err (faults.Journal k)) h = record { by = h.call; waits = h.waits }
finish_called held now old new starts left node plmn t (Err (faults.Refused e)) h = record { by = h.call; waits = h.waits }
finish_called held now old new starts left node plmn t (Err faults.Keeper) h = record { by = h.call; waits = h.waits }
finish_called held now old new starts left node plmn t (Err faults.NoMemory) h = h.0

-- ---- the step that a call makes

by_called : {X T : Type 0} (Is : X → T → Type 0) (tell : T → Answer) (made : T → Option Document) (outcome : Choice → List Record → Outcome handshake.Refusal T) (starts : Choice → List Record → List Start) (steps : State → Choice → Step)
    (held now : Option (List (List ℕ))) (old : World) (store : Stored) (left : List Start) (call : Result X (CallFault HandRefusal)) (P : List Record → Step → Type 0)
    → CallAt Is outcome starts held now old.store store left call → ((records : List Record) (f : Choice) → steps (state_of old records) f ≡ shakes (state_of old records) tell made (starts f records) (outcome f records))
    → ((records : List Record) (o : Outcome handshake.Refusal T) → hands.Answers Is call o.result → Change held now records store o.put → P records (shakes (state_of old records) tell made left o)) → StepBy steps held old P
by_called Is tell made outcome starts steps held now old store left call P h same leaves = record {
  choice = h.by.choice;
  records = h.by.records;
  chosen = h.by.chosen;
  leaves = subst (λ (r : Step). P h.by.records r)
      (sym (same h.by.records h.by.choice ∙ ap (λ (ss : List Start). shakes (state_of old h.by.records) tell made ss (outcome h.by.choice h.by.records)) (sym h.waits)))
      (leaves h.by.records (outcome h.by.choice h.by.records) h.by.comes.answer h.by.comes.change);
}

call_gives_up : {X T : Type 0} (Is : X → T → Type 0) (tell : T → Answer) (made : T → Option Document) (outcome : Choice → List Record → Outcome handshake.Refusal T) (starts : Choice → List Record → List Start) (steps : State → Choice → Step)
    (held now : Option (List (List ℕ))) (old : World) (store : Stored) (left : List Start) (call : Result X (CallFault HandRefusal))
    → CallAt Is outcome starts held now old.store store left call → ((records : List Record) (f : Choice) → steps (state_of old records) f ≡ shakes (state_of old records) tell made (starts f records) (outcome f records))
    → GivesUp steps held now old (called old store left)
call_gives_up Is tell made outcome starts steps held now old store left call h same = record {
  sites = refl;
  wire = refl;
  kept = inr (by_called Is tell made outcome starts steps held now old store left call (HasPut held now) h same (λ records o a change. change.told));
}

-- ---- a call that is done

-- what is told and sent of it is what the definition has
pub record Seen (tell : Answer) (made : Option Document) (told : Answer) (sent : Option Tree) : Type 0 where
  pub answer : tell ≡ told
  pub document : option_map document_tree made ≡ sent
  pub fine : is_refusal told ≡ false
  pub low : (t : Tree) → sent ≡ Some t → IsShallow t

record Sent (old : World) (store : Stored) (left : List Start) (new : World) (sent : Option Tree) : Type 0 where
  sites : new.sites ≡ old.sites
  wire : new.wire ≡ with_sent old.wire sent
  store_is : new.store ≡ store
  starts : new.hands ≡ left

sent_leaves : (old : World) (store : Stored) (left : List Start) (new : World) (sent : Option Tree) → HasSent (called old store left) new sent → Sent old store left new sent
sent_leaves old store left new None h = record { sites = ap (λ (w : World). w.sites) h; wire = ap (λ (w : World). w.wire) h; store_is = ap (λ (w : World). w.store) h; starts = ap (λ (w : World). w.hands) h }
sent_leaves old store left new (Some t) h = record { sites = h.sites; wire = h.wire; store_is = h.store; starts = h.hands }

called_sound : (old : World) (store : Stored) (left : List Start) → IsSound old → IsSound (called old store left)
called_sound old store left sound = record { nodes = sound.nodes; wire = sound.wire; bytes = sound.bytes }

sent_sound : (old : World) (store : Stored) (left : List Start) (new : World) (sent : Option Tree) → IsSound old → HasSent (called old store left) new sent → ((t : Tree) → sent ≡ Some t → IsShallow t) → IsSound new
sent_sound old store left new None sound h low = subst (λ (w : World). IsSound w) (sym h) (called_sound old store left sound)
sent_sound old store left new (Some t) sound h low = sound_more (called old store left) new t h (low t refl) (called_sound old store left sound)

made_by : {X T : Type 0} (Is : X → T → Type 0) (tell : T → Answer) (made : T → Option Document) (told : Answer) (sent : Option Tree) (held now : Option (List (List ℕ))) (old : World) (store : Stored) (left : List Start) (new : World) (number : ℕ) (text : List ℕ) (x : X)
    → ((t : T) → Is x t → Seen (tell t) (made t) told sent) → text ≡ answer_text number told → Sent old store left new sent
    → (records : List Record) (o : Outcome handshake.Refusal T) → hands.Answers Is (Ok x) o.result → Change held now records store o.put
    → Makes (Tells number (Ok text)) held now old.wire new records (shakes (state_of old records) tell made left o)
made_by Is tell made told sent held now old store left new number text x sees is leaves records o a change =
    let seen = sees a.0 a.2 in
    let answer : call_answer tell o.result ≡ told = ap (call_answer tell) a.1 ∙ seen.answer in
    let document : call_sent made o.result ≡ sent = ap (call_sent made) a.1 ∙ seen.document in
    record {
      told = (is ∙ ap (answer_text number) (sym answer), ap is_refusal answer ∙ seen.fine);
      sites = ap sites_view leaves.sites;
      sent = leaves.wire ∙ ap (with_sent old.wire) (sym document);
      starts = leaves.starts;
      change = subst (λ (s : Stored). Change held now records s o.put) (sym leaves.store_is) change;
    }

-- ---- a call that is refused

refused_by : {X T : Type 0} (Is : X → T → Type 0) (tell : T → Answer) (made : T → Option Document) (outcome : Choice → List Record → Outcome handshake.Refusal T) (starts : Choice → List Record → List Start) (steps : State → Choice → Step)
    (held now : Option (List (List ℕ))) (old : World) (store : Stored) (left : List Start) (number : ℕ) (e : CallFault HandRefusal) (c : Cause handshake.Refusal) (refusal : Refusal)
    → ((r : Result T (Cause handshake.Refusal)) → hands.Answers Is (Err e) r → r ≡ Err c) → of_cause OfHandshake c ≡ refusal_view refusal
    → CallAt Is outcome starts held now old.store store left (Err e) → ((records : List Record) (f : Choice) → steps (state_of old records) f ≡ shakes (state_of old records) tell made (starts f records) (outcome f records))
    → Comes steps held now old (called old store left) number (Err (unanswered.Refused refusal))
refused_by Is tell made outcome starts steps held now old store left number e c refusal is view h same =
    by_called Is tell made outcome starts steps held now old store left (Err e) (Makes (Tells number (Err (unanswered.Refused refusal))) held now old.wire (called old store left)) h same
    (λ records o a change. record { told = ap (call_answer tell) (is o.result a) ∙ ap Refuses view; sites = refl; sent = ap (λ z. with_sent old.wire (call_sent made z)) (sym (is o.result a)); starts = refl; change = change })

comes_refused : {X T : Type 0} (Is : X → T → Type 0) (tell : T → Answer) (made : T → Option Document) (outcome : Choice → List Record → Outcome handshake.Refusal T) (starts : Choice → List Record → List Start) (steps : State → Choice → Step)
    (held now : Option (List (List ℕ))) (old : World) (store : Stored) (left : List Start) (number : ℕ) (e : CallFault HandRefusal)
    → Called Is outcome starts held now old.store store left (Err e) → ((records : List Record) (f : Choice) → steps (state_of old records) f ≡ shakes (state_of old records) tell made (starts f records) (outcome f records))
    → Comes steps held now old (called old store left) number (Err (of_hand e))
comes_refused Is tell made outcome starts steps held now old store left number (faults.Journal k) h same = refused_by Is tell made outcome starts steps held now old store left number (faults.Journal k) (Outside (Journal k)) (refusals.Journal k) (λ r a. a) refl h same
comes_refused Is tell made outcome starts steps held now old store left number (faults.Refused e) h same = refused_by Is tell made outcome starts steps held now old store left number (faults.Refused e) (Own (hand_view e)) (refusals.Handshake e) (λ r a. a) refl h same
comes_refused Is tell made outcome starts steps held now old store left number faults.Keeper h same = refused_by Is tell made outcome starts steps held now old store left number faults.Keeper (Outside Keeper) refusals.Keeper (λ r a. a) refl h same
comes_refused Is tell made outcome starts steps held now old store left number faults.NoMemory h same = gives_up_idly steps held now old (called old store left) refl refl h.told

-- the keeper's own fault
unshaken_keeper : (e : CallFault HandRefusal) → IsErrOf {T = List ℕ} (Err (of_hand e)) (unanswered.Refused refusals.Keeper) → e ≡ faults.Keeper
unshaken_keeper (faults.Journal k) h = cc
unshaken_keeper (faults.Refused e) h = cc
unshaken_keeper faults.Keeper h = refl
unshaken_keeper faults.NoMemory h = cc

-- ---- what a handler owes

-- what is said of the keeper after a call
pub record KeeperStands {X : Type 0} (now : Option (List (List ℕ))) (before after_ : ℕ) (store : Stored) (call : Result X (CallFault HandRefusal)) : Type 0 where
  pub consistent : IsConsistent now store
  pub later : before ≤ after_
  pub failed : IsErrOf call faults.Keeper → Rose before after_

pub handles_called : {X T : Type 0} (Is : X → T → Type 0) (tell : T → Answer) (made : T → Option Document) (told : X → Answer) (sent : X → Option Tree) (outcome : Choice → List Record → Outcome handshake.Refusal T) (starts : Choice → List Record → List Start) (steps : State → Choice → Step)
    (held now : Option (List (List ℕ))) (before after_ : ℕ) (old : World) (store : Stored) (left : List Start) (new : World) (number : ℕ) (call : Result X (CallFault HandRefusal)) (result : Result (List ℕ) Unanswered)
    → ((x : X) (t : T) → Is x t → Seen (tell t) (made t) (told x) (sent x)) → Called Is outcome starts held now old.store store left call
    → ((records : List Record) (f : Choice) → steps (state_of old records) f ≡ shakes (state_of old records) tell made (starts f records) (outcome f records))
    → KeeperStands now before after_ store call → IsSound old → Concludes told sent number (called old store left) new call result → Handles steps held now before after_ old new number result
handles_called Is tell made told sent outcome starts steps held now before after_ old store left new number (Ok x) (Ok text) sees h same keeper sound done =
    let leaves = sent_leaves old store left new (sent x) done.1 in
    record {
      comes = by_called Is tell made outcome starts steps held now old store left (Ok x) (Makes (Tells number (Ok text)) held now old.wire new) h same
          (made_by Is tell made (told x) (sent x) held now old store left new number text x (sees x) done.0 leaves);
      ready = record {
        consistent = subst (λ (s : Stored). IsConsistent now s) (sym leaves.store_is) keeper.consistent;
        sound = sent_sound old store left new (sent x) sound done.1 ((sees x h.by.comes.answer.0 h.by.comes.answer.2).low);
      };
      later = keeper.later;
      failed = λ e. cc;
    }
handles_called Is tell made told sent outcome starts steps held now before after_ old store left new number (Ok x) (Err why) sees h same keeper sound done = rw (done.0, done.1) (record {
  comes = call_gives_up Is tell made outcome starts steps held now old store left (Ok x) h same;
  ready = record { consistent = keeper.consistent; sound = called_sound old store left sound };
  later = keeper.later;
  failed = λ e. cc;
})
handles_called Is tell made told sent outcome starts steps held now before after_ old store left new number (Err e) (Ok text) sees h same keeper sound done = absurd done
handles_called Is tell made told sent outcome starts steps held now before after_ old store left new number (Err e) (Err why) sees h same keeper sound done = rw (done.0, done.1) (record {
  comes = comes_refused Is tell made outcome starts steps held now old store left number e h same;
  ready = record { consistent = keeper.consistent; sound = called_sound old store left sound };
  later = keeper.later;
  failed = λ k. keeper.failed (rw (unshaken_keeper e k) refl);
})
