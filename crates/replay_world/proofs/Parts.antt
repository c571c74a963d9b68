-- What a step leaves, from what its parts leave.
use Rattle.std.proofs.Common.{◌≡◌, ⊎_elim, ℕ, ◌≤◌, List, [], length, Bool, true, false, Option, None, Result, Ok, Err, refl, sym, ap, subst, ◌∙◌, inl, inr}
use Rattle.spec_records.specs.Records.{Record, record_limit}
use Rattle.n32_outside.specs.Contents.{Stays}
use Rattle.context_store.specs.Stores.{Stored, Holds, IsConsistent}
use Rattle.context_store.specs.Changes.{Change, IsChosen, CallBy}
use Rattle.spec_exchange.specs.Outside.{Choice, Cause, no_fault, Read, ReadFails, Putting, Lost, Outcome}
use Rattle.spec_script.specs.Refusals as script
use Rattle.spec_script.specs.Steps.{State, Answer, Step, refuses, with_sent}
use Rattle.script_lines.specs.View.{refusal_view}
use Rattle.script_lines.specs.declared.refusal.Refusal.{Refusal}
use Rattle.spec_documents.specs.Gives as gives
use Rattle.script_lines.specs.Unanswered.{told_refusal}
use Rattle.replay_world.specs.Worlds.{sites_view, state_of}
use Rattle.replay_world.specs.Stepping.{StepBy, Makes, HasPut, GivesUp, Tells, Comes}
use Rattle.replay_world.specs.declared.world.World.{World}
use Rattle.script_lines.specs.declared.unanswered.Unanswered.{Unanswered}
use Rattle.script_lines.specs.declared.unanswered.Unanswered.TheVariants as unanswered

-- ---- choices

-- nothing of the keeper is asked for
abbrev pub idle_choice : Bool → Choice
idle_choice true = no_fault
idle_choice false = record { reading = ReadFails; putting = Lost }

chosen_idly : (held : Option (List (List ℕ))) (s : Stored) (b : Bool) → s.fresh ≡ b → IsConsistent held s → IsChosen held s (idle_choice b) s.records
chosen_idly held s true is consistent = record { fresh = λ e. (refl, refl); read = λ e. consistent is; few = λ stale e. cc; bad = λ k e. cc }
chosen_idly held s false is consistent = record { fresh = λ e. cc; read = λ e. cc; few = λ stale e. cc; bad = λ k e. cc }

pub chosen_fresh : (held : Option (List (List ℕ))) (s : Stored) (p : Putting) → s.fresh ≡ true → IsConsistent held s → IsChosen held s (record { reading = Read; putting = p }) s.records
chosen_fresh held s p is consistent = record { fresh = λ e. (refl, refl); read = λ e. consistent is; few = λ stale e. cc; bad = λ k e. cc }

-- ---- steps that are others

-- a step that is the other, over all records and choices
pub by_same : (steps later : State → Choice → Step) (held : Option (List (List ℕ))) (old : World) (P : List Record → Step → Type 0)
    → ((records : List Record) (f : Choice) → steps (state_of old records) f ≡ later (state_of old records) f) → StepBy later held old P → StepBy steps held old P
by_same steps later held old P same h = record {
  choice = h.choice;
  records = h.records;
  chosen = h.chosen;
  leaves = subst (λ (r : Step). P h.records r) (sym (same h.records h.choice)) h.leaves;
}

-- the same, over the records of a fresh store
pub by_fresh : (steps later : State → Choice → Step) (held : Option (List (List ℕ))) (old : World) (P : List Record → Step → Type 0)
    → old.store.fresh ≡ true → ((f : Choice) → steps (state_of old old.store.records) f ≡ later (state_of old old.store.records) f) → StepBy later held old P → StepBy steps held old P
by_fresh steps later held old P fresh same h =
    let is : h.records ≡ old.store.records = (h.chosen.fresh fresh).1 in
    record {
      choice = h.choice;
      records = h.records;
      chosen = h.chosen;
      leaves = subst (λ (r : Step). P h.records r) (sym (subst (λ (rs : List Record). steps (state_of old rs) h.choice ≡ later (state_of old rs) h.choice) (sym is) (same h.choice))) h.leaves;
    }

-- the world, once its store is read
abbrev pub with_store : World → Stored → World
with_store w s = record { sites = w.sites; wire = w.wire; wire_bytes = w.wire_bytes; store = s; hands = w.hands }

-- a store is read: the records that are held, or those that a fresh one has
pub record WasRead (held : Option (List (List ℕ))) (old new : Stored) : Type 0 where
  pub fresh : new.fresh ≡ true
  pub holds : Holds held new.records
  pub few : length new.records ≤ record_limit
  pub idle : old.fresh ≡ true → new ≡ old

-- a step that is the other once the store is read
pub by_reading : (steps later : State → Choice → Step) (held : Option (List (List ℕ))) (old : World) (read : Stored) (P : List Record → Step → Type 0)
    → WasRead held old.store read → ((records : List Record) (f : Choice) → f.reading ≡ Read → steps (state_of old records) f ≡ later (state_of old records) f)
    → StepBy later held (with_store old read) P → StepBy steps held old P
by_reading steps later held old read P was same h =
    let due = h.chosen.fresh was.fresh in
    record {
      choice = h.choice;
      records = h.records;
      chosen = record {
        fresh = λ e. (due.0, due.1 ∙ ap (λ (s : Stored). s.records) (was.idle e));
        read = h.chosen.read;
        few = λ stale e. subst (λ (rs : List Record). length rs ≤ record_limit) (sym due.1) was.few;
        bad = h.chosen.bad;
      };
      leaves = subst (λ (r : Step). P h.records r) (sym (same h.records h.choice due.0)) h.leaves;
    }

-- ---- the same of parts, by what they answer

gives_up_by : (steps later : State → Choice → Step) (held now : Option (List (List ℕ))) (old mid new : World) → mid.sites ≡ old.sites → mid.wire ≡ old.wire
    → (StepBy later held mid (HasPut held now) → StepBy steps held old (HasPut held now)) → GivesUp later held now mid new → GivesUp steps held now old new
gives_up_by steps later held now old mid new sites wire by h = record {
  sites = h.sites ∙ ap sites_view sites;
  wire = h.wire ∙ wire;
  kept = ⊎_elim (λ stays. inl stays) (λ put. inr (by put)) h.kept;
}

-- a part whose steps are others, by either way
comes_by : (steps later : State → Choice → Step) (held now : Option (List (List ℕ))) (old new : World) (store : Stored) (number : ℕ) (result : Result (List ℕ) Unanswered)
    → ((P : List Record → Step → Type 0) → StepBy later held (with_store old store) P → StepBy steps held old P)
    → Comes later held now (with_store old store) new number result → Comes steps held now old new number result
comes_by steps later held now old new store number (Ok text) by h = by _ h
comes_by steps later held now old new store number (Err (unanswered.Refused refusal)) by h = by _ h
comes_by steps later held now old new store number (Err unanswered.NoMemory) by h = gives_up_by steps later held now old (with_store old store) new refl refl (by _) h

pub comes_same : (steps later : State → Choice → Step) (held now : Option (List (List ℕ))) (old new : World) (number : ℕ) (result : Result (List ℕ) Unanswered)
    → ((records : List Record) (f : Choice) → steps (state_of old records) f ≡ later (state_of old records) f)
    → Comes later held now old new number result → Comes steps held now old new number result
comes_same steps later held now old new number result same h = comes_by steps later held now old new old.store number result (λ P. by_same steps later held old P same) h

pub comes_fresh : (steps later : State → Choice → Step) (held now : Option (List (List ℕ))) (old new : World) (number : ℕ) (result : Result (List ℕ) Unanswered)
    → old.store.fresh ≡ true → ((f : Choice) → steps (state_of old old.store.records) f ≡ later (state_of old old.store.records) f)
    → Comes later held now old new number result → Comes steps held now old new number result
comes_fresh steps later held now old new number result fresh same h = comes_by steps later held now old new old.store number result (λ P. by_fresh steps later held old P fresh same) h

pub comes_read : (steps later : State → Choice → Step) (held mid now : Option (List (List ℕ))) (old new : World) (read : Stored) (number : ℕ) (result : Result (List ℕ) Unanswered)
    → mid ≡ held → WasRead mid old.store read → ((records : List Record) (f : Choice) → f.reading ≡ Read → steps (state_of old records) f ≡ later (state_of old records) f)
    → Comes later mid now (with_store old read) new number result → Comes steps held now old new number result
comes_read steps later held mid now old new read number result stays was same h =
    subst (λ (o : Option (List (List ℕ))). Comes steps o now old new number result) stays
    (comes_by steps later mid now old new read number result (λ P. by_reading steps later mid old read P was same) h)

-- ---- parts that ask nothing of the keeper

-- the records stay, and the store may have become stale
pub record StoreStays (old new : Stored) : Type 0 where
  pub fresh : new.fresh ≡ true → old.fresh ≡ true
  pub records : new.records ≡ old.records

-- a step that is the same over all records and choices, and puts none
pub record Idles (steps : State → Choice → Step) (old new : World) (number : ℕ) (result : Result (List ℕ) Unanswered) : Type 0 where
  pub step : Step
  pub same : (records : List Record) (f : Choice) → steps (state_of old records) f ≡ step
  pub puts_none : step.put ≡ None
  pub told : Tells number result step.answer
  pub sites : sites_view new.sites ≡ step.sites
  pub wire : new.wire ≡ with_sent old.wire step.sent
  pub starts : new.hands ≡ step.starts
  pub store : StoreStays old.store new.store

-- the same, or want of memory, which leaves the world as it was
abbrev pub ComesIdly : (State → Choice → Step) → (old new : World) → ℕ → Result (List ℕ) Unanswered → Type 0
ComesIdly steps old new number (Err unanswered.NoMemory) = new ≡ old
ComesIdly steps old new number result = Idles steps old new number result

idle_by : (steps : State → Choice → Step) (Told : Answer → Type 0) (held now : Option (List (List ℕ))) (old new : World) (r : Step)
    → ((records : List Record) (f : Choice) → steps (state_of old records) f ≡ r) → r.put ≡ None → Told r.answer → sites_view new.sites ≡ r.sites → new.wire ≡ with_sent old.wire r.sent → new.hands ≡ r.starts
    → StoreStays old.store new.store → Stays held now → IsConsistent held old.store → StepBy steps held old (Makes Told held now old.wire new)
idle_by steps Told held now old new r same none told sites wire starts store stays consistent = record {
  choice = idle_choice old.store.fresh;
  records = old.store.records;
  chosen = chosen_idly held old.store old.store.fresh refl consistent;
  leaves = subst (λ (z : Step). Makes Told held now old.wire new old.store.records z) (sym (same old.store.records (idle_choice old.store.fresh))) (record {
    told = told;
    sites = sites;
    sent = wire;
    starts = starts;
    change = subst (λ (o : Option Record). Change held now old.store.records new.store o) (sym none) (record { told = stays; kept = λ e. store.records });
  });
}

pub comes_idly : (steps : State → Choice → Step) (held now : Option (List (List ℕ))) (old new : World) (number : ℕ) (result : Result (List ℕ) Unanswered)
    → Stays held now → IsConsistent held old.store → ComesIdly steps old new number result → Comes steps held now old new number result
comes_idly steps held now old new number (Ok text) stays consistent h =
    idle_by steps (Tells number (Ok text)) held now old new h.step h.same h.puts_none h.told h.sites h.wire h.starts h.store stays consistent
comes_idly steps held now old new number (Err (unanswered.Refused refusal)) stays consistent h =
    idle_by steps (Tells number (Err (unanswered.Refused refusal))) held now old new h.step h.same h.puts_none h.told h.sites h.wire h.starts h.store stays consistent
comes_idly steps held now old new number (Err unanswered.NoMemory) stays consistent h = record {
  sites = ap (λ (w : World). sites_view w.sites) h;
  wire = ap (λ (w : World). w.wire) h;
  kept = inl stays;
}

-- the store as it was
pub stays_itself : (s : Stored) → StoreStays s s
stays_itself s = record { fresh = λ e. e; records = refl }

-- a refusal before the keeper is asked
pub idles_refused : (steps : State → Choice → Step) (old : World) (number : ℕ) (refusal : Refusal)
    → ((records : List Record) (f : Choice) → steps (state_of old records) f ≡ refuses (state_of old records) (refusal_view refusal)) → Idles steps old old number (Err (unanswered.Refused refusal))
idles_refused steps old number refusal same = record {
  step = refuses (state_of old []) (refusal_view refusal);
  same = same;
  puts_none = refl;
  told = refl;
  sites = refl;
  wire = refl;
  starts = refl;
  store = stays_itself old.store;
}

pub comes_refused : (steps : State → Choice → Step) (held : Option (List (List ℕ))) (old : World) (number : ℕ) (refusal : Refusal) → IsConsistent held old.store
    → ((records : List Record) (f : Choice) → steps (state_of old records) f ≡ refuses (state_of old records) (refusal_view refusal)) → Comes steps held held old old number (Err (unanswered.Refused refusal))
comes_refused steps held old number refusal consistent same = comes_idly steps held held old old number (Err (unanswered.Refused refusal)) refl consistent (idles_refused steps old number refusal same)

-- want of memory before the keeper is asked
pub gives_up_idly : (steps : State → Choice → Step) (held now : Option (List (List ℕ))) (old new : World) → new.sites ≡ old.sites → new.wire ≡ old.wire → Stays held now → GivesUp steps held now old new
gives_up_idly steps held now old new sites wire stays = record { sites = ap sites_view sites; wire = wire; kept = inl stays }

-- ---- calls over the store

-- a step that is made of what a call comes to
pub by_call : {X R : Type 0} (outcome : Choice → List Record → Outcome R X) (Answers : Result X (Cause R) → Type 0) (steps : State → Choice → Step) (make : State → Outcome R X → Step) (held now : Option (List (List ℕ))) (old : World) (new : Stored) (P : List Record → Step → Type 0)
    → CallBy outcome Answers held now old.store new → ((records : List Record) (f : Choice) → steps (state_of old records) f ≡ make (state_of old records) (outcome f records))
    → ((records : List Record) (o : Outcome R X) → Answers o.result → Change held now records new o.put → P records (make (state_of old records) o))
    → StepBy steps held old P
by_call outcome Answers steps make held now old new P h same leaves = record {
  choice = h.choice;
  records = h.records;
  chosen = h.chosen;
  leaves = subst (λ (r : Step). P h.records r) (sym (same h.records h.choice)) (leaves h.records (outcome h.choice h.records) h.comes.answer h.comes.change);
}

-- what was to be read is refused before the keeper is asked
pub comes_unfit : {B : Type 0} (steps : State → Choice → Step) (held : Option (List (List ℕ))) (old : World) (number : ℕ) (why : Unanswered) (wanted : Result B script.Refusal) → IsConsistent held old.store → gives.Tells (told_refusal why) wanted
    → ((records : List Record) (f : Choice) (e : script.Refusal) → wanted ≡ Err e → steps (state_of old records) f ≡ refuses (state_of old records) e) → Comes steps held held old old number (Err why)
comes_unfit steps held old number (unanswered.Refused refusal) wanted consistent told same = comes_refused steps held old number refusal consistent (λ records f. same records f (refusal_view refusal) told)
comes_unfit steps held old number unanswered.NoMemory wanted consistent told same = gives_up_idly steps held held old old refl refl refl

-- the same, over the records of a fresh store
pub comes_unfit_fresh : {B : Type 0} (steps : State → Choice → Step) (held : Option (List (List ℕ))) (old : World) (number : ℕ) (why : Unanswered) (wanted : Result B script.Refusal) → old.store.fresh ≡ true → IsConsistent held old.store → gives.Tells (told_refusal why) wanted
    → ((f : Choice) (e : script.Refusal) → wanted ≡ Err e → steps (state_of old old.store.records) f ≡ refuses (state_of old old.store.records) e) → Comes steps held held old old number (Err why)
comes_unfit_fresh steps held old number (unanswered.Refused refusal) wanted fresh consistent told same =
    comes_fresh steps (λ s f. refuses s (refusal_view refusal)) held held old old number (Err (unanswered.Refused refusal)) fresh (λ f. same f (refusal_view refusal) told)
    (comes_refused (λ s f. refuses s (refusal_view refusal)) held old number refusal consistent (λ records f. refl))
comes_unfit_fresh steps held old number unanswered.NoMemory wanted fresh consistent told same = gives_up_idly steps held held old old refl refl refl
