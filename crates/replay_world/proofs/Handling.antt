-- What handlers owe, by what their parts come to.
use Rattle.std.proofs.Common.{◌≡◌, ◌≤◌, ℕ, List, true, Option, Result, Ok, Err, refl, sym, subst, arith}
use Rattle.std.specs.Prelude.{IsErrOf}
use Rattle.n32_outside.specs.Causes.{Rose}
use Rattle.spec_records.specs.Records.{Record}
use Rattle.context_store.specs.Stores.{Stored, Holds, IsConsistent}
use Rattle.context_store.specs.declared.faults.OpenFault.{OpenFault}
use Rattle.context_store.specs.declared.faults.OpenFault.TheVariants as opening
use Rattle.context_store.specs.declared.faults.AddFault.{AddFault}
use Rattle.context_store.specs.declared.faults.AddFault.TheVariants as adding
use Rattle.sending_sepp.specs.declared.fault.SendFault.{SendFault}
use Rattle.context_store.specs.declared.call_faults.CallFault.{CallFault}
use Rattle.receiving_sepp.specs.declared.refused.Refused.{Refused}
use Rattle.context_store.specs.declared.call_faults.CallFault.TheVariants as calling
use Rattle.spec_documents.specs.Tree.{Tree}
use Rattle.spec_documents.specs.Gives as gives
use Rattle.spec_exchange.specs.Outside.{Choice, Read}
use Rattle.spec_script.specs.Refusals as script
use Rattle.spec_script.specs.Steps.{State, Step, refuses}
use Rattle.script_lines.specs.View.{refusal_view}
use Rattle.script_lines.specs.Unanswered.{SparesKeeper, told_refusal}
use Rattle.script_lines.specs.declared.refusal.Refusal.{Refusal}
use Rattle.script_lines.specs.declared.refusal.Refusal.TheVariants as refusals
use Rattle.script_lines.specs.declared.unanswered.Unanswered.{Unanswered}
use Rattle.script_lines.specs.declared.unanswered.Unanswered.TheVariants as unanswered
use Rattle.replay_world.specs.Refusing.{of_opening, of_adding, of_sending, of_receiving}
use Rattle.replay_world.specs.Worlds.{IsSound, IsReady, state_of}
use Rattle.replay_world.specs.Handling.{Handles, HandlesAlone}
use Rattle.replay_world.specs.declared.world.World.{World}
use Rattle.replay_world.proofs.Parts.{StoreStays, Idles, WasRead, with_store, comes_idly, comes_refused, comes_unfit, comes_unfit_fresh, comes_same, comes_fresh, comes_read, gives_up_idly}

-- ---- without the keeper

consistent_stays : (held : Option (List (List ℕ))) (old new : Stored) → StoreStays old new → IsConsistent held old → IsConsistent held new
consistent_stays held old new h consistent = λ e. subst (λ (rs : List Record). Holds held rs) (sym h.records) (consistent (h.fresh e))

pub alone_done : (steps : State → Choice → Step) (old new : World) (number : ℕ) (text : List ℕ) → Idles steps old new number (Ok text) → IsSound new → HandlesAlone steps old new number (Ok text)
alone_done steps old new number text idles sound held faults consistent = record {
  comes = comes_idly steps held held old new number (Ok text) refl consistent idles;
  ready = record { consistent = consistent_stays held old.store new.store idles.store consistent; sound = sound };
  later = omega arith;
  failed = λ e. cc;
}

pub alone_refused : (steps : State → Choice → Step) (old : World) (number : ℕ) (refusal : Refusal) → (refusal ≡ refusals.Keeper → ⊥) → IsSound old
    → ((records : List Record) (f : Choice) → steps (state_of old records) f ≡ refuses (state_of old records) (refusal_view refusal)) → HandlesAlone steps old old number (Err (unanswered.Refused refusal))
alone_refused steps old number refusal other sound same held faults consistent = record {
  comes = comes_refused steps held old number refusal consistent same;
  ready = record { consistent = consistent; sound = sound };
  later = omega arith;
  failed = λ e. let is : refusal ≡ refusals.Keeper = cc in absurd (other is);
}

pub alone_memory : (steps : State → Choice → Step) (old new : World) (number : ℕ) → IsSound old → new ≡ old → HandlesAlone steps old new number (Err unanswered.NoMemory)
alone_memory steps old new number sound same =
    subst (λ (w : World). HandlesAlone steps old w number (Err unanswered.NoMemory)) (sym same) λ held faults consistent. record {
      comes = gives_up_idly steps held held old old refl refl refl;
      ready = record { consistent = consistent; sound = sound };
      later = omega arith;
      failed = λ e. cc;
    }

-- what was to be read is refused
pub alone_unfit : {B : Type 0} (steps : State → Choice → Step) (old : World) (number : ℕ) (why : Unanswered) (wanted : Result B script.Refusal) → SparesKeeper {A = List ℕ} (Err why) → IsSound old → gives.Tells (told_refusal why) wanted
    → ((records : List Record) (f : Choice) (e : script.Refusal) → wanted ≡ Err e → steps (state_of old records) f ≡ refuses (state_of old records) e) → HandlesAlone steps old old number (Err why)
alone_unfit steps old number why wanted spares sound told same held faults consistent = record {
  comes = comes_unfit steps held old number why wanted consistent told same;
  ready = record { consistent = consistent; sound = sound };
  later = omega arith;
  failed = λ e. absurd (spares e);
}

-- ---- steps that are others

pub handles_same : (steps later : State → Choice → Step) (held now : Option (List (List ℕ))) (before after_ : ℕ) (old new : World) (number : ℕ) (result : Result (List ℕ) Unanswered)
    → ((records : List Record) (f : Choice) → steps (state_of old records) f ≡ later (state_of old records) f) → Handles later held now before after_ old new number result → Handles steps held now before after_ old new number result
handles_same steps later held now before after_ old new number result same h = record { comes = comes_same steps later held now old new number result same h.comes; ready = h.ready; later = h.later; failed = h.failed }

pub handles_fresh : (steps later : State → Choice → Step) (held now : Option (List (List ℕ))) (before after_ : ℕ) (old new : World) (number : ℕ) (result : Result (List ℕ) Unanswered)
    → old.store.fresh ≡ true → ((f : Choice) → steps (state_of old old.store.records) f ≡ later (state_of old old.store.records) f) → Handles later held now before after_ old new number result → Handles steps held now before after_ old new number result
handles_fresh steps later held now before after_ old new number result fresh same h = record { comes = comes_fresh steps later held now old new number result fresh same h.comes; ready = h.ready; later = h.later; failed = h.failed }

-- over the records of a fresh store
pub handles_unfit_fresh : {B : Type 0} (steps : State → Choice → Step) (held : Option (List (List ℕ))) (faults : ℕ) (old : World) (number : ℕ) (why : Unanswered) (wanted : Result B script.Refusal) → SparesKeeper {A = List ℕ} (Err why)
    → old.store.fresh ≡ true → IsReady held old → gives.Tells (told_refusal why) wanted
    → ((f : Choice) (e : script.Refusal) → wanted ≡ Err e → steps (state_of old old.store.records) f ≡ refuses (state_of old old.store.records) e) → Handles steps held held faults faults old old number (Err why)
handles_unfit_fresh steps held faults old number why wanted spares fresh ready told same = record {
  comes = comes_unfit_fresh steps held old number why wanted fresh ready.consistent told same;
  ready = ready;
  later = omega arith;
  failed = λ e. absurd (spares e);
}

rose_later : (a b c : ℕ) → a ≤ b → Rose b c → Rose a c
rose_later a b c le rose = omega (arith, le, rose)

pub handles_read : (steps later : State → Choice → Step) (held mid now : Option (List (List ℕ))) (before between after_ : ℕ) (old new : World) (read : Stored) (number : ℕ) (result : Result (List ℕ) Unanswered)
    → mid ≡ held → before ≤ between → WasRead mid old.store read → ((records : List Record) (f : Choice) → f.reading ≡ Read → steps (state_of old records) f ≡ later (state_of old records) f)
    → Handles later mid now between after_ (with_store old read) new number result → Handles steps held now before after_ old new number result
handles_read steps later held mid now before between after_ old new read number result stays le was same h = record {
  comes = comes_read steps later held mid now old new read number result stays was same h.comes;
  ready = h.ready;
  later = omega (arith, le, h.later);
  failed = λ e. rose_later before between after_ le (h.failed e);
}

-- ---- the keeper's own fault

pub unread_keeper : (e : OpenFault) → IsErrOf {T = List ℕ} (Err (of_opening e)) (unanswered.Refused refusals.Keeper) → e ≡ opening.Keeper
unread_keeper (opening.Journal k) h = cc
unread_keeper opening.Keeper h = refl
unread_keeper opening.NoMemory h = cc

pub unrecorded_keeper : (e : AddFault) → IsErrOf {T = List ℕ} (Err (of_adding e)) (unanswered.Refused refusals.Keeper) → e ≡ adding.Keeper
unrecorded_keeper adding.Limit h = cc
unrecorded_keeper adding.Keeper h = refl
unrecorded_keeper adding.NoMemory h = cc

pub unsent_keeper : (e : CallFault SendFault) → IsErrOf {T = List ℕ} (Err (of_sending e)) (unanswered.Refused refusals.Keeper) → e ≡ calling.Keeper
unsent_keeper (calling.Refused r) h = cc
unsent_keeper (calling.Journal k) h = cc
unsent_keeper calling.Keeper h = refl
unsent_keeper calling.NoMemory h = cc

pub undelivered_keeper : (t : Tree) (e : CallFault Refused) → IsErrOf {T = List ℕ} (Err (of_receiving t e)) (unanswered.Refused refusals.Keeper) → e ≡ calling.Keeper
undelivered_keeper t (calling.Refused r) h = cc
undelivered_keeper t (calling.Journal k) h = cc
undelivered_keeper t calling.Keeper h = refl
undelivered_keeper t calling.NoMemory h = cc
