-- What reading the store and putting a record leave of a world.
use Rattle.std.proofs.Common.{◌≡◌, ◌⊎◌, ⊎_elim, ◌<◌, ◌≤◌, ℕ, List, [], ◌∷◌, ◌++◌, length, true, false, Option, IfSome, Result, Ok, Err, refl, sym, ap, subst, ◌∙◌, inl, inr}
use Rattle.spec_records.specs.Records.{Record, record_limit}
use Rattle.n32_outside.specs.Contents.{Stays, Gains}
use Rattle.context_records.specs.Reading.{ReadsRecord, written}
use Rattle.context_store.specs.Stores.{Stored, IsConsistent, IsFirstBad, NamesBad}
use Rattle.context_store.specs.declared.faults.OpenFault.{OpenFault}
use Rattle.context_store.specs.declared.faults.OpenFault.TheVariants as opening
use Rattle.context_store.specs.declared.faults.AddFault.{AddFault}
use Rattle.context_store.specs.declared.faults.AddFault.TheVariants as adding
use Rattle.spec_exchange.specs.Chain.{◌>>=◌}
use Rattle.spec_exchange.specs.Outside.{Choice, Journal, Keeper, Read, ReadFails, BadRecord, Putting, Kept, Lost, KeptUntold}
use Rattle.spec_script.specs.Refusals.{Refusal, OfOutside}
use Rattle.spec_script.specs.Steps.{State, Step, Fine, refuses, or_refuses, has_read, puts}
use Rattle.spec_script.specs.Answers.{answer_text}
use Rattle.script_lines.specs.View.{refusal_view}
use Rattle.block_forms.specs.declared.fault.LimitName.TheVariants as limits
use Rattle.script_lines.specs.declared.refusal.Refusal as declared
use Rattle.script_lines.specs.declared.refusal.Refusal.TheVariants as refusals
use Rattle.replay_world.specs.Refusing.{of_opening, of_adding}
use Rattle.replay_world.specs.Worlds.{sites_view, state_of}
use Rattle.replay_world.specs.Stepping.{StepBy, Makes, Tells, Comes}
use Rattle.replay_world.specs.Handing.{puts_record}
use Rattle.replay_world.specs.declared.world.World.{World}
use Rattle.script_lines.specs.declared.unanswered.Unanswered.{Unanswered}
use Rattle.script_lines.specs.declared.unanswered.Unanswered.TheVariants as unanswered
use Rattle.replay_world.proofs.Parts.{chosen_fresh, gives_up_idly}
use Rattle.replay_world.proofs.EventSteps.{has_room, no_room}

-- ---- the store isn't read

reads_bad : (s : State) (k : ℕ) (later : Result Step Refusal) → or_refuses s (has_read (BadRecord k) >>= λ _. later) ≡ refuses s (OfOutside (Journal k))
unfolding ◌>>=◌
reads_bad s k later = refl

reads_not : (s : State) (later : Result Step Refusal) → or_refuses s (has_read ReadFails >>= λ _. later) ≡ refuses s (OfOutside Keeper)
unfolding ◌>>=◌
reads_not s later = refl

unread_by : (steps : State → Choice → Step) (held now : Option (List (List ℕ))) (old new : World) (number : ℕ) (f : Choice) (refusal : declared.Refusal)
    → steps (state_of old []) f ≡ refuses (state_of old []) (refusal_view refusal) → (f.reading ≡ Read → ⊥) → ((k : ℕ) → f.reading ≡ BadRecord k → IfSome held (λ texts. IsFirstBad texts k)) → (old.store.fresh ≡ true → ⊥)
    → new.store.fresh ≡ false → Stays held now → new.sites ≡ old.sites → new.hands ≡ old.hands → new.wire ≡ old.wire
    → StepBy steps held old (Makes (Tells number (Err (unanswered.Refused refusal))) held now old.wire new)
unread_by steps held now old new number f refusal same not_read bad before stale stays sites starts wire = record {
  choice = f;
  records = [];
  chosen = record { fresh = λ e. absurd (before e); read = λ e. absurd (not_read e); few = λ fresh e. absurd (not_read e); bad = bad };
  leaves = subst (λ (r : Step). Makes (Tells number (Err (unanswered.Refused refusal))) held now old.wire new [] r) (sym same)
      (record { told = refl; sites = ap sites_view sites; starts = starts; sent = wire; change = record { told = stays; kept = λ e. cc } });
}

-- the store was to be read, and a fault came
pub comes_unread : (steps : State → Choice → Step) (later : State → Choice → Result Step Refusal) (held now : Option (List (List ℕ))) (old new : World) (number : ℕ) (e : OpenFault)
    → ((records : List Record) (f : Choice) → steps (state_of old records) f ≡ or_refuses (state_of old records) (has_read f.reading >>= λ _. later (state_of old records) f))
    → (old.store.fresh ≡ true → ⊥) → new.store.fresh ≡ false → NamesBad held e → Stays held now → new.sites ≡ old.sites → new.hands ≡ old.hands → new.wire ≡ old.wire
    → Comes steps held now old new number (Err (of_opening e))
comes_unread steps later held now old new number (opening.Journal k) same before stale bad stays sites starts wire =
    let f : Choice = record { reading = BadRecord k; putting = Kept } in
    unread_by steps held now old new number f (refusals.Journal k) (same [] f ∙ reads_bad (state_of old []) k (later (state_of old []) f)) (λ e. cc)
    (λ j e. let number_is : k ≡ j = cc in subst (λ (n : ℕ). IfSome held (λ texts. IsFirstBad texts n)) number_is bad) before stale stays sites starts wire
comes_unread steps later held now old new number opening.Keeper same before stale bad stays sites starts wire =
    let f : Choice = record { reading = ReadFails; putting = Kept } in
    unread_by steps held now old new number f refusals.Keeper (same [] f ∙ reads_not (state_of old []) (later (state_of old []) f)) (λ e. cc) (λ j e. cc) before stale stays sites starts wire
comes_unread steps later held now old new number opening.NoMemory same before stale bad stays sites starts wire = gives_up_idly steps held now old new sites wire stays

-- ---- a record is put, over a fresh store

put_by : (name : List ℕ) (r : Record) (held now : Option (List (List ℕ))) (old new : World) (number : ℕ) (result : Result (List ℕ) Unanswered) (p : Putting)
    → old.store.fresh ≡ true → IsConsistent held old.store → length old.store.records < record_limit
    → Makes (Tells number result) held now old.wire new old.store.records (puts (state_of old old.store.records) p name r)
    → StepBy (puts_record name r) held old (Makes (Tells number result) held now old.wire new)
put_by name r held now old new number result p fresh consistent room made = record {
  choice = record { reading = Read; putting = p };
  records = old.store.records;
  chosen = chosen_fresh held old.store p fresh consistent;
  leaves = subst (λ (z : Step). Makes (Tells number result) held now old.wire new old.store.records z) (sym (has_room (state_of old old.store.records) (record { reading = Read; putting = p }) name r room)) made;
}

pub comes_recorded : (name : List ℕ) (r : Record) (held now : Option (List (List ℕ))) (old new : World) (number : ℕ) (text : List ℕ)
    → old.store.fresh ≡ true → IsConsistent held old.store → length old.store.records < record_limit → Gains held now (written r) → ReadsRecord (written r) r → new.store.records ≡ old.store.records ++ r ∷ []
    → new.sites ≡ old.sites → new.hands ≡ old.hands → new.wire ≡ old.wire → text ≡ answer_text number (Fine name) → Comes (puts_record name r) held now old new number (Ok text)
comes_recorded name r held now old new number text fresh consistent room gains reads more sites starts wire is =
    put_by name r held now old new number (Ok text) Kept fresh consistent room (record { told = (is, refl); sites = ap sites_view sites; starts = starts; sent = wire; change = record { told = (gains, reads); kept = λ e. more } })

-- a put that failed may have kept the record
comes_lost : (name : List ℕ) (r : Record) (held now : Option (List (List ℕ))) (old new : World) (number : ℕ)
    → old.store.fresh ≡ true → IsConsistent held old.store → length old.store.records < record_limit → new.store.fresh ≡ false → Stays held now ⊎ Gains held now (written r) → ReadsRecord (written r) r
    → new.sites ≡ old.sites → new.hands ≡ old.hands → new.wire ≡ old.wire → Comes (puts_record name r) held now old new number (Err (unanswered.Refused refusals.Keeper))
comes_lost name r held now old new number fresh consistent room stale either reads sites starts wire = ⊎_elim
    (λ stays. put_by name r held now old new number (Err (unanswered.Refused refusals.Keeper)) Lost fresh consistent room
    (record { told = refl; sites = ap sites_view sites; starts = starts; sent = wire; change = record { told = stays; kept = λ e. cc } }))
    (λ gains. put_by name r held now old new number (Err (unanswered.Refused refusals.Keeper)) KeptUntold fresh consistent room
    (record { told = refl; sites = ap sites_view sites; starts = starts; sent = wire; change = record { told = (gains, reads); kept = λ e. cc } }))
    either

comes_full : (name : List ℕ) (r : Record) (held now : Option (List (List ℕ))) (old new : World) (number : ℕ)
    → old.store.fresh ≡ true → IsConsistent held old.store → record_limit ≤ length old.store.records → new.store ≡ old.store → Stays held now
    → new.sites ≡ old.sites → new.hands ≡ old.hands → new.wire ≡ old.wire → Comes (puts_record name r) held now old new number (Err (unanswered.Refused (refusals.Limit limits.Records)))
comes_full name r held now old new number fresh consistent full same stays sites starts wire =
    let f : Choice = record { reading = Read; putting = Kept } in
    record {
      choice = f;
      records = old.store.records;
      chosen = chosen_fresh held old.store Kept fresh consistent;
      leaves = subst (λ (z : Step). Makes (Tells number (Err (unanswered.Refused (refusals.Limit limits.Records)))) held now old.wire new old.store.records z) (sym (no_room (state_of old old.store.records) f name r full))
          (record { told = refl; sites = ap sites_view sites; starts = starts; sent = wire; change = record { told = stays; kept = λ e. ap (λ (s : Stored). s.records) same } });
    }

-- what a fault of a put leaves
pub record Unput (r : Record) (held now : Option (List (List ℕ))) (old new : Stored) (e : AddFault) : Type 0 where
  pub limit : e ≡ adding.Limit → record_limit ≤ length old.records
  pub room : e ≡ adding.Keeper → length old.records < record_limit
  pub stale : e ≡ adding.Keeper → new.fresh ≡ false
  pub perhaps : e ≡ adding.Keeper → Stays held now ⊎ Gains held now (written r)
  pub reads : e ≡ adding.Keeper → ReadsRecord (written r) r
  pub same : (e ≡ adding.Limit) ⊎ (e ≡ adding.NoMemory) → (new ≡ old) × Stays held now

pub comes_unrecorded : (name : List ℕ) (r : Record) (held now : Option (List (List ℕ))) (old new : World) (number : ℕ) (e : AddFault)
    → old.store.fresh ≡ true → IsConsistent held old.store → Unput r held now old.store new.store e → new.sites ≡ old.sites → new.hands ≡ old.hands → new.wire ≡ old.wire
    → Comes (puts_record name r) held now old new number (Err (of_adding e))
comes_unrecorded name r held now old new number adding.Limit fresh consistent h sites starts wire =
    let same = h.same (inl refl) in comes_full name r held now old new number fresh consistent (h.limit refl) same.0 same.1 sites starts wire
comes_unrecorded name r held now old new number adding.Keeper fresh consistent h sites starts wire =
    comes_lost name r held now old new number fresh consistent (h.room refl) (h.stale refl) (h.perhaps refl) (h.reads refl) sites starts wire
comes_unrecorded name r held now old new number adding.NoMemory fresh consistent h sites starts wire =
    gives_up_idly (puts_record name r) held now old new sites wire (h.same (inr refl)).1
