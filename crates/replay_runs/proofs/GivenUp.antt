-- What is held where memory is refused at a line, over the records that are held.
use Rattle.std.proofs.Common.{◌≡◌, ◌⊎◌, ℕ, List, Some, refl, subst, inl, inr}
use Rattle.std.specs.Prelude.{Option}
use Rattle.spec_records.specs.Records.{Record}
use Rattle.spec_exchange.specs.Outside.{Choice, no_fault, Reading, Read, ReadFails, BadRecord, with_put}
use Rattle.spec_script.specs.Events.{line_event}
use Rattle.spec_script.specs.Steps.{Step, line_step}
use Rattle.context_store.specs.Stores.{AreRecords}
use Rattle.context_store.specs.Changes.{Keeps}
use Rattle.spec_script.specs.Choices.{Choices, Meanings, IsBy}
use Rattle.replay_world.specs.Outsiders.{Acting, by, line_steps}
use Rattle.replay_world.specs.declared.world.World.{World}
use Rattle.replay_world.specs.Worlds.{TellsRecords, sites_view, state_of}
use Rattle.replay_world.specs.Stepping.{GivesUp, StepBy, HasPut}
use Rattle.replay_world.proofs.Unread.{line_same}
use Rattle.replay_world.proofs.Held.{are_one, tells_put}

-- the records, with the one that the line's step puts under some choice of the keeper
abbrev pub Puts : Meanings → World → List Record → List ℕ → Option (List (List ℕ)) → Type 0
Puts means w records line now = (f : Choices) × IsBy means f × TellsRecords now (with_put records (line_step means.passes (state_of w records) f line).put)

-- whatever the keeper's choice
by_any : (means : Meanings) (x : Acting) (f : Choice) → IsBy means (by x no_fault) → IsBy means (by x f)
by_any means x f h = record { signs = h.signs; verifies = h.verifies }

by_step : (means : Meanings) (x : Acting) (texts : List (List ℕ)) (now : Option (List (List ℕ))) (old : World) (records : List Record) (line : List ℕ) → AreRecords texts records → IsBy means (by x no_fault)
    → StepBy (line_steps means.passes x line) (Some texts) old (HasPut (Some texts) now) → Puts means old records line now
by_step means x texts now old records line are signs h = by_reading h.choice.reading refl
  where
    unread : (h.choice.reading ≡ Read → ⊥) → Puts means old records line now
    unread not_read =
        let same = line_same (sites_view old.sites) old.wire old.hands h.records records means.passes (by x h.choice) not_read (line_event line) in
        (by x h.choice, by_any means x h.choice signs, tells_put texts now records (line_step means.passes (state_of old records) (by x h.choice) line).put are (subst (λ (r : Step). Keeps (Some texts) now r.put) same.is h.leaves))

    by_reading : (reading : Reading) → h.choice.reading ≡ reading → Puts means old records line now
    by_reading Read e =
        let same : h.records ≡ records = are_one texts h.records records (h.chosen.read e) are in
        (by x h.choice, by_any means x h.choice signs, tells_put texts now records (line_step means.passes (state_of old records) (by x h.choice) line).put are (subst (λ (rs : List Record). Keeps (Some texts) now (line_step means.passes (state_of old rs) (by x h.choice) line).put) same h.leaves))
    by_reading ReadFails e = unread (λ r. cc)
    by_reading (BadRecord n) e = unread (λ r. cc)

pub given_up : (means : Meanings) (x : Acting) (texts : List (List ℕ)) (now : Option (List (List ℕ))) (old new : World) (records : List Record) (line : List ℕ) → AreRecords texts records → IsBy means (by x no_fault)
    → GivesUp (line_steps means.passes x line) (Some texts) now old new → TellsRecords now records ⊎ Puts means old records line now
given_up means x texts now old new records line are signs g = elim g.kept [
  | inl stays ↦ inl (record { texts = texts; told = stays; are = are })
  | inr h ↦ inr (by_step means x texts now old records line are signs h)
]
