-- What a step leaves of a world and its keeper, for the steps of lines and for their parts.
use Rattle.std.specs.Prelude.{◌≡◌, ◌⊎◌, ℕ, List, Bool, true, false, Option, Result, Ok, Err}
use Rattle.spec_documents.specs.Tree.{Tree}
use Rattle.spec_records.specs.Records.{Record}
use Rattle.n32_outside.specs.Contents.{Stays}
use Rattle.n32_values.specs.declared.memory.NoMemory.{NoMemory}
use Rattle.context_store.specs.Changes.{Keeps, Change, IsChosen}
use Rattle.spec_exchange.specs.Outside.{Choice}
use Rattle.spec_script.specs.Steps.{State, Answer, Step, Refuses, with_sent}
use Rattle.spec_script.specs.Answers.{answer_text}
use Rattle.spec_script.specs.Output.{has_refusal, is_keeper_refusal}
use Rattle.n32_outside.specs.Causes.{Rose}
use Rattle.script_lines.specs.View.{refusal_view}
use Rattle.spec_exchange.specs.Screens.{Passes}
use Rattle.replay_world.specs.Outsiders.{Acting, line_steps}
use Rattle.replay_world.specs.Worlds.{sites_view, state_of}
use Rattle.replay_world.specs.declared.world.World.{World}
use Rattle.script_lines.specs.declared.unanswered.Unanswered.{Unanswered}
use Rattle.script_lines.specs.declared.unanswered.Unanswered.TheVariants as unanswered

-- ---- over what a step is

-- by the step over the world's nodes and wire, and over a choice and records that are due
pub record StepBy (steps : State → Choice → Step) (held : Option (List (List ℕ))) (old : World) (Leaves : List Record → Step → Type 0) : Type 0 where
  pub choice : Choice
  pub records : List Record
  pub chosen : IsChosen held old.store choice records
  pub leaves : Leaves records (steps (state_of old records) choice)

-- ---- what it leaves

-- the step is told, and it is what became of the world, whose wire this was, and of what is held
pub record Makes (Told : Answer → Type 0) (held now : Option (List (List ℕ))) (wire : List Tree) (new : World) (records : List Record) (r : Step) : Type 0 where
  pub told : Told r.answer
  pub sites : sites_view new.sites ≡ r.sites
  pub sent : new.wire ≡ with_sent wire r.sent
  pub starts : new.hands ≡ r.starts
  pub change : Change held now records new.store r.put

-- what is held may have the step's record more
abbrev pub HasPut : (held now : Option (List (List ℕ))) → List Record → Step → Type 0
HasPut held now records r = Keeps held now r.put

-- want of memory leaves the nodes and the wire, and the records as they were or with the step's one record
pub record GivesUp (steps : State → Choice → Step) (held now : Option (List (List ℕ))) (old new : World) : Type 0 where
  pub sites : sites_view new.sites ≡ sites_view old.sites
  pub wire : new.wire ≡ old.wire
  pub kept : Stays held now ⊎ StepBy steps held old (HasPut held now)

-- ---- what is told of it

abbrev pub is_refusal : Answer → Bool
is_refusal a = has_refusal (λ e. true) a

-- the text of an answer that is no refusal, or a refusal
abbrev pub Tells : ℕ → Result (List ℕ) Unanswered → Answer → Type 0
Tells number (Ok text) a = (text ≡ answer_text number a) × (is_refusal a ≡ false)
Tells number (Err (unanswered.Refused refusal)) a = a ≡ Refuses (refusal_view refusal)
Tells number (Err unanswered.NoMemory) a = ⊥

-- the part of a step that these steps are
abbrev pub Comes : (State → Choice → Step) → (held now : Option (List (List ℕ))) → (old new : World) → ℕ → Result (List ℕ) Unanswered → Type 0
Comes steps held now old new number (Err unanswered.NoMemory) = GivesUp steps held now old new
Comes steps held now old new number result = StepBy steps held old (Makes (Tells number result) held now old.wire new)

-- the text of the answer, and KEEPER only where the keeper's count rose
pub record TellsText (before after_ : ℕ) (number : ℕ) (text : List ℕ) (a : Answer) : Type 0 where
  pub text_is : text ≡ answer_text number a
  pub failed : has_refusal is_keeper_refusal a ≡ true → Rose before after_

-- the step of a line behind a screen, where signer and verifier act so
abbrev pub LineComes : Passes → Acting → (held now : Option (List (List ℕ))) → (before after_ : ℕ) → (old new : World) → (number : ℕ) → (line : List ℕ) → Result (List ℕ) NoMemory → Type 0
LineComes passes x held now before after_ old new number line (Ok text) = StepBy (line_steps passes x line) held old (Makes (TellsText before after_ number text) held now old.wire new)
LineComes passes x held now before after_ old new number line (Err e) = GivesUp (line_steps passes x line) held now old new
