-- A world as a state of the definitions, the condition of a step, and what a step gives over the records that are held.
use Rattle.std.specs.Prelude.{◌≡◌, ⊤, ℕ, ◌≤◌, true, List, [], ◌∷◌, Option, Some, None, IfSome, map}
use Rattle.std.specs.List.{AllByRecursion}
use Rattle.spec_documents.specs.Tree.{Tree, depth}
use Rattle.n32_outside.specs.Causes.{Rose}
use Rattle.spec_records.specs.Records.{Record}
use Rattle.spec_exchange.specs.Outside.{Journal, with_put}
use Rattle.spec_exchange.specs.Screens.{Passes}
use Rattle.spec_script.specs.Choices.{Choices}
use Rattle.spec_script.specs.Refusals.{OfOutside}
use Rattle.spec_script.specs.Steps as spec
use Rattle.spec_script.specs.Steps.{State, Refuses, after, line_step, plmn_at}
use Rattle.spec_script.specs.Answers.{answer_text}
use Rattle.spec_script.specs.Output.{has_refusal, is_keeper_refusal, is_signer_refusal, is_verifier_refusal}
use Rattle.context_store.specs.Stores.{AreRecords, IsConsistent, IsFirstBad}
use Rattle.replay_world.specs.Outsiders.{Told, IsActing}
use Rattle.replay_world.specs.declared.world.Site.{Site}
use Rattle.replay_world.specs.declared.world.World.{World}

-- ---- a world

abbrev pub site_view : Site → spec.Site
site_view s = record { node = s.node; plmn = s.plmn }

abbrev pub sites_view : List Site → List spec.Site
sites_view sites = map site_view sites

-- the state of a world over these records
abbrev pub state_of : World → List Record → State
state_of w records = record { sites = sites_view w.sites; wire = w.wire; records = records; starts = w.hands }

-- no node stands twice
abbrev pub AreDistinct : List spec.Site → Type 0
AreDistinct [] = ⊤
AreDistinct (site ∷ sites) = (plmn_at sites site.node ≡ None) × AreDistinct sites

-- a document on the wire is at most 126 deep, so that an answer that holds it is a document
abbrev pub IsShallow : Tree → Type 0
IsShallow t = depth t ≤ 126

-- the world's own part of the condition of a step
pub record IsSound (w : World) : Type 0 where
  pub nodes : AreDistinct (sites_view w.sites)
  pub wire : AllByRecursion IsShallow w.wire
  -- the number of bytes that the documents on the wire have
  pub bytes : w.wire_bytes ≡ spec.wire_bytes w.wire

-- the condition of a step
pub record IsReady (held : Option (List (List ℕ))) (w : World) : Type 0 where
  pub consistent : IsConsistent held w.store
  pub sound : IsSound w

-- ---- a step over the records that are held

-- the keeper tells, and what it holds are these records
pub record TellsRecords (held : Option (List (List ℕ))) (records : List Record) : Type 0 where
  pub texts : List (List ℕ)
  pub told : held ≡ Some texts
  pub are : AreRecords texts records

-- the line of this number is answered over these records: by the step of the line behind a screen of this rule, under some choices of keeper, signer and verifier
pub record StepsOver (passes : Passes) (before after_ : Told) (old new : World) (texts : List (List ℕ)) (records : List Record) (number : ℕ) (line text : List ℕ) : Type 0 where
  pub choice : Choices
  -- what is signed and verified is as signer and verifier tell
  pub meant : IsActing before.others after_.others (record { signer = choice.signer; verifier = choice.verifier })
  pub text_is : text ≡ answer_text number (line_step passes (state_of old records) choice line).answer
  -- the world, over what is held then, is the state after the step
  pub state_is : state_of new (with_put records (line_step passes (state_of old records) choice line).put) ≡ after (state_of old records) (line_step passes (state_of old records) choice line)
  pub held_is : TellsRecords after_.held (with_put records (line_step passes (state_of old records) choice line).put)
  -- a fault of the keeper is told only where its count rose
  pub failed : has_refusal is_keeper_refusal (line_step passes (state_of old records) choice line).answer ≡ true → Rose before.keeper_faults after_.keeper_faults
  -- one of the signer only where that one's rose
  pub unsigned : has_refusal is_signer_refusal (line_step passes (state_of old records) choice line).answer ≡ true → Rose before.others.signer.faults after_.others.signer.faults
  -- and one of the verifier only where that one's rose
  pub unverified : has_refusal is_verifier_refusal (line_step passes (state_of old records) choice line).answer ≡ true → Rose before.others.verifier.faults after_.others.verifier.faults
  -- a bad record is told only where it is the first
  pub journal : (k : ℕ) → (line_step passes (state_of old records) choice line).answer ≡ Refuses (OfOutside (Journal k)) → IsFirstBad texts k

-- where the keeper tells texts that are all records
abbrev pub Steps : (before after_ : Told) → (old new : World) → (number : ℕ) → (line text : List ℕ) → Type 0
Steps before after_ old new number line text =
    IfSome before.held (λ texts. (records : List Record) → AreRecords texts records → StepsOver before.others.screen before after_ old new texts records number line text)
