-- What every handler of an event owes.
use Rattle.std.specs.Prelude.{ℕ, ◌≤◌, List, Option, Result, IsErrOf}
use Rattle.n32_outside.specs.Causes.{Rose}
use Rattle.context_store.specs.Stores.{IsConsistent}
use Rattle.spec_exchange.specs.Outside.{Choice}
use Rattle.spec_script.specs.Steps.{State, Step}
use Rattle.script_lines.specs.declared.refusal.Refusal.TheVariants as refusals
use Rattle.script_lines.specs.declared.unanswered.Unanswered.{Unanswered}
use Rattle.script_lines.specs.declared.unanswered.Unanswered.TheVariants as unanswered
use Rattle.replay_world.specs.Worlds.{IsReady}
use Rattle.replay_world.specs.Stepping.{Comes}
use Rattle.replay_world.specs.declared.world.World.{World}

-- by the step that its event is, over what is held and the keeper's counts of faults before and after it
pub record Handles (steps : State → Choice → Step) (held now : Option (List (List ℕ))) (before after_ : ℕ) (old new : World) (number : ℕ) (result : Result (List ℕ) Unanswered) : Type 0 where
  -- it answers as the step, and leaves what the step leaves
  pub comes : Comes steps held now old new number result
  -- the world is ready for the next event
  pub ready : IsReady now new
  -- the keeper's count hasn't fallen
  pub later : before ≤ after_
  -- `KEEPER` is told only where it rose
  pub failed : IsErrOf result (unanswered.Refused refusals.Keeper) → Rose before after_

-- a handler that asks nothing of the keeper, whatever that holds
abbrev pub HandlesAlone : (State → Choice → Step) → (old new : World) → ℕ → Result (List ℕ) Unanswered → Type 0
HandlesAlone steps old new number result = (held : Option (List (List ℕ))) (faults : ℕ) → IsConsistent held old.store → Handles steps held held faults faults old new number result
