-- What comes in place of an answer's text, in the words of the definitions.
use Rattle.std.specs.Prelude.{◌≡◌, Option, Some, None, Result, Err}
use Rattle.spec_script.specs.Refusals as spec
use Rattle.script_lines.specs.View.{refusal_view}
use Rattle.script_lines.specs.declared.refusal.Refusal.TheVariants as refusals
use Rattle.script_lines.specs.declared.unanswered.Unanswered.{Unanswered}
use Rattle.script_lines.specs.declared.unanswered.Unanswered.TheVariants as unanswered

-- the refusal that is told, where memory sufficed
abbrev pub told_refusal : Unanswered → Option spec.Refusal
told_refusal (unanswered.Refused refusal) = Some (refusal_view refusal)
told_refusal unanswered.NoMemory = None

abbrev pub IsMemory : Unanswered → Type 0
IsMemory why = why ≡ unanswered.NoMemory

-- it is not told that the keeper failed
abbrev pub SparesKeeper : {A : Type 0} → Result A Unanswered → Type 0
SparesKeeper r = r ≡ Err (unanswered.Refused refusals.Keeper) → ⊥
