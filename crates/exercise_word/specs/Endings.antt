-- What a run over the script of `exercise N` leaves, by its ending.
use Rattle.std.specs.Prelude.{◌≡◌, ◌⊎◌, ℕ, List, Option}
use Rattle.std.specs.Io.KnownBytes.{Appends}
use Rattle.spec_documents.specs.Lines.{Gives}
use Rattle.spec_exercise.specs.Documents.{lines}
use Rattle.spec_exercise.specs.Summary.{summary_text}
use Rattle.script_loop.specs.InPart.{GivesUp}
use Rattle.script_loop.specs.Progress.{WritesSome}
use Rattle.script_loop.specs.declared.ending.Ending.{Ending}
use Rattle.script_loop.specs.declared.ending.Ending.TheVariants.{Done, ReadFault, WriteFault, LineTooLong, ScriptTooLarge, NoMemory}
use Rattle.exercise_word.specs.Playing.{AnswersLines, StopsPlaying}

-- the bytes were written whole, or in part
abbrev pub Writes : List ℕ → Option (List ℕ) → Option (List ℕ) → Ending → Type 0
Writes bytes before after Done = Appends before after bytes
Writes bytes before after WriteFault = WritesSome bytes before after
Writes bytes before after NoMemory = WritesSome bytes before after
Writes bytes before after ReadFault = ⊥
Writes bytes before after (LineTooLong n) = ⊥
Writes bytes before after ScriptTooLarge = ⊥

-- all lines were answered, and the summary of their answers was written
pub record Summarises {M : Type 0} (gives : Gives M) (messages : ℕ) (old new : M) (before after : Option (List ℕ)) : Type 0 where
  pub texts : List (List ℕ)
  pub answered : AnswersLines gives old 1 (lines messages) texts new
  pub written : Appends before after (summary_text messages texts)

-- all lines were answered, and a front of the summary was written, which isn't the whole
pub record SummarisesInPart {M : Type 0} (gives : Gives M) (messages : ℕ) (old new : M) (before after : Option (List ℕ)) : Type 0 where
  pub texts : List (List ℕ)
  pub answered : AnswersLines gives old 1 (lines messages) texts new
  pub written : WritesSome (summary_text messages texts) before after

-- the number of messages, the machine and what was written, before and after
abbrev pub Ends : {M : Type 0} → Gives M → GivesUp M → ℕ → M → M → Option (List ℕ) → Option (List ℕ) → Ending → Type 0
Ends gives gives_up messages old new before after Done = Summarises gives messages old new before after
Ends gives gives_up messages old new before after WriteFault = SummarisesInPart gives messages old new before after
-- memory was refused behind the answers, or among them, where nothing was written
Ends gives gives_up messages old new before after NoMemory =
    SummarisesInPart gives messages old new before after ⊎ (StopsPlaying gives gives_up messages old new × (after ≡ before))
Ends gives gives_up messages old new before after ReadFault = ⊥
Ends gives gives_up messages old new before after (LineTooLong n) = ⊥
Ends gives gives_up messages old new before after ScriptTooLarge = ⊥
