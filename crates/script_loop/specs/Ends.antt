-- What a run over a whole script leaves, by the way it ended.
use Rattle.std.specs.Prelude.{◌≡◌, ◌⊎◌, ℕ, ◌+◌, ◌-◌, List, [], ◌++◌, take, Option, Some}
use Rattle.std.specs.Io.KnownBytes.{Appends}
use Rattle.script_loop.specs.Limits.{script_limit}
use Rattle.spec_documents.specs.Lines.{lines_of, ended_lines, Gives, Outputs}
use Rattle.script_loop.specs.Lines.{IsFirstLong, IsWithin, IsTooLarge}
use Rattle.script_loop.specs.InPart.{GivesUp, Takes, StopsNext, IsUnbegun}
use Rattle.script_loop.specs.declared.ending.Ending.{Ending}
use Rattle.script_loop.specs.declared.ending.Ending.TheVariants.{Done, ReadFault, WriteFault, LineTooLong, ScriptTooLarge, NoMemory}

-- The answers to these lines were written, and nothing else.
pub record Answers {M : Type 0} (gives : Gives M) (old : M) (lines : List (List ℕ)) (new : M) (before after : Option (List ℕ)) : Type 0 where
  pub out : List ℕ
  pub answered : Outputs gives old 1 lines out new
  pub written : Appends before after out

-- The first lines were answered, and a front of the next one's answer was written, which isn't the whole. Where memory was refused nothing of it may have been written.
pub record AnswersInPart {M : Type 0} (gives : Gives M) (gives_up : GivesUp M) (old : M) (script : List ℕ) (left : Option (List ℕ)) (new : M) (before after : Option (List ℕ)) (ending : Ending) : Type 0 where
  pub taken : List ℕ
  pub number : ℕ
  pub takes : Takes script left number taken
  pub out : List ℕ
  pub mid : M
  pub answered : Outputs gives old 1 (take number (lines_of script)) out mid
  pub front : List ℕ
  pub stops : StopsNext gives gives_up mid script taken number front new ending ⊎ IsUnbegun mid front new ending
  pub written : Appends before after (out ++ front)

-- A fault of the source after so many bytes, which are within both limits: the lines whose newline was taken were answered.
pub record StopsReading {M : Type 0} (gives : Gives M) (old : M) (script : List ℕ) (left : Option (List ℕ)) (new : M) (before after : Option (List ℕ)) : Type 0 where
  pub taken : List ℕ
  pub rest : List ℕ
  pub parts : script ≡ taken ++ rest
  pub left_is : left ≡ Some rest
  pub within : IsWithin taken
  pub answers : Answers gives old (take (ended_lines taken) (lines_of script)) new before after

-- the script, what is left of it, the machine and what was written, before and after
abbrev pub Ends : {M : Type 0} → Gives M → GivesUp M → List ℕ → Option (List ℕ) → M → M → Option (List ℕ) → Option (List ℕ) → Ending → Type 0
-- every line was answered
Ends gives gives_up script left old new before after Done =
    IsWithin script × (left ≡ Some []) × Answers gives old (lines_of script) new before after
Ends gives gives_up script left old new before after ReadFault = StopsReading gives old script left new before after
-- the lines before line n were answered
Ends gives gives_up script left old new before after (LineTooLong n) =
    IsFirstLong n (lines_of (take (script_limit + 1) script)) × Answers gives old (take (n - 1) (lines_of script)) new before after
-- the lines that end within the limit were answered
Ends gives gives_up script left old new before after ScriptTooLarge =
    IsTooLarge script × Answers gives old (take (ended_lines (take script_limit script)) (lines_of script)) new before after
Ends gives gives_up script left old new before after WriteFault = AnswersInPart gives gives_up old script left new before after WriteFault
Ends gives gives_up script left old new before after NoMemory = AnswersInPart gives gives_up old script left new before after NoMemory

-- neither limit ended the run
abbrev pub MeetsNoLimit : Ending → Type 0
MeetsNoLimit Done = Unit {0}
MeetsNoLimit ReadFault = Unit {0}
MeetsNoLimit WriteFault = Unit {0}
MeetsNoLimit NoMemory = Unit {0}
MeetsNoLimit (LineTooLong n) = ⊥
MeetsNoLimit ScriptTooLarge = ⊥
