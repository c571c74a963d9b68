-- How a reading stops before its end.
use Rattle.std.specs.Prelude.{ℕ, ◌≡◌, ◌≢◌, ◌⊎◌, ◌≤◌, ◌<◌, ◌+◌, List, Option, Result, IsErrOf, length}
use Rattle.n32_outside.specs.Causes.{Rose}
use Rattle.script_loop.specs.Limits.{line_limit}
use Rattle.std.specs.Io.KnownBytes.{Appends}
use Rattle.spec_documents.specs.Lines.{lines_of, Gives, Outputs}
use Rattle.script_loop.specs.InPart.{GivesUp}
use Rattle.script_loop.specs.Progress.{MeetsLong, StopsAmong, StopsInLine}
use Rattle.script_loop.specs.declared.ending.Ending.{Ending}
use Rattle.script_loop.specs.declared.ending.Ending.TheVariants.{Done, ReadFault, WriteFault, LineTooLong, ScriptTooLarge, NoMemory}

-- a call that writes: a fault only where the sink's count rose
pub record HasWriteCause {T : Type 0} (before now : ℕ) (result : Result T Ending) : Type 0 where
  pub later : before ≤ now
  pub failed : IsErrOf result WriteFault → Rose before now

-- of the endings only these two
abbrev pub IsWriting : Ending → Type 0
IsWriting WriteFault = Unit {0}
IsWriting NoMemory = Unit {0}
IsWriting Done = ⊥
IsWriting ReadFault = ⊥
IsWriting (LineTooLong n) = ⊥
IsWriting ScriptTooLarge = ⊥

-- a line that can't take so many bytes more: it would be too long, or there is no memory
abbrev pub IsExtending : ℕ → List ℕ → Ending → Type 0
IsExtending number line (LineTooLong n) = (n ≡ number + 1) × (line_limit < length line)
IsExtending number line NoMemory = length line ≤ line_limit
IsExtending number line WriteFault = ⊥
IsExtending number line Done = ⊥
IsExtending number line ReadFault = ⊥
IsExtending number line ScriptTooLarge = ⊥

-- how the reading of a text stops
abbrev pub Stops : {M : Type 0} → Gives M → GivesUp M → M → ℕ → List ℕ → M → Option (List ℕ) → Option (List ℕ) → Ending → Type 0
Stops gives gives_up old number text new before after (LineTooLong n) = MeetsLong gives old number text new n before after
Stops gives gives_up old number text new before after WriteFault = StopsAmong gives gives_up old number text new before after WriteFault
Stops gives gives_up old number text new before after NoMemory = StopsAmong gives gives_up old number text new before after NoMemory
Stops gives gives_up old number text new before after Done = ⊥
Stops gives gives_up old number text new before after ReadFault = ⊥
Stops gives gives_up old number text new before after ScriptTooLarge = ⊥

-- at the end of the script the begun line is the last, if it has a byte
abbrev pub Finishes : {M : Type 0} → Gives M → GivesUp M → M → ℕ → List ℕ → M → Option (List ℕ) → Option (List ℕ) → Ending → Type 0
Finishes gives gives_up old number line new before after Done = (out : List ℕ) × Outputs gives old (number + 1) (lines_of line) out new × Appends before after out
Finishes gives gives_up old number line new before after WriteFault = StopsInLine gives gives_up old (number + 1) line new before after WriteFault × (0 < length line)
Finishes gives gives_up old number line new before after NoMemory = StopsInLine gives gives_up old (number + 1) line new before after NoMemory × (0 < length line)
Finishes gives gives_up old number line new before after ReadFault = ⊥
Finishes gives gives_up old number line new before after (LineTooLong n) = ⊥
Finishes gives gives_up old number line new before after ScriptTooLarge = ⊥

-- a byte more than a script may have
abbrev pub PassesLimit : ℕ → List ℕ → ℕ → Ending → Type 0
PassesLimit number line byte (LineTooLong n) = (byte ≢ 10) × (length line ≡ line_limit) × (n ≡ number + 1)
PassesLimit number line byte ScriptTooLarge = (byte ≡ 10) ⊎ (length line ≢ line_limit)
PassesLimit number line byte Done = ⊥
PassesLimit number line byte ReadFault = ⊥
PassesLimit number line byte WriteFault = ⊥
PassesLimit number line byte NoMemory = ⊥
