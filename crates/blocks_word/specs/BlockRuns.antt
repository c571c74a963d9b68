-- What a run of `blocks` leaves, by its ending.
use Rattle.std.specs.Prelude.{◌≡◌, ◌⊎◌, ℕ, ◌+◌, ◌-◌, ◌<◌, ◌≤◌, false, List, [], ◌∷◌, ◌++◌, length, take, Option, Some, IfSome}
use Rattle.std.specs.Io.KnownBytes.{Appends, Consumes}
use Rattle.script_loop.specs.Limits.{script_limit}
use Rattle.spec_documents.specs.Lines.{lines_of, ended_lines, is_blank}
use Rattle.script_loop.specs.Lines.{IsFirstLong, IsWithin, IsTooLarge}
use Rattle.script_loop.specs.InPart.{Takes, IsNext}
use Rattle.script_loop.specs.Ends.{MeetsNoLimit}
use Rattle.script_loop.specs.declared.ending.Ending.{Ending}
use Rattle.script_loop.specs.declared.ending.Ending.TheVariants.{Done, ReadFault, WriteFault, LineTooLong, ScriptTooLarge, NoMemory}
use Rattle.blocks_word.specs.BlockAnswers.{block_answer, blocks_output, first_answers}

-- a front of the output was written, and nothing else
pub record WritesFront (script : List ℕ) (before after : Option (List ℕ)) : Type 0 where
  pub front : List ℕ
  pub rest : List ℕ
  pub parts : blocks_output script ≡ front ++ rest
  pub written : Appends before after front

-- within the limits so far, the lines whose newline was taken were answered
pub record StopsReading (script : List ℕ) (left before after : Option (List ℕ)) : Type 0 where
  pub taken : List ℕ
  pub rest : List ℕ
  pub parts : script ≡ taken ++ rest
  pub left_is : left ≡ Some rest
  pub within : IsWithin taken
  pub written : Appends before after (first_answers (ended_lines taken) script)

-- The front is one of the answer to the line behind so many, and not the whole.
pub record CutsAnswer (script taken : List ℕ) (number : ℕ) (front : List ℕ) : Type 0 where
  pub line : List ℕ
  pub next : IsNext script taken number line
  pub spoken : is_blank line ≡ false
  pub rest : List ℕ
  pub some : 0 < length rest
  pub text : block_answer (number + 1) line ++ 10 ∷ [] ≡ front ++ rest

-- Within the limits so far, the first lines were answered, and the next one's answer was cut, or, where memory was refused, not begun.
pub record WritesInPart (script : List ℕ) (left before after : Option (List ℕ)) (ending : Ending) : Type 0 where
  pub taken : List ℕ
  pub number : ℕ
  pub takes : Takes script left number taken
  pub front : List ℕ
  pub stops : CutsAnswer script taken number front ⊎ ((ending ≡ NoMemory) × (front ≡ []))
  pub written : Appends before after (first_answers number script ++ front)

-- the script, what is left of it, and what was written before and after
abbrev pub Leaves : List ℕ → Option (List ℕ) → Option (List ℕ) → Option (List ℕ) → Ending → Type 0
-- nothing is left, and every line was answered
Leaves script left before after Done = IsWithin script × (left ≡ Some []) × Appends before after (blocks_output script)
Leaves script left before after ReadFault = StopsReading script left before after
-- the lines before line n were answered
Leaves script left before after (LineTooLong n) = IsFirstLong n (lines_of (take (script_limit + 1) script)) × Appends before after (first_answers (n - 1) script)
-- the lines that end within the limit were answered
Leaves script left before after ScriptTooLarge = IsTooLarge script × Appends before after (first_answers (ended_lines (take script_limit script)) script)
Leaves script left before after WriteFault = WritesInPart script left before after WriteFault
Leaves script left before after NoMemory = WritesInPart script left before after NoMemory

-- What a run comes to: the bytes that the source has left, and those that were written, before and after.
pub record Runs (left left' before after : Option (List ℕ)) (ending : Ending) : Type 0 where
  -- where the source tells its bytes
  pub leaves : IfSome left (λ script. Leaves script left' before after ending)
  -- whatever the ending, a front of the output was written
  pub front : IfSome left (λ script. WritesFront script before after)
  -- a script within the limits is read to its end, unless memory was refused or source or sink failed
  pub complete : IfSome left (λ script. IsWithin script → MeetsNoLimit ending)
  -- at most one byte more than a script may have is read
  pub taken : (bytes : List ℕ) × (length bytes ≤ script_limit + 1) × Consumes left left' bytes
