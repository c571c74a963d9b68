-- How the answer to a line stops, and what was taken of the script then.
use Rattle.std.specs.Prelude.{◌≡◌, ◌⊎◌, ℕ, ◌+◌, ◌<◌, ◌≤◌, List, [], ◌++◌, length, take, slice_get, Option, Some, All}
use Rattle.script_loop.specs.Limits.{script_limit}
use Rattle.spec_documents.specs.Lines.{lines_of, ended_lines, Gives, LineOutput}
use Rattle.script_loop.specs.Lines.{IsShort}
use Rattle.script_loop.specs.declared.ending.Ending.{Ending}
use Rattle.script_loop.specs.declared.ending.Ending.TheVariants.{NoMemory}

-- From old, the answer to the line of that number may find no memory, which leaves new.
abbrev pub GivesUp : Type 0 → Type 1
GivesUp M = M → ℕ → List ℕ → M → Type 0

-- ---- a line's answer

-- the front is one of the line's answer, and not the whole
pub record IsCut {M : Type 0} (gives : Gives M) (old : M) (number : ℕ) (line front : List ℕ) (new : M) : Type 0 where
  pub rest : List ℕ
  pub some : 0 < length rest
  pub output : LineOutput gives old number line (front ++ rest) new

-- memory was refused before there was an answer
pub record IsGivenUp {M : Type 0} (gives_up : GivesUp M) (old : M) (number : ℕ) (line front : List ℕ) (new : M) (ending : Ending) : Type 0 where
  pub memory : ending ≡ NoMemory
  pub none : front ≡ []
  pub left : gives_up old number line new

abbrev pub StopsAnswer : {M : Type 0} → Gives M → GivesUp M → M → ℕ → List ℕ → List ℕ → M → Ending → Type 0
StopsAnswer gives gives_up old number line front new ending = IsCut gives old number line front new ⊎ IsGivenUp gives_up old number line front new ending

-- memory was refused before a line's answer began
pub record IsUnbegun {M : Type 0} (old : M) (front : List ℕ) (new : M) (ending : Ending) : Type 0 where
  pub memory : ending ≡ NoMemory
  pub none : front ≡ []
  pub same : new ≡ old

-- ---- the line at hand

-- What was taken of the script when the line behind so many is at hand: no more than a script may have, and no line that is too long.
pub record Takes (script : List ℕ) (left : Option (List ℕ)) (number : ℕ) (taken : List ℕ) : Type 0 where
  pub rest : List ℕ
  pub parts : script ≡ taken ++ rest
  pub left_is : left ≡ Some rest
  pub size : length taken ≤ script_limit
  -- the newlines of the lines before were taken
  pub ended : number ≤ ended_lines taken
  -- they are short, and so is the line at hand, as far as it was taken
  pub short : All IsShort (take (number + 1) (lines_of taken))

-- this is the line behind so many, and it was taken whole
pub record IsNext (script taken : List ℕ) (number : ℕ) (line : List ℕ) : Type 0 where
  pub there : slice_get (lines_of script) number ≡ Some line
  pub whole : slice_get (lines_of taken) number ≡ Some line

-- The answer to the line behind so many stopped when this front of it was written.
pub record StopsNext {M : Type 0} (gives : Gives M) (gives_up : GivesUp M) (old : M) (script taken : List ℕ) (number : ℕ) (front : List ℕ) (new : M) (ending : Ending) : Type 0 where
  pub line : List ℕ
  pub next : IsNext script taken number line
  pub stops : StopsAnswer gives gives_up old (number + 1) line front new ending
