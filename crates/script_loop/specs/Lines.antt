-- The limits of a script's lines.
use Rattle.std.specs.Prelude.{◌≡◌, ℕ, ◌+◌, ◌-◌, ◌<◌, ◌≤◌, List, length, take, slice_get, Some, All}
use Rattle.spec_documents.specs.Lines.{lines_of}
use Rattle.script_loop.specs.Limits.{line_limit, script_limit}

abbrev pub IsShort : List ℕ → Type 0
IsShort line = length line ≤ line_limit

-- line n, from 1, is the first that is too long
pub record IsFirstLong (n : ℕ) (lines : List (List ℕ)) : Type 0 where
  pub line : List ℕ
  pub from_one : 0 < n
  pub there : slice_get lines (n - 1) ≡ Some line
  pub long : line_limit < length line
  pub before : All IsShort (take (n - 1) lines)

-- within both limits
pub record IsWithin (script : List ℕ) : Type 0 where
  pub size : length script ≤ script_limit
  pub lines : All IsShort (lines_of script)

-- too long by a byte, before which no line is too long
pub record IsTooLarge (script : List ℕ) : Type 0 where
  pub size : script_limit < length script
  pub lines : All IsShort (lines_of (take (script_limit + 1) script))
