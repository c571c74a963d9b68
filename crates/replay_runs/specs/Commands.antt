-- The words of a call, and the commands that they are (this project's own).
use Rattle.std.specs.Prelude.{ℕ, Bool, List, [], ◌∷◌, ◌&&◌, nat_lt, nat_le, bytes_eq, codes, Option, Some, None, if◌then◌else◌}
use Rattle.spec_documents.specs.Place.{is_index, index_number}
use Rattle.replay_runs.specs.declared.command.Command.{Command}
use Rattle.replay_runs.specs.declared.command.Command.TheVariants.{Blocks, Replay, Exercise}

-- the one word `blocks` or `replay`
abbrev pub command_named : List ℕ → Option Command
command_named word =
    if bytes_eq word (codes "blocks") then Some Blocks
    else (if bytes_eq word (codes "replay") then Some Replay else None)

-- a file, whose name isn't empty
abbrev pub replay_over : (file : List ℕ) → Option Command
replay_over [] = None
replay_over (byte ∷ bytes) = Some Replay

-- decimal digits with no 0 in front, from 1 to 10,000
abbrev pub is_count : List ℕ → Bool
is_count digits = is_index digits && (nat_lt 0 (index_number digits) && nat_le (index_number digits) 10000)

-- so many messages
abbrev pub exercise_of : (digits : List ℕ) → Option Command
exercise_of digits = if is_count digits then Some (Exercise (index_number digits)) else None

-- the word `replay` and a file, or `exercise` and a number
abbrev pub command_over : (word next : List ℕ) → Option Command
command_over word next =
    if bytes_eq word (codes "replay") then replay_over next
    else (if bytes_eq word (codes "exercise") then exercise_of next else None)

abbrev pub command_of : List (List ℕ) → Option Command
command_of [] = None
command_of (word ∷ []) = command_named word
command_of (word ∷ file ∷ []) = command_over word file
command_of (word ∷ file ∷ next ∷ words) = None

-- the file that `replay` keeps its records in, if one is named
abbrev pub journal_over : Option Command → (file : List ℕ) → Option (List ℕ)
journal_over None file = None
journal_over (Some Blocks) file = None
journal_over (Some Replay) file = Some file
journal_over (Some (Exercise messages)) file = None

abbrev pub journal_of : List (List ℕ) → Option (List ℕ)
journal_of [] = None
journal_of (word ∷ []) = None
journal_of (word ∷ file ∷ []) = journal_over (command_over word file) file
journal_of (word ∷ file ∷ next ∷ words) = None
