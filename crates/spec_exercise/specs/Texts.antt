-- The text of the script of `exercise N` (this project's own).
use Rattle.std.specs.Prelude.{ℕ, List, [], ◌∷◌, ◌++◌, flat_map}
use Rattle.spec_exercise.specs.Documents.{lines}

-- each line with its newline
abbrev pub script_text : ℕ → List ℕ
script_text n = flat_map (λ line. line ++ 10 ∷ []) (lines n)
