-- The answers of a run in which nothing fails: a function of the records and the script.
use Rattle.std.specs.Prelude.{ℕ, ◌+◌, List, [], ◌∷◌, if◌then◌else◌}
use Rattle.spec_records.specs.Records.{Record}
use Rattle.spec_script.specs.Choices.{Meanings, unfailing}
use Rattle.spec_documents.specs.Lines.{lines_of, is_blank}
use Rattle.spec_script.specs.Steps.{State, Step, after, line_step}
use Rattle.spec_script.specs.Output.{Numbered, answers_text, begin}

abbrev pub plain_step : (means : Meanings) → State → List ℕ → Step
plain_step means s line = line_step means.passes s (unfailing means) line

-- the answers to these lines, the first of them line n. A blank line has none
abbrev pub plain_answers : (means : Meanings) → State → ℕ → List (List ℕ) → List Numbered
plain_answers means s n [] = []
plain_answers means s n (line ∷ lines) =
    if is_blank line then plain_answers means s (n + 1) lines
    else ((n, (plain_step means s line).answer) ∷ plain_answers means (after s (plain_step means s line)) (n + 1) lines)

-- the state after these lines
abbrev pub plain_state : (means : Meanings) → State → List (List ℕ) → State
plain_state means s [] = s
plain_state means s (line ∷ lines) = if is_blank line then plain_state means s lines else plain_state means (after s (plain_step means s line)) lines

-- the one output for a script over these records
abbrev pub plain_output : (means : Meanings) → List Record → List ℕ → List ℕ
plain_output means records script = answers_text (plain_answers means (begin records) 1 (lines_of script))
