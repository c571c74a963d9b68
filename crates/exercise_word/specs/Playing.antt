-- What a machine answers to the lines of a script, one after another.
use Rattle.std.specs.Prelude.{◌≡◌, ◌⊎◌, ℕ, ◌+◌, List, [], ◌∷◌, ◌++◌, length}
use Rattle.spec_documents.specs.Lines.{Gives}
use Rattle.spec_exercise.specs.Documents.{lines}
use Rattle.script_loop.specs.InPart.{GivesUp}
use Rattle.exercise_script.specs.Sums.{HasTaken}
use Rattle.exercise_script.specs.declared.summary.Summary.{Summary}

-- the lines got these answers, in order, the first line being of that number
abbrev pub AnswersLines : {M : Type 0} → Gives M → M → ℕ → List (List ℕ) → List (List ℕ) → M → Type 0
AnswersLines gives old number [] texts new = (texts ≡ []) × (new ≡ old)
AnswersLines {M} gives old number (line ∷ following) texts new =
    (text : List ℕ) × (rest : List (List ℕ)) × (mid : M) × (texts ≡ text ∷ rest) × gives old number line text mid × AnswersLines gives mid (number + 1) following rest new

-- the line of that number was answered, and the summary took the answer
pub record PlaysLine {M : Type 0} (gives : Gives M) (old : M) (number : ℕ) (line : List ℕ) (new : M) (before after : Summary) : Type 0 where
  pub text : List ℕ
  pub given : gives old number line text new
  pub taken : (texts : List (List ℕ)) → HasTaken before texts → HasTaken after (texts ++ text ∷ [])

-- memory was refused before the line was answered, while it was, or when its answer was to be taken
abbrev pub LosesLine : {M : Type 0} → Gives M → GivesUp M → M → ℕ → List ℕ → M → Type 0
LosesLine gives gives_up old number line new = (new ≡ old) ⊎ (gives_up old number line new ⊎ ((text : List ℕ) × gives old number line text new))

-- all lines of the script were answered, and the summary took the answers
pub record PlaysAll {M : Type 0} (gives : Gives M) (messages : ℕ) (old new : M) (summary : Summary) : Type 0 where
  pub texts : List (List ℕ)
  pub answered : AnswersLines gives old 1 (lines messages) texts new
  pub each : length texts ≡ length (lines messages)
  pub taken : HasTaken summary texts

-- the first lines of the script were answered, and memory was refused at the next
pub record StopsPlaying {M : Type 0} (gives : Gives M) (gives_up : GivesUp M) (messages : ℕ) (old new : M) : Type 0 where
  pub first : List (List ℕ)
  pub line : List ℕ
  pub rest : List (List ℕ)
  pub parts : lines messages ≡ first ++ line ∷ rest
  pub texts : List (List ℕ)
  pub mid : M
  pub answered : AnswersLines gives old 1 first texts mid
  pub lost : LosesLine gives gives_up mid (length first + 1) line new
