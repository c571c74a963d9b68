-- The lines of a text, and what may be written for them, one after another.
use Rattle.std.specs.Prelude.{◌≡◌, ℕ, ◌+◌, ◌==◌, ◌||◌, Bool, if◌then◌else◌, List, [], ◌∷◌, ◌++◌, MatchBool, count_by}
use Rattle.std.specs.List.{onto_first, list_all}

-- ---- lines

-- cut at newlines; a last line that is empty is dropped
abbrev pub lines_of : List ℕ → List (List ℕ)
lines_of [] = []
lines_of (byte ∷ bytes) = if byte == 10 then [] ∷ lines_of bytes else onto_first byte (lines_of bytes)

-- how many lines end in these bytes
abbrev pub ended_lines : List ℕ → ℕ
ended_lines bytes = count_by (λ byte. byte == 10) bytes

-- nothing but spaces, tabs and carriage returns
abbrev pub is_blank : List ℕ → Bool
is_blank line = list_all (λ byte. byte == 32 || (byte == 9 || byte == 13)) line

-- ---- what is written for them

-- From old, a machine may give the answer to the line of that number and go on to new.
abbrev pub Gives : Type 0 → Type 1
Gives M = M → ℕ → List ℕ → List ℕ → M → Type 0

-- the text of a line's answer: a blank line has none
abbrev pub LineOutput : {M : Type 0} → Gives M → M → ℕ → List ℕ → List ℕ → M → Type 0
LineOutput gives old number line out new =
    MatchBool (is_blank line)
    ((out ≡ []) × (new ≡ old))
    ((answer : List ℕ) × (out ≡ answer ++ 10 ∷ []) × gives old number line answer new)

-- the texts of the answers of lines in order, the first of that number
abbrev pub Outputs : {M : Type 0} → Gives M → M → ℕ → List (List ℕ) → List ℕ → M → Type 0
Outputs gives old number [] out new = (out ≡ []) × (new ≡ old)
Outputs {M} gives old number (line ∷ lines) out new =
    (first : List ℕ) × (rest : List ℕ) × (mid : M) × (out ≡ first ++ rest)
    × LineOutput gives old number line first mid × Outputs gives mid (number + 1) lines rest new
