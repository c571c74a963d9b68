-- How far a reading of a script has come, in the words of its own steps.
use Rattle.std.specs.Prelude.{◌≡◌, ◌≢◌, ◌⊎◌, ℕ, ◌+◌, ◌<◌, ◌≤◌, List, [], ◌∷◌, ◌++◌, length, Option}
use Rattle.std.specs.List.{flat_map, AllByRecursion}
use Rattle.std.specs.Io.KnownBytes.{Appends, Consumes}
use Rattle.script_loop.specs.Limits.{line_limit}
use Rattle.spec_documents.specs.Lines.{Gives, Outputs}
use Rattle.script_loop.specs.InPart.{GivesUp, StopsAnswer, IsUnbegun}
use Rattle.script_loop.specs.declared.ending.Ending.{Ending}

abbrev pub IsPlain : List ℕ → Type 0
IsPlain bytes = AllByRecursion (λ byte. byte ≢ 10) bytes

-- no newline in it, and short enough
pub record IsLine (line : List ℕ) : Type 0 where
  pub plain : IsPlain line
  pub short : length line ≤ line_limit

abbrev pub ended : List ℕ → List ℕ
ended line = line ++ 10 ∷ []

-- lines, each with its newline
abbrev pub unlines : List (List ℕ) → List ℕ
unlines lines = flat_map ended lines

-- The lines of text that have ended were answered, and then comes a begun line and the rest.
pub record Feeds {M : Type 0} (gives : Gives M) (old : M) (number : ℕ) (text : List ℕ) (new : M) (count : ℕ) (begun rest : List ℕ) (before after : Option (List ℕ)) : Type 0 where
  pub lines : List (List ℕ)
  pub whole : text ≡ unlines lines ++ (begun ++ rest)
  pub each : AllByRecursion IsLine lines
  pub line : IsLine begun
  pub counted : count ≡ number + length lines
  pub out : List ℕ
  pub answered : Outputs gives old (number + 1) lines out new
  pub written : Appends before after out

-- The lines before line n were answered, and line n is too long.
pub record MeetsLong {M : Type 0} (gives : Gives M) (old : M) (number : ℕ) (text : List ℕ) (new : M) (n : ℕ) (before after : Option (List ℕ)) : Type 0 where
  pub lines : List (List ℕ)
  pub begun : List ℕ
  pub rest : List ℕ
  pub whole : text ≡ unlines lines ++ (begun ++ rest)
  pub each : AllByRecursion IsLine lines
  pub plain : IsPlain begun
  pub long : line_limit < length begun
  pub counted : n ≡ number + length lines + 1
  pub out : List ℕ
  pub answered : Outputs gives old (number + 1) lines out new
  pub written : Appends before after out

-- some of the bytes were written, and not all
pub record WritesSome (bytes : List ℕ) (before after : Option (List ℕ)) : Type 0 where
  pub front : List ℕ
  pub rest : List ℕ
  pub parts : bytes ≡ front ++ rest
  pub some : 0 < length rest
  pub written : Appends before after front

-- A line's answer stopped when a front of it was written.
pub record StopsInLine {M : Type 0} (gives : Gives M) (gives_up : GivesUp M) (old : M) (number : ℕ) (line : List ℕ) (new : M) (before after : Option (List ℕ)) (ending : Ending) : Type 0 where
  pub front : List ℕ
  pub stops : StopsAnswer gives gives_up old number line front new ending
  pub written : Appends before after front

-- a newline comes first
abbrev pub BeginsEnded : List ℕ → Type 0
BeginsEnded rest = (after : List ℕ) × (rest ≡ 10 ∷ after)

-- The first lines of text were answered, and the next one's answer stopped when a front of it was written, or memory was refused before it began.
pub record StopsAmong {M : Type 0} (gives : Gives M) (gives_up : GivesUp M) (old : M) (number : ℕ) (text : List ℕ) (new : M) (before after : Option (List ℕ)) (ending : Ending) : Type 0 where
  pub lines : List (List ℕ)
  pub line : List ℕ
  pub rest : List ℕ
  pub whole : text ≡ unlines lines ++ (line ++ rest)
  pub each : AllByRecursion IsLine lines
  pub is : IsLine line
  pub ended : (rest ≡ []) ⊎ BeginsEnded rest
  pub out : List ℕ
  pub mid : M
  pub answered : Outputs gives old (number + 1) lines out mid
  pub front : List ℕ
  pub stops : (BeginsEnded rest × StopsAnswer gives gives_up mid (number + length lines + 1) line front new ending) ⊎ IsUnbegun mid front new ending
  pub written : Appends before after (out ++ front)

-- How far a run has come: the bytes so far were taken from the source, and fed.
pub record Reaches {M : Type 0} (gives : Gives M) (old new : M) (taken count : ℕ) (line : List ℕ) (first left : Option (List ℕ)) (before after : Option (List ℕ)) : Type 0 where
  pub bytes : List ℕ
  pub consumed : Consumes first left bytes
  pub size : length bytes ≡ taken
  pub fed : Feeds gives old 0 bytes new count line [] before after
