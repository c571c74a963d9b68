-- What a summary has counted.
use Rattle.std.specs.Prelude.{◌≡◌, ℕ, ◌-◌, ◌^◌, min, List, length, count_by, codes}
use Rattle.sha2.specs.Hashers.{Holds256}
use Rattle.spec_exercise.specs.Summary.{answer_has, answer_lines}
use Rattle.exercise_script.specs.declared.summary.Summary.{Summary}

-- a count stands still at its last value
abbrev pub last_count : ℕ
last_count = 2 ^ 64 - 1

-- it has taken these answers
pub record HasTaken (s : Summary) (answers : List (List ℕ)) : Type 0 where
  pub answers_are : s.answers ≡ min (length answers) last_count
  pub delivered_are : s.delivered ≡ min (count_by (answer_has (codes "delivered")) answers) last_count
  pub refused_are : s.refused ≡ min (count_by (answer_has (codes "refused")) answers) last_count
  pub lines_are : Holds256 s.hasher (answer_lines answers)
