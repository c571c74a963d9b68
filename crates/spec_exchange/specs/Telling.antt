-- How a refusal is told: its number, its name, and what it names besides (this project's own).
use Rattle.std.specs.Prelude.{ℕ, List, Option, Some, None}

pub record Telling : Type 0 where
  pub number : ℕ
  pub name : List ℕ
  pub detail : Option (List ℕ)

-- a refusal that names nothing besides
abbrev pub bare : ℕ → List ℕ → Telling
bare number name = record { number = number; name = name; detail = None }

abbrev pub detailed : ℕ → List ℕ → List ℕ → Telling
detailed number name detail = record { number = number; name = name; detail = Some detail }
