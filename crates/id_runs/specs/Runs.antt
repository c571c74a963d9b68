-- Ids in runs, with what is kept of each (this project's own).
use Rattle.std.specs.Prelude.{◌≡◌, ℕ, ◌+◌, ◌<◌, ◌≤◌, ⊤, Bool, ◌&&◌, nat_le, nat_eq, List, [], ◌∷◌, ◌++◌, slice_get, Option, Some, is_some, if◌then◌else◌, IsTrue}
use Rattle.std.specs.List.{list_any}
use Rattle.std.specs.Map.{lookup}
use Rattle.id_runs.specs.declared.run_list.Run.{Run}
use Rattle.id_runs.specs.declared.run_list.Entry.{Entry}

-- ---- the ids, in the order of their coming

-- what is kept of the id
abbrev pub entry_of : ℕ → List (ℕ × Entry) → Option Entry
entry_of id entries = lookup (nat_eq id) entries

-- the entries with one more, where the id is new
abbrev pub with_entry : ℕ → Entry → List (ℕ × Entry) → List (ℕ × Entry)
with_entry id e entries = if is_some (entry_of id entries) then entries else entries ++ (id, e) ∷ []

-- ---- the runs

abbrev pub run : ℕ → ℕ → Run
run a b = record { first = a; last = b }

abbrev pub is_in : ℕ → Run → Bool
is_in id r = nat_le r.first id && nat_le id r.last

abbrev pub has_run : ℕ → List Run → Bool
has_run id runs = list_any (is_in id) runs

-- the runs rise from `low` on, and between two of them at least one id is missing
abbrev pub AreApart : ℕ → List Run → Type 0
AreApart low [] = ⊤
AreApart low (r ∷ rs) = (low ≤ r.first) × (r.first ≤ r.last) × AreApart (r.last + 2) rs

-- where a further run may begin
abbrev pub end_of : ℕ → List Run → ℕ
end_of low [] = low
end_of low (r ∷ rs) = end_of (r.last + 2) rs

abbrev pub IsBelow : ℕ → List Run → Type 0
IsBelow id [] = ⊤
IsBelow id (r ∷ rs) = (r.last < id) × IsBelow id rs

abbrev pub IsAbove : ℕ → List Run → Type 0
IsAbove id [] = ⊤
IsAbove id (r ∷ rs) = (id < r.first) × IsAbove id rs

-- the id lies in the run of this place
pub record IsInRun (i id : ℕ) (runs : List Run) : Type 0 where
  pub it : Run
  pub there : slice_get runs i ≡ Some it
  pub inside : IsTrue (is_in id it)

-- ---- both

-- the runs are those of the ids
pub record IsRuns (runs : List Run) (entries : List (ℕ × Entry)) : Type 0 where
  pub apart : AreApart 0 runs
  pub same : (id : ℕ) → has_run id runs ≡ is_some (entry_of id entries)

-- what contracts see: the ids with their entries, the runs, and how many more ids fit without memory
pub record RunsValue : Type 0 where
  pub entries : List (ℕ × Entry)
  pub runs : List Run
  pub spare : ℕ
