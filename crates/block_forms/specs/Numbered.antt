-- The paths of items with the items' numbers, in any order, and the first item whose path overlaps an earlier one.
use Rattle.std.specs.Prelude.{◌≡◌, ⊤, ℕ, suc, ◌+◌, ◌≤◌, List, [], ◌∷◌, Bool, false, ◌||◌, ◌&&◌, Option, Some, None, min, nat_lt, nat_le, nat_eq, if◌then◌else◌}
use Rattle.std.specs.Ordering.{is_lt}
use Rattle.std.specs.List.{AllByRecursion, list_any}
use Rattle.spec_documents.specs.Place.{Pointer, is_prefix}
use Rattle.block_forms.specs.Paths.{path_cmp}
use Rattle.block_forms.specs.declared.overlaps.Numbered.{Numbered}

-- an item's number and its path
abbrev pub number_view : Numbered → ℕ × Pointer
number_view n = (n.number, n.path.now)

-- the paths with their numbers, from k on
abbrev pub numbered : ℕ → List Pointer → List (ℕ × Pointer)
numbered k [] = []
numbered k (p ∷ ps) = (k, p) ∷ numbered (suc k) ps

-- one path is above the other, or is it
abbrev pub meets : Pointer → Pointer → Bool
meets p q = is_prefix p q || is_prefix q p

-- an item of a lesser number overlaps f
abbrev pub has_earlier : ℕ × Pointer → List (ℕ × Pointer) → Bool
has_earlier f es = list_any (λ e. nat_lt e.0 f.0 && meets f.1 e.1) es

-- an item of a number up to k overlaps one of a lesser number
abbrev pub overlap_by : ℕ → List (ℕ × Pointer) → Bool
overlap_by k es = list_any (λ f. nat_le f.0 k && has_earlier f es) es

abbrev pub is_within : ℕ → Option ℕ → Bool
is_within k None = false
is_within k (Some n) = nat_le n k

-- the number of the first item that overlaps an earlier one
abbrev pub IsFirst : Option ℕ → List (ℕ × Pointer) → Type 0
IsFirst first es = (k : ℕ) → is_within k first ≡ overlap_by k es

-- the lesser of a number and of one that may be there
abbrev pub with_number : Option ℕ → ℕ → ℕ
with_number None n = n
with_number (Some m) n = min m n

-- no path comes before one that stands ahead of it
abbrev pub AreInOrder : List (ℕ × Pointer) → Type 0
AreInOrder [] = ⊤
AreInOrder (e ∷ es) = AllByRecursion (λ f. is_lt (path_cmp f.1 e.1) ≡ false) es × AreInOrder es

-- how many items have the number m
abbrev pub count_of : ℕ → List (ℕ × Pointer) → ℕ
count_of m [] = 0
count_of m (e ∷ es) = (if nat_eq e.0 m then 1 else 0) + count_of m es

-- each number stands once at most
abbrev pub AreOnce : List (ℕ × Pointer) → Type 0
AreOnce es = (m : ℕ) → count_of m es ≤ 1
