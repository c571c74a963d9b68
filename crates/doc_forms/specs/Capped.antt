-- The numbers of holes that a `u32` holds.
use Rattle.std.specs.Prelude.{ℕ, List, length, min, ◌-◌, ◌^◌, ◌&&◌, nat_le, Option, Some, None, if◌then◌else◌}
use Rattle.spec_documents.specs.Tree.{Tree}
use Rattle.spec_documents.specs.Place.{is_index, index_number}
use Rattle.spec_documents.specs.Hole.{natural}

-- a greater number is read as the greatest
abbrev pub capped : ℕ → ℕ
capped n = min n (2 ^ 32 - 1)

-- the number of 1 to 10 digits with no 0 in front
abbrev pub digits_number : List ℕ → Option ℕ
digits_number digits = if is_index digits && nat_le (length digits) 10 then Some (index_number digits) else None

-- what is at a member, as a number
abbrev pub natural_at : Option Tree → Option ℕ
natural_at None = None
natural_at (Some t) = natural t
