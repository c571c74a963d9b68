-- The table of what is found: the first place of each index, and the first index that stood before.
use Rattle.std.specs.Prelude.{◌≡◌, ℕ, List, [], option_map}
use Rattle.std.specs.Ordering.{nat_cmp}
use Rattle.std.specs.BTreeMap.{BTreeMap, get}
use Rattle.spec_documents.specs.Hole.{Mark, place_of, first_twice, indexes}
use Rattle.enc_index.specs.Places.{place_view}
use Rattle.enc_index.specs.declared.holes.Place.{Place}
use Rattle.enc_index.specs.declared.settle.Table.{Table}

-- the table has the first place of each index among the marks
abbrev pub HasFirst : BTreeMap ℕ Place → List Mark → Type 0
HasFirst m ms = (i : ℕ) → option_map place_view (get nat_cmp m i) ≡ place_of i ms

pub record Enters (t : Table) (ms : List Mark) : Type 0 where
  pub first : HasFirst t.first ms
  pub twice : t.twice ≡ first_twice [] (indexes ms)
