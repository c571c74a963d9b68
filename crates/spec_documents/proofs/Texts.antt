-- The compact text of a tree is that of its value of `serde_json`.
use Rattle.std.proofs.Common.{◌≡◌, ℤ, pos, negsuc, ◌∷◌, ◌++◌, Bool, true, false, refl, ap, ap₂}
use Rattle.std.specs.Fmt.{signed_decimal}
use Rattle.json.specs.Print.{quoted}
use Rattle.serde_json.specs.Written as written
use Rattle.spec_documents.specs.Tree.{Tree, null, truth, whole, words, items, members, Trees, no_items, item, Members, no_members, member}
use Rattle.spec_documents.specs.Compact.{comma_if, compact_text, items_text, members_text}
use Rattle.spec_documents.specs.Data.{number_from, data_of, items_data, members_data}

number_same : (z : ℤ) → written.number_text (number_from z) ≡ signed_decimal z
number_same (pos n) = refl
number_same (negsuc n) = refl

comma_same : (later : Bool) → written.comma_if later ≡ comma_if later
comma_same true = refl
comma_same false = refl

mutual
  pub compact_text-data : (t : Tree) → written.compact_text (data_of t) ≡ compact_text t
  compact_text-data null = refl
  compact_text-data (truth true) = refl
  compact_text-data (truth false) = refl
  compact_text-data (whole z) = number_same z
  compact_text-data (words s) = refl
  compact_text-data (items ts) = ap (λ xs. 91 ∷ xs) (items_text-data false ts)
  compact_text-data (members ms) = ap (λ xs. 123 ∷ xs) (members_text-data false ms)

  items_text-data : (later : Bool) (ts : Trees) → written.items_text later (items_data ts) ≡ items_text later ts
  items_text-data later no_items = refl
  items_text-data later (item t ts) = ap₂ ◌++◌ (comma_same later) (ap₂ ◌++◌ (compact_text-data t) (items_text-data true ts))

  members_text-data : (later : Bool) (ms : Members) → written.members_text later (members_data ms) ≡ members_text later ms
  members_text-data later no_members = refl
  members_text-data later (member k t ms) = ap₂ ◌++◌ (comma_same later) (ap (λ xs. quoted k ++ 58 ∷ xs) (ap₂ ◌++◌ (compact_text-data t) (members_text-data true ms)))
