-- The compact text of a tree (RFC 8259, as `serde_json` prints): no spaces, members in their order.
use Rattle.std.specs.Prelude.{ℕ, List, [], ◌∷◌, ◌++◌, Bool, true, false, if◌then◌else◌, codes}
use Rattle.std.specs.Fmt.{signed_decimal}
use Rattle.json.specs.Print.{quoted}
use Rattle.spec_documents.specs.Tree.{Tree, null, truth, whole, words, items, members, Trees, no_items, item, Members, no_members, member}

abbrev pub comma_if : Bool → List ℕ
comma_if later = if later then 44 ∷ [] else []

abbrev mutual
  pub compact_text : Tree → List ℕ
  compact_text null = codes "null"
  compact_text (truth true) = codes "true"
  compact_text (truth false) = codes "false"
  compact_text (whole z) = signed_decimal z
  compact_text (words s) = quoted s
  compact_text (items ts) = 91 ∷ items_text false ts
  compact_text (members ms) = 123 ∷ members_text false ms

  -- with the closing bracket
  pub items_text : Bool → Trees → List ℕ
  items_text later no_items = 93 ∷ []
  items_text later (item t ts) = comma_if later ++ (compact_text t ++ items_text true ts)

  pub members_text : Bool → Members → List ℕ
  members_text later no_members = 125 ∷ []
  members_text later (member k t ms) = comma_if later ++ (quoted k ++ 58 ∷ (compact_text t ++ members_text true ms))
