-- The tree that bytes are read to, over the reading of `serde_json`.
use Rattle.std.specs.Prelude.{◌≡◌, ℕ, List, Option, Some, None, option_map, option_and_then, IsUtf8, if◌then◌else◌}
use Rattle.std.specs.Str.{is_utf8}
use Rattle.serde_json.specs.Data as json
use Rattle.serde_json.specs.Find.{as_integer}
use Rattle.serde_json.specs.Read.{read}
use Rattle.spec_documents.specs.Tree.{Tree, null, truth, whole, words, items, members, Trees, no_items, item, Members, no_members, member}

-- Floats are no whole numbers: among them are `-0` and each integer outside the range.
abbrev mutual
  pub tree_from : json.Data → Option Tree
  tree_from json.null = Some null
  tree_from (json.boolean b) = Some (truth b)
  tree_from (json.number n) = option_map whole (as_integer n)
  tree_from (json.string s) = Some (words s)
  tree_from (json.array ds) = option_map items (trees_from ds)
  tree_from (json.object ms) = option_map members (members_from ms)

  pub trees_from : json.Items → Option Trees
  trees_from json.no_items = Some no_items
  trees_from (json.item d ds) = option_and_then (λ t. option_map (item t) (trees_from ds)) (tree_from d)

  pub members_from : json.Members → Option Members
  members_from json.no_members = Some no_members
  members_from (json.member k d ms) = option_and_then (λ t. option_map (member k t) (members_from ms)) (tree_from d)

-- the document that bytes are read to: JSON in UTF-8 whose numbers are whole
abbrev pub document_of : List ℕ → Option Tree
document_of bytes = if is_utf8 bytes then option_and_then tree_from (read bytes) else None

-- `serde_json` reads the bytes as this value
pub record HasReading (bytes : List ℕ) (d : json.Data) : Type 0 where
  pub utf8 : IsUtf8 bytes
  pub value : read bytes ≡ Some d

-- the bytes are read to this tree
pub record ReadsTo (bytes : List ℕ) (t : Tree) : Type 0 where
  pub reading : json.Data
  pub has : HasReading bytes reading
  pub tree : tree_from reading ≡ Some t

-- the bytes have a reading, and a number in it is no whole number
pub record HasOtherNumber (bytes : List ℕ) : Type 0 where
  pub reading : json.Data
  pub has : HasReading bytes reading
  pub none : tree_from reading ≡ None
