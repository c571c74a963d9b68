-- The tree of a JSON value, straight from the grammar: of two members of one name the last one stands, and a number has to be whole.
use Rattle.std.specs.Prelude.{Option, Some, option_map, option_and_then}
use Rattle.json.specs.Json as json
use Rattle.serde_json.specs.Find.{as_integer}
use Rattle.serde_json.specs.Read.{number_of}
use Rattle.spec_documents.specs.Tree.{Tree, null, truth, whole, words, items, members, Trees, no_items, item, Members, no_members, put_member}

abbrev mutual
  pub tree_json : json.Json → Option Tree
  tree_json json.null = Some null
  tree_json (json.boolean b) = Some (truth b)
  tree_json (json.number s) = option_map whole (option_and_then as_integer (number_of s))
  tree_json (json.string s) = Some (words s)
  tree_json (json.array js) = option_map items (trees_json js)
  tree_json (json.object ms) = option_map members (members_json ms no_members)

  pub trees_json : json.Items → Option Trees
  trees_json json.no_items = Some no_items
  trees_json (json.item j js) = option_and_then (λ t. option_map (item t) (trees_json js)) (tree_json j)

  -- with the members found so far
  pub members_json : json.Members → Members → Option Members
  members_json json.no_members found = Some found
  members_json (json.member k j ms) found = option_and_then (λ t. members_json ms (put_member k t found)) (tree_json j)
