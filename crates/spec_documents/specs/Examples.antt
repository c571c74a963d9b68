-- Small documents that the worked examples name.
use Rattle.std.specs.Prelude.{ℕ, List, [], ◌∷◌, pos, codes}
use Rattle.spec_documents.specs.Tree.{Tree, whole, items, members, trees, object}

abbrev pub number : ℕ → Tree
number n = whole (pos n)

abbrev pub list : List Tree → Tree
list ts = items (trees ts)

abbrev pub map_of : List (List ℕ × Tree) → Tree
map_of ms = members (object ms)

-- {"a":[1,2]}
abbrev pub one_two : Tree
one_two = map_of ((codes "a", list (number 1 ∷ number 2 ∷ [])) ∷ [])
