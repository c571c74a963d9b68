-- An object that has exactly the members of these names.
use Rattle.std.specs.Prelude.{ℕ, List, ◌&&◌, Option, None, bytes_eq}
use Rattle.spec_documents.specs.Tree.{Tree, Members, no_members, member}
use Rattle.spec_messages.specs.Fault.{when}

abbrev pub two_members : List ℕ → List ℕ → Members → Option (Tree × Tree)
two_members k l no_members = None
two_members k l (member a t no_members) = None
two_members k l (member a t (member b u no_members)) = when (bytes_eq a k && bytes_eq b l) (t, u)
two_members k l (member a t (member b u (member c v ms))) = None

abbrev pub three_members : List ℕ → List ℕ → List ℕ → Members → Option (Tree × Tree × Tree)
three_members j k l no_members = None
three_members j k l (member a t no_members) = None
three_members j k l (member a t (member b u no_members)) = None
three_members j k l (member a t (member b u (member c v no_members))) = when (bytes_eq a j && (bytes_eq b k && bytes_eq c l)) (t, u, v)
three_members j k l (member a t (member b u (member c v (member d w ms)))) = None
