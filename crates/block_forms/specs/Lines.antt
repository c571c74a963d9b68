-- A line's query, put among its other members.
use Rattle.std.specs.Prelude.{ℕ, List, Option, Some, None, codes}
use Rattle.spec_documents.specs.Tree.{Members, words, put_member}

abbrev pub put_query : Option (List ℕ) → Members → Members
put_query None ms = ms
put_query (Some q) ms = put_member (codes "queryFragment") (words q) ms
