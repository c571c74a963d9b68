-- A worked block whose value has its names out of order.
use Rattle.std.specs.Prelude.{[], ◌∷◌, codes}
use Rattle.spec_documents.specs.Tree.{Tree, null, members, no_members, member}
use Rattle.spec_documents.specs.Hole.{hole}
use Rattle.spec_documents.specs.Examples.{map_of}
use Rattle.spec_messages.specs.Message.{Message}
use Rattle.spec_messages.specs.Rows.{posted, item_at, with_items}

-- one item, which is hole 0
abbrev pub block_hole : Tree
block_hole = with_items (item_at (codes "/a") (hole 0) ∷ [])

-- a request whose body has t at its one member
abbrev pub posted_at : Tree → Message
posted_at t = posted (map_of ((codes "a", t) ∷ []))

-- `c` stands before `b`
abbrev pub unordered : Tree
unordered = members (member (codes "c") null (member (codes "b") null no_members))
