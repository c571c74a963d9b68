-- The members of a block that are checked one after the other.
use Rattle.std.specs.Prelude.{ℕ, List, not, Option, codes}
use Rattle.spec_documents.specs.Tree.{Members, get_member}
use Rattle.spec_messages.specs.Fault.{first_unknown, line_fault, is_list_of, is_header_node, is_item_node, first_of, when}

-- the list that has a wrong form
abbrev pub lists_fault : Members → Option (List ℕ)
lists_fault ms =
    first_of (when (not (is_list_of is_header_node (get_member (codes "headers") ms))) (codes "headers"))
    (when (not (is_list_of is_item_node (get_member (codes "payload") ms))) (codes "payload"))

-- the first wrong member beside `metaData`
abbrev pub members_fault : Members → Option (List ℕ)
members_fault ms =
    first_of (first_unknown ms)
    (first_of (line_fault (get_member (codes "requestLine") ms) (get_member (codes "statusLine") ms)) (lists_fault ms))
