-- The document of a message (TS 29.573, the message's parts as JSON).
use Rattle.std.specs.Prelude.{ℕ, List, [], ◌∷◌, map, Option, Some, None, codes}
use Rattle.spec_documents.specs.Tree.{Tree, items, members, Members, put_member}
use Rattle.spec_messages.specs.Message.{Header, Line, Message}
use Rattle.spec_messages.specs.Block.{request_tree, line_members, header_tree, list_tree, part_tree, path_text, query_text, head_text}

abbrev pub header_pair : Header → List ℕ × Tree
header_pair h = (h.name, part_tree h.value)

abbrev pub line_tree : Line → Tree
line_tree l = request_tree (record { method = l.method; scheme = l.scheme; authority = l.authority; path = path_text l.segments; version = l.version; query = query_text l.query })

abbrev pub with_body : Option Tree → Members → Members
with_body None ms = ms
with_body (Some t) ms = put_member (codes "body") t ms

-- the list is absent where there is no header
abbrev pub with_headers : List Header → Members → Members
with_headers [] ms = ms
with_headers (h ∷ hs) ms = put_member (codes "headers") (items (list_tree header_tree (map header_pair (h ∷ hs)))) ms

abbrev pub message_tree : Message → Tree
message_tree m = members (with_body m.body (with_headers m.headers (line_members (head_text m.head))))
