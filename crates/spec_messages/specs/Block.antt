-- A block: a message as a document whose body is a list of items, each with a pointer and a value (after the integrity-protected block of TS 33.501 clause 13.2.4.3.1; names, forms and limits are this project's own).
use Rattle.std.specs.Prelude.{◌≡◌, ℕ, suc, ◌≤◌, max, List, [], ◌∷◌, ◌++◌, map, length, Bool, true, false, not, ◌&&◌, ◌||◌, nat_le, Option, Some, None, option_map, Result, Ok, Err, IsTrue, IsOk, is_some, if◌then◌else◌, bytes_eq, codes}
use Rattle.std.specs.List.{list_any}
use Rattle.std.specs.Option.{option_and_then}
use Rattle.spec_documents.specs.Tree.{Tree, null, truth, whole, words, items, members, Trees, no_items, item, Members, no_members, member, get_member, put_member, items_in, is_ordered}
use Rattle.spec_documents.specs.Place.{Pointer, at, is_prefix, is_beneath, pointer_text, read_pointer}
use Rattle.spec_documents.specs.Text.{is_segment, is_query_value, is_header_value, is_identity, is_id, index_text, joined, lower}
use Rattle.spec_documents.specs.Hole.{mark, has_mark, hole, hole_text, hole_index, hole_members, text_hole, places}
use Rattle.spec_messages.specs.Message.{Part, clear, hole_part, Pair, Header, Head, request, response, Message, Member, Parts, clear_part, text_at, any_text, all_read, head_of, headers_of}
use Rattle.spec_messages.specs.Policy.{Policy}
use Rattle.spec_messages.specs.Split.{cleared}

-- ---- the parts of a block, and its tree

pub record Meta : Type 0 where
  pub context : List ℕ
  pub message : List ℕ
  pub ipx : List ℕ

pub record RequestText : Type 0 where
  pub method : List ℕ
  pub scheme : List ℕ
  pub authority : List ℕ
  pub path : List ℕ
  pub version : List ℕ
  pub query : Option (List ℕ)

pub data LineText : Type 0 where
  request_text : RequestText → LineText
  status_text : List ℕ → LineText

-- headers are names and values, items pointer texts and values
pub record Block : Type 0 where
  pub metadata : Meta
  pub line : LineText
  pub headers : Option (List (List ℕ × Tree))
  pub payload : Option (List (List ℕ × Tree))

abbrev pub meta_tree : Meta → Tree
meta_tree m = members
    (member (codes "authorizedIpxId") (words m.ipx)
    (member (codes "messageId") (words m.message)
    (member (codes "n32fContextId") (words m.context) no_members)))

abbrev pub with_query : Option (List ℕ) → Members → Members
with_query None ms = ms
with_query (Some q) ms = member (codes "queryFragment") (words q) ms

abbrev pub request_tree : RequestText → Tree
request_tree l = members
    (member (codes "authority") (words l.authority)
    (member (codes "method") (words l.method)
    (member (codes "path") (words l.path)
    (member (codes "protocolVersion") (words l.version)
    (with_query l.query
    (member (codes "scheme") (words l.scheme) no_members))))))

abbrev pub line_members : LineText → Members
line_members (request_text l) = member (codes "requestLine") (request_tree l) no_members
line_members (status_text s) = member (codes "statusLine") (words s) no_members

abbrev pub header_tree : List ℕ × Tree → Tree
header_tree h = members (member (codes "header") (words h.0) (member (codes "value") h.1 no_members))

abbrev pub item_tree : List ℕ × Tree → Tree
item_tree i = members
    (member (codes "iePath") (words i.0)
    (member (codes "ieValueLocation") (words (codes "BODY"))
    (member (codes "value") i.1 no_members)))

abbrev pub list_tree : {X : Type 0} → (X → Tree) → List X → Trees
list_tree f [] = no_items
list_tree f (x ∷ xs) = item (f x) (list_tree f xs)

abbrev pub with_list : List ℕ → (List ℕ × Tree → Tree) → Option (List (List ℕ × Tree)) → Members → Members
with_list k f None ms = ms
with_list k f (Some xs) ms = member k (items (list_tree f xs)) ms

abbrev pub block_members : Block → Members
block_members b =
    with_list (codes "headers") header_tree b.headers
    (member (codes "metaData") (meta_tree b.metadata)
    (with_list (codes "payload") item_tree b.payload
    (line_members b.line)))

abbrev pub block_tree : Block → Tree
block_tree b = members (block_members b)

-- ---- reading: in a block a part may be a hole

abbrev pub hole_or_clear : (List ℕ → Bool) → List ℕ → Option ℕ → Option Part
hole_or_clear test s None = clear_part test s
hole_or_clear test s (Some n) = Some (hole_part n)

abbrev pub header_part : Tree → Option Part
header_part null = None
header_part (truth b) = None
header_part (whole z) = None
header_part (words s) = clear_part is_header_value s
header_part (items ts) = None
header_part (members ms) = option_map hole_part (hole_index (members ms))

abbrev pub block_parts : Parts
block_parts = record {
  segment = λ s. hole_or_clear is_segment s (text_hole s);
  value = λ s. hole_or_clear is_query_value s (text_hole s);
  header = header_part;
}

-- the pointer and value of an item
abbrev pub Items : Type 0
Items = List (Pointer × Tree)

abbrev pub pointed_at : Result Pointer ℕ → Tree → Option (Pointer × Tree)
pointed_at (Err i) v = None
pointed_at (Ok q) v = Some (q, v)

abbrev pub pointed : Option (List ℕ) → Option Tree → Option (Pointer × Tree)
pointed None v = None
pointed (Some p) None = None
pointed (Some p) (Some v) = pointed_at (read_pointer p) v

abbrev pub item_of : Tree → Option (Pointer × Tree)
item_of null = None
item_of (truth b) = None
item_of (whole z) = None
item_of (words s) = None
item_of (items ts) = None
item_of (members ms) = pointed (text_at any_text (codes "iePath") ms) (get_member (codes "value") ms)

abbrev pub items_of : Option Tree → Option Items
items_of None = Some []
items_of (Some t) = option_and_then (all_read item_of) (items_in (Some t))

abbrev pub members_of : Tree → Members
members_of null = no_members
members_of (truth b) = no_members
members_of (whole z) = no_members
members_of (words s) = no_members
members_of (items ts) = no_members
members_of (members ms) = ms

abbrev pub block_items : Tree → Option Items
block_items j = items_of (get_member (codes "payload") (members_of j))

-- ---- the message that a block stands for

abbrev pub is_object : Tree → Bool
is_object null = false
is_object (truth b) = false
is_object (whole z) = false
is_object (words s) = false
is_object (items ts) = false
is_object (members ms) = true

-- at or beneath an item's path, or an object above one
abbrev pub is_reached : Items → Pointer → Tree → Bool
is_reached is q u = list_any (λ i. is_prefix i.0 q) is || (is_object u && list_any (λ i. is_beneath q i.0) is)

abbrev pub AllAt : Items → Tree → Type 0
AllAt [] t = Unit {0}
AllAt (i ∷ is) t = (at t i.0 ≡ Ok i.1) × AllAt is t

-- t is the least tree of objects that has each item's value at its path
pub record IsGrown (is : Items) (t : Tree) : Type 0 where
  pub each : AllAt is t
  pub only : (q : Pointer) (u : Tree) → at t q ≡ Ok u → is_reached is q u ≡ true

abbrev pub IsBody : Items → Option Tree → Type 0
IsBody [] body = body ≡ None
IsBody (i ∷ is) None = ⊥
IsBody (i ∷ is) (Some t) = IsGrown (i ∷ is) t

abbrev pub is_ordered_body : Option Tree → Bool
is_ordered_body None = true
is_ordered_body (Some t) = is_ordered t

-- the line, the headers and the body of c are those of j
pub record StandsFor (j : Tree) (c : Message) : Type 0 where
  pub head : head_of block_parts (members_of j) ≡ Ok c.head
  pub headers : headers_of block_parts (get_member (codes "headers") (members_of j)) ≡ Some c.headers
  pub items : Items
  pub items_are : block_items j ≡ Some items
  pub body : IsBody items c.body
  pub ordered : IsTrue (is_ordered_body c.body)

-- ---- what is a block, with n values

abbrev pub is_meta : Meta → Bool
is_meta m = (is_id m.context && is_id m.message) && (is_identity m.ipx || bytes_eq m.ipx (codes "null"))

abbrev pub at_most : {X : Type 0} → ℕ → Option (List X) → Bool
at_most n None = true
at_most n (Some xs) = nat_le (length xs) n

abbrev pub in_limits : Block → ℕ → Bool
in_limits b n = (at_most 256 b.headers && at_most 4096 b.payload) && nat_le n 1024

-- no path is a prefix of another, and none has the token `encBlockIndex`
abbrev pub is_apart : Items → Bool
is_apart [] = true
is_apart (i ∷ is) =
    (not (list_any (bytes_eq mark) i.0) && not (list_any (λ k. is_prefix i.0 k.0 || is_prefix k.0 i.0) is)) && is_apart is

-- depth, where a hole counts as 0
abbrev mutual
  pub open_depth : Tree → ℕ
  open_depth null = 0
  open_depth (truth b) = 0
  open_depth (whole z) = 0
  open_depth (words s) = 0
  open_depth (items ts) = suc (items_open_depth ts)
  open_depth (members ms) = if has_mark ms then 0 else suc (members_open_depth ms)

  pub items_open_depth : Trees → ℕ
  items_open_depth no_items = 0
  items_open_depth (item t ts) = max (open_depth t) (items_open_depth ts)

  pub members_open_depth : Members → ℕ
  members_open_depth no_members = 0
  members_open_depth (member k t ms) = max (open_depth t) (members_open_depth ms)

abbrev pub open_body_depth : Option Tree → ℕ
open_body_depth None = 0
open_body_depth (Some t) = open_depth t

pub record IsBlock (j : Tree) (n : ℕ) (c : Message) : Type 0 where
  pub block : Block
  pub is : j ≡ block_tree block
  pub metadata : IsTrue (is_meta block.metadata)
  pub limits : IsTrue (in_limits block n)
  pub stands : StandsFor j c
  pub apart : IsTrue (is_apart stands.items)
  pub holes : IsOk (places j n)
  pub deep : open_body_depth c.body ≤ 64

-- ---- the block of a message

-- what isn't an object with members, or is a hole
abbrev pub is_leaf : Members → Bool
is_leaf no_members = true
is_leaf (member k t ms) = is_some (hole_members (member k t ms))

abbrev mutual
  -- the leaves beneath q, in walking order
  pub leaves : Pointer → Tree → Items
  leaves q null = (q, null) ∷ []
  leaves q (truth b) = (q, truth b) ∷ []
  leaves q (whole z) = (q, whole z) ∷ []
  leaves q (words s) = (q, words s) ∷ []
  leaves q (items ts) = (q, items ts) ∷ []
  leaves q (members ms) = if is_leaf ms then (q, members ms) ∷ [] else members_leaves q ms

  pub members_leaves : Pointer → Members → Items
  members_leaves q no_members = []
  members_leaves q (member k t ms) = leaves (q ++ k ∷ []) t ++ members_leaves q ms

abbrev pub part_text : Part → List ℕ
part_text (clear s) = s
part_text (hole_part n) = hole_text n

abbrev pub path_text : List Part → List ℕ
path_text [] = []
path_text (p ∷ ps) = 47 ∷ (part_text p ++ path_text ps)

abbrev pub value_text : List ℕ → Option Part → List ℕ
value_text name None = name
value_text name (Some p) = name ++ 61 ∷ part_text p

abbrev pub query_text : List Pair → Option (List ℕ)
query_text [] = None
query_text (p ∷ ps) = Some (joined 38 (map (λ p. value_text p.name p.value) (p ∷ ps)))

abbrev pub head_text : Head → LineText
head_text (request l) = request_text (record {
  method = l.method;
  scheme = l.scheme;
  authority = l.authority;
  path = path_text l.segments;
  version = l.version;
  query = query_text l.query;
})
head_text (response s) = status_text (index_text s)

abbrev pub part_tree : Part → Tree
part_tree (clear s) = words s
part_tree (hole_part n) = hole n

abbrev pub unless_empty : {X : Type 0} → List X → Option (List X)
unless_empty [] = None
unless_empty (x ∷ xs) = Some (x ∷ xs)

abbrev pub body_leaves : Option Tree → Items
body_leaves None = []
body_leaves (Some t) = leaves [] t

-- the block of a clear message: its items are the leaves of the body, in order
abbrev pub block_of : Message → Meta → Block
block_of c m = record {
  metadata = record { context = lower m.context; message = lower m.message; ipx = m.ipx };
  line = head_text c.head;
  headers = unless_empty (map (λ h. (h.name, part_tree h.value)) c.headers);
  payload = unless_empty (map (λ i. (pointer_text i.0, i.1)) (body_leaves c.body));
}

abbrev pub sent_block : Policy → Option ℕ → Message → Meta → Tree
sent_block pol k m meta = block_tree (block_of (cleared pol k m) meta)

-- ---- the same, computed

abbrev pub or_empty_object : Option Tree → Tree
or_empty_object None = members no_members
or_empty_object (Some t) = t

-- t with v at p, through objects that are made where they are missing
abbrev pub grafted : Pointer → Tree → Tree → Tree
grafted [] v t = v
grafted (x ∷ p) v t = members (put_member x (grafted p v (or_empty_object (get_member x (members_of t)))) (members_of t))

abbrev pub all_grafted : Items → Tree → Tree
all_grafted [] t = t
all_grafted (i ∷ is) t = all_grafted is (grafted i.0 i.1 t)

-- the least tree of objects that has each item's value at its path
abbrev pub body_of : Items → Option Tree
body_of [] = None
body_of (i ∷ is) = Some (all_grafted (i ∷ is) (members no_members))

abbrev pub message_with : Result Head Member → Option (List Header) → Option Items → Option Message
message_with (Err why) hs is = None
message_with (Ok h) None is = None
message_with (Ok h) (Some hs) None = None
message_with (Ok h) (Some hs) (Some is) = Some (record { head = h; headers = hs; body = body_of is })

-- the message that a block stands for
abbrev pub clear_message : Tree → Option Message
clear_message j = message_with (head_of block_parts (members_of j)) (headers_of block_parts (get_member (codes "headers") (members_of j))) (block_items j)
