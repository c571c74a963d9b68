-- Why a tree is no block with n values: the first fault, in the order of the checks (this project's own).
use Rattle.std.specs.Prelude.{ℕ, suc, ◌+◌, max, List, [], ◌∷◌, length, Bool, true, false, not, ◌&&◌, ◌||◌, nat_lt, Option, Some, None, unwrap_or, Result, Ok, Err, is_some, is_ok, if◌then◌else◌, bytes_eq, codes}
use Rattle.std.specs.List.{list_any, list_all}
use Rattle.std.specs.Option.{option_map_or}
use Rattle.spec_documents.specs.Tree.{Tree, null, truth, whole, words, items, members, Members, no_members, member, get_member, items_in, same_tree}
use Rattle.spec_documents.specs.Place.{Pointer, is_prefix, read_pointer}
use Rattle.spec_documents.specs.Text.{is_header_name, is_header_value}
use Rattle.spec_documents.specs.Hole.{mark, is_marked, HoleFault, places}
use Rattle.spec_messages.specs.Limits.{Limit, many_headers, many_items, many_values}
use Rattle.spec_messages.specs.Message.{any_text, text_at, request_of, status_head, status_text}
use Rattle.spec_messages.specs.Block.{Meta, RequestText, meta_tree, request_tree, header_tree, item_tree, block_parts, is_object, members_of, is_meta, open_depth}

pub data BlockFault : Type 0 where
  bad_member : List ℕ → BlockFault
  beyond : Limit → BlockFault
  ie_path : ℕ → BlockFault
  overlap : ℕ → BlockFault
  bad_holes : HoleFault → BlockFault
  deep : BlockFault

-- ---- each part has exactly its members: what is read of it, written again, is it

abbrev pub or_empty : Option (List ℕ) → List ℕ
or_empty None = []
or_empty (Some s) = s

abbrev pub text_of : List ℕ → Members → List ℕ
text_of k ms = or_empty (text_at any_text k ms)

abbrev pub meta_of : Members → Meta
meta_of ms = record { context = text_of (codes "n32fContextId") ms; message = text_of (codes "messageId") ms; ipx = text_of (codes "authorizedIpxId") ms }

abbrev pub is_meta_node : Option Tree → Bool
is_meta_node None = false
is_meta_node (Some t) = same_tree t (meta_tree (meta_of (members_of t))) && is_meta (meta_of (members_of t))

abbrev pub request_text_of : Members → RequestText
request_text_of ms = record {
  method = text_of (codes "method") ms;
  scheme = text_of (codes "scheme") ms;
  authority = text_of (codes "authority") ms;
  path = text_of (codes "path") ms;
  version = text_of (codes "protocolVersion") ms;
  query = text_at any_text (codes "queryFragment") ms;
}

abbrev pub is_request_node : Tree → Bool
is_request_node t = same_tree t (request_tree (request_text_of (members_of t))) && is_ok (request_of block_parts t)

abbrev pub is_status_node : Tree → Bool
is_status_node t = is_ok (status_head (status_text t))

abbrev pub line_fault : Option Tree → Option Tree → Option (List ℕ)
line_fault None None = Some (codes "requestLine")
line_fault (Some r) (Some s) = Some (codes "statusLine")
line_fault (Some r) None = if is_request_node r then None else Some (codes "requestLine")
line_fault None (Some s) = if is_status_node s then None else Some (codes "statusLine")

abbrev pub or_null : Option Tree → Tree
or_null None = null
or_null (Some t) = t

abbrev pub member_or_null : List ℕ → Members → Tree
member_or_null k ms = or_null (get_member k ms)

-- a header's value is a text of its grammar or an object with a member `encBlockIndex`
abbrev pub is_value_node : Tree → Bool
is_value_node null = false
is_value_node (truth b) = false
is_value_node (whole z) = false
is_value_node (words s) = is_header_value s
is_value_node (items ts) = false
is_value_node (members ms) = is_marked (members ms)

abbrev pub is_header_node : Tree → Bool
is_header_node t =
    let ms = members_of t in
    same_tree t (header_tree (text_of (codes "header") ms, member_or_null (codes "value") ms))
    && (is_header_name (text_of (codes "header") ms) && is_value_node (member_or_null (codes "value") ms))

abbrev pub is_item_node : Tree → Bool
is_item_node t = let ms = members_of t in same_tree t (item_tree (text_of (codes "iePath") ms, member_or_null (codes "value") ms))

abbrev pub is_list_of : (Tree → Bool) → Option Tree → Bool
is_list_of ok None = true
is_list_of ok (Some t) = option_map_or (list_all ok) (items_in (Some t)) false

abbrev pub list_of : Option Tree → List Tree
list_of o = unwrap_or (items_in o) []

abbrev pub is_known : List ℕ → Bool
is_known k = list_any (bytes_eq k) (codes "headers" ∷ codes "metaData" ∷ codes "payload" ∷ codes "requestLine" ∷ codes "statusLine" ∷ [])

abbrev pub first_unknown : Members → Option (List ℕ)
first_unknown no_members = None
first_unknown (member k t ms) = if is_known k then first_unknown ms else Some k

abbrev pub first_of : {A : Type 0} → Option A → Option A → Option A
first_of None b = b
first_of (Some a) b = Some a

abbrev pub when : {A : Type 0} → Bool → A → Option A
when b x = if b then Some x else None

abbrev pub as_fault : {A : Type 0} → (A → BlockFault) → Option A → Option BlockFault
as_fault f None = None
as_fault f (Some x) = Some (f x)

-- the member whose check fails first
abbrev pub member_fault : Tree → Option (List ℕ)
member_fault j =
    let ms = members_of j in
    first_of (when (not (is_object j && is_meta_node (get_member (codes "metaData") ms))) (codes "metaData"))
    (first_of (first_unknown ms)
    (first_of (line_fault (get_member (codes "requestLine") ms) (get_member (codes "statusLine") ms))
    (first_of (when (not (is_list_of is_header_node (get_member (codes "headers") ms))) (codes "headers"))
    (when (not (is_list_of is_item_node (get_member (codes "payload") ms))) (codes "payload")))))

abbrev pub limit_fault : Tree → ℕ → Option Limit
limit_fault j n =
    let ms = members_of j in
    first_of (when (nat_lt 256 (length (list_of (get_member (codes "headers") ms)))) many_headers)
    (first_of (when (nat_lt 4096 (length (list_of (get_member (codes "payload") ms)))) many_items)
    (when (nat_lt 1024 n) many_values))

-- ---- items

-- an item's path, where it is a pointer's text without the token `encBlockIndex`
abbrev pub plain_pointer : Result Pointer ℕ → Option Pointer
plain_pointer (Ok p) = if list_any (bytes_eq mark) p then None else Some p
plain_pointer (Err i) = None

abbrev pub path_of : Tree → Option Pointer
path_of t = plain_pointer (read_pointer (text_of (codes "iePath") (members_of t)))

-- the first item, from number k on, that has no such path
abbrev pub first_pathless : ℕ → List Tree → Option ℕ
first_pathless k [] = None
first_pathless k (t ∷ ts) = if is_some (path_of t) then first_pathless (suc k) ts else Some k

abbrev pub or_root : Option Pointer → Pointer
or_root None = []
or_root (Some p) = p

-- the first item, from number k on, whose path is above or beneath one that was seen
abbrev pub first_overlap : ℕ → List Pointer → List Tree → Option ℕ
first_overlap k seen [] = None
first_overlap k seen (t ∷ ts) =
    let p = or_root (path_of t) in
    if list_any (λ q. is_prefix p q || is_prefix q p) seen then Some k else first_overlap (suc k) (p ∷ seen) ts

-- how deep the body is, with each hole counted as 0
abbrev pub items_depth : List Tree → ℕ
items_depth [] = 0
items_depth (t ∷ ts) = max (length (or_root (path_of t)) + open_depth (member_or_null (codes "value") (members_of t))) (items_depth ts)

abbrev pub hole_fault : {A : Type 0} → Result A HoleFault → Option HoleFault
hole_fault (Ok ps) = None
hole_fault (Err why) = Some why

-- why j is no block with n values
abbrev pub block_fault : Tree → ℕ → Option BlockFault
block_fault j n =
    let payload = list_of (get_member (codes "payload") (members_of j)) in
    first_of (as_fault bad_member (member_fault j))
    (first_of (as_fault beyond (limit_fault j n))
    (first_of (as_fault ie_path (first_pathless 1 payload))
    (first_of (as_fault overlap (first_overlap 1 [] payload))
    (first_of (as_fault bad_holes (hole_fault (places j n)))
    (when (nat_lt 64 (items_depth payload)) deep)))))
