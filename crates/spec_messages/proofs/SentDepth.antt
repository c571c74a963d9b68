-- A block whose body is no deeper than 64 nests at most 127 deep, with holes as without.
use Rattle.std.proofs.Common.{ℕ, suc, ◌+◌, ◌≤◌, List, [], ◌∷◌, ◌++◌, map, length, Bool, true, false, Option, Some, None, arith, if◌then◌else◌, codes}
use Rattle.spec_documents.specs.Tree.{Tree, null, truth, whole, words, items, members, Trees, no_items, item, Members, no_members, member, depth, items_depth, members_depth}
use Rattle.spec_documents.specs.Place.{Pointer, pointer_text}
use Rattle.spec_documents.specs.Text.{index_text}
use Rattle.spec_documents.specs.Hole.{hole}
use Rattle.spec_messages.specs.Message.{Part, clear, hole_part, Header, Message, Kind, kind_of, body_depth}
use Rattle.spec_messages.specs.Policy.{Policy, outermost, is_secret_node}
use Rattle.spec_messages.specs.Split.{hide, hide_items, hide_members, hide_body, cleared}
use Rattle.spec_messages.specs.Block.{Meta, LineText, request_text, status_text, meta_tree, with_query, line_members, header_tree, item_tree, list_tree, with_list, block_tree, Items, is_leaf, leaves, members_leaves, body_leaves, part_tree, unless_empty, block_of, sent_block}

-- ---- holes in a body

hole-low : (b : Bool) (n : ℕ) (t u : Tree) → depth u ≤ suc (depth t) → depth (if b then hole n else u) ≤ suc (depth t)
hole-low true n t u h = omega arith
hole-low false n t u h = h

mutual
  pub hide-depth : (test : Pointer → Tree → Bool) (q : Pointer) (n : ℕ) (t : Tree) → depth (hide test q n t) ≤ suc (depth t)
  hide-depth test q n null = hole-low (test q null) n null null (omega arith)
  hide-depth test q n (truth b) = hole-low (test q (truth b)) n (truth b) (truth b) (omega arith)
  hide-depth test q n (whole z) = hole-low (test q (whole z)) n (whole z) (whole z) (omega arith)
  hide-depth test q n (words s) = hole-low (test q (words s)) n (words s) (words s) (omega arith)
  hide-depth test q n (items ts) = hole-low (test q (items ts)) n (items ts) (items (hide_items test q 0 n ts)) (let h = hide-depth-items test q 0 n ts in omega arith)
  hide-depth test q n (members ms) = hole-low (test q (members ms)) n (members ms) (members (hide_members test q n ms)) (let h = hide-depth-members test q n ms in omega arith)

  hide-depth-items : (test : Pointer → Tree → Bool) (q : Pointer) (i n : ℕ) (ts : Trees) → items_depth (hide_items test q i n ts) ≤ suc (items_depth ts)
  hide-depth-items test q i n no_items = omega arith
  hide-depth-items test q i n (item t ts) =
      let one = hide-depth test (q ++ index_text i ∷ []) n t in
      let rest = hide-depth-items test q (suc i) (n + length (outermost test (q ++ index_text i ∷ []) t)) ts in omega arith

  hide-depth-members : (test : Pointer → Tree → Bool) (q : Pointer) (n : ℕ) (ms : Members) → members_depth (hide_members test q n ms) ≤ suc (members_depth ms)
  hide-depth-members test q n no_members = omega arith
  hide-depth-members test q n (member k t ms) =
      let one = hide-depth test (q ++ k ∷ []) n t in
      let rest = hide-depth-members test q (n + length (outermost test (q ++ k ∷ []) t)) ms in omega arith

hidden-body : (pol : Policy) (k : Option ℕ) (kind : Kind) (n : ℕ) (o : Option Tree) → body_depth (hide_body pol k kind n o) ≤ suc (body_depth o)
hidden-body pol k kind n None = omega arith
hidden-body pol k kind n (Some t) = hide-depth (is_secret_node pol k kind t) [] n t

-- ---- its leaves

abbrev Low : ℕ → Items → Type 0
Low N [] = Unit {0}
Low N (i ∷ is) = (depth i.1 ≤ N) × Low N is

low-append : (N : ℕ) (is js : Items) → Low N is → Low N js → Low N (is ++ js)
low-append N [] js h k = k
low-append N (i ∷ is) js h k = (h.0, low-append N is js h.1 k)

object-low : (N : ℕ) (b : Bool) (q : Pointer) (t : Tree) (is : Items) → depth t ≤ N → Low N is → Low N (if b then (q, t) ∷ [] else is)
object-low N true q t is h k = (h, tt)
object-low N false q t is h k = k

mutual
  leaves-low : (N : ℕ) (q : Pointer) (t : Tree) → depth t ≤ N → Low N (leaves q t)
  leaves-low N q null h = (h, tt)
  leaves-low N q (truth b) h = (h, tt)
  leaves-low N q (whole z) h = (h, tt)
  leaves-low N q (words s) h = (h, tt)
  leaves-low N q (items ts) h = (h, tt)
  leaves-low N q (members ms) h = object-low N (is_leaf ms) q (members ms) (members_leaves q ms) h (members-low N q ms (omega arith))

  members-low : (N : ℕ) (q : Pointer) (ms : Members) → members_depth ms ≤ N → Low N (members_leaves q ms)
  members-low N q no_members h = tt
  members-low N q (member k t ms) h = low-append N (leaves (q ++ k ∷ []) t) (members_leaves q ms) (leaves-low N (q ++ k ∷ []) t (omega arith)) (members-low N q ms (omega arith))

body-low : (N : ℕ) (o : Option Tree) → body_depth o ≤ N → Low N (body_leaves o)
body-low N None h = tt
body-low N (Some t) h = leaves-low N [] t h

-- ---- the block

items-low : (N : ℕ) (is : Items) → Low N is → items_depth (list_tree item_tree (map (λ i. (pointer_text i.0, i.1)) is)) ≤ suc N
items-low N [] h = omega arith
items-low N (i ∷ is) h = let a = h.0 in let r = items-low N is h.1 in omega arith

part-low : (p : Part) → depth (part_tree p) ≤ 1
part-low (clear s) = omega arith
part-low (hole_part n) = omega arith

headers-low : (hs : List Header) → items_depth (list_tree header_tree (map (λ h. (h.name, part_tree h.value)) hs)) ≤ 2
headers-low [] = omega arith
headers-low (h ∷ hs) = let a = part-low h.value in let r = headers-low hs in omega arith

list-low : (N : ℕ) (k : List ℕ) (f : List ℕ × Tree → Tree) (xs : List (List ℕ × Tree)) (ms : Members) → items_depth (list_tree f xs) ≤ N → members_depth ms ≤ suc N → members_depth (with_list k f (unless_empty xs) ms) ≤ suc N
list-low N k f [] ms h d = d
list-low N k f (x ∷ xs) ms h d = omega arith

query-low : (q : Option (List ℕ)) (ms : Members) → members_depth ms ≤ 0 → members_depth (with_query q ms) ≤ 0
query-low None ms h = h
query-low (Some s) ms h = omega arith

line-low : (l : LineText) → members_depth (line_members l) ≤ 1
line-low (request_text l) = let h = query-low l.query (member (codes "scheme") (words l.scheme) no_members) (omega arith) in omega arith
line-low (status_text s) = omega arith

pub block-low : (N : ℕ) (c : Message) (meta : Meta) → body_depth c.body ≤ N → depth (block_tree (block_of c meta)) ≤ N + 4
block-low N c meta h =
    let b = block_of c meta in
    let items = items-low N (body_leaves c.body) (body-low N c.body h) in
    let line = line-low b.line in
    let one = list-low (N + 2) (codes "payload") item_tree (map (λ i. (pointer_text i.0, i.1)) (body_leaves c.body)) (line_members b.line) (omega arith) (omega arith) in
    let two : members_depth (member (codes "metaData") (meta_tree b.metadata) (with_list (codes "payload") item_tree b.payload (line_members b.line))) ≤ suc (N + 2) = omega arith in
    let heads = headers-low c.headers in
    let three = list-low (N + 2) (codes "headers") header_tree (map (λ h. (h.name, part_tree h.value)) c.headers)
    (member (codes "metaData") (meta_tree b.metadata) (with_list (codes "payload") item_tree b.payload (line_members b.line))) (omega arith) two in
    omega arith

cleared-low : (pol : Policy) (k : Option ℕ) (m : Message) → body_depth (cleared pol k m).body ≤ suc (body_depth m.body)
cleared-low pol k m = hidden-body pol k (kind_of m) _ m.body

pub sent-low : (pol : Policy) (k : Option ℕ) (m : Message) (meta : Meta) → body_depth m.body ≤ 64 → depth (sent_block pol k m meta) ≤ 127
sent-low pol k m meta h =
    let c = cleared pol k m in
    let e = cleared-low pol k m in
    let d : body_depth c.body ≤ 65 = omega arith in
    let b = block-low 65 c meta d in omega arith
