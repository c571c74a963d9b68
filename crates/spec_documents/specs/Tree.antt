-- A JSON value (RFC 8259 section 3; numbers in this project's profile). A list and an object have their members in order, an object by ascending bytes of unique names.
use Rattle.std.specs.Prelude.{ℕ, zero, suc, ◌-◌, ◌^◌, max, ℤ, pos, negsuc, int_le, List, [], ◌∷◌, Bool, true, false, ◌&&◌, Option, Some, None, bytes_eq}
use Rattle.std.specs.declared.cmp.Ordering.{Ordering}
use Rattle.std.specs.Ordering.{nat_cmp, int_eq, is_lt, match_ordering}
use Rattle.std.specs.Cmp.Lexicographic.{slice_cmp}

mutual
  pub data Tree : Type 0 where
    null : Tree
    truth : Bool → Tree
    whole : ℤ → Tree
    words : List ℕ → Tree
    items : Trees → Tree
    members : Members → Tree

  pub data Trees : Type 0 where
    no_items : Trees
    item : Tree → Trees → Trees

  pub data Members : Type 0 where
    no_members : Members
    member : List ℕ → Tree → Members → Members

-- ---- lists

abbrev pub trees : List Tree → Trees
trees [] = no_items
trees (t ∷ ts) = item t (trees ts)

abbrev pub tree_list : Trees → List Tree
tree_list no_items = []
tree_list (item t ts) = t ∷ tree_list ts

-- the items, where there is a list
abbrev pub items_in : Option Tree → Option (List Tree)
items_in None = None
items_in (Some null) = None
items_in (Some (truth b)) = None
items_in (Some (whole z)) = None
items_in (Some (words s)) = None
items_in (Some (items ts)) = Some (tree_list ts)
items_in (Some (members ms)) = None

abbrev pub count_items : Trees → ℕ
count_items no_items = 0
count_items (item t ts) = suc (count_items ts)

abbrev pub get_item : ℕ → Trees → Option Tree
get_item n no_items = None
get_item zero (item t ts) = Some t
get_item (suc n) (item t ts) = get_item n ts

abbrev pub set_item : ℕ → Tree → Trees → Trees
set_item n u no_items = no_items
set_item zero u (item t ts) = item u ts
set_item (suc n) u (item t ts) = item t (set_item n u ts)

-- u goes in before the item at n, or at the end
abbrev pub insert_item : ℕ → Tree → Trees → Trees
insert_item zero u ts = item u ts
insert_item (suc n) u no_items = item u no_items
insert_item (suc n) u (item t ts) = item t (insert_item n u ts)

abbrev pub remove_item : ℕ → Trees → Trees
remove_item n no_items = no_items
remove_item zero (item t ts) = ts
remove_item (suc n) (item t ts) = item t (remove_item n ts)

-- ---- objects: names compare by their bytes

abbrev pub name_cmp : List ℕ → List ℕ → Ordering
name_cmp = slice_cmp nat_cmp

abbrev pub get_member : List ℕ → Members → Option Tree
get_member k no_members = None
get_member k (member l u ms) = match_ordering (name_cmp k l) (get_member k ms) (Some u) (get_member k ms)

-- k takes the value u
abbrev pub put_member : List ℕ → Tree → Members → Members
put_member k u no_members = member k u no_members
put_member k u (member l w ms) = match_ordering (name_cmp k l) (member k u (member l w ms)) (member l u ms) (member l w (put_member k u ms))

-- the value at k is u, where there is one
abbrev pub set_member : List ℕ → Tree → Members → Members
set_member k u no_members = no_members
set_member k u (member l w ms) = match_ordering (name_cmp k l) (member l w (set_member k u ms)) (member l u ms) (member l w (set_member k u ms))

abbrev pub drop_member : List ℕ → Members → Members
drop_member k no_members = no_members
drop_member k (member l w ms) = match_ordering (name_cmp k l) (member l w (drop_member k ms)) ms (member l w (drop_member k ms))

-- ---- depth

abbrev mutual
  pub depth : Tree → ℕ
  depth null = 0
  depth (truth b) = 0
  depth (whole z) = 0
  depth (words s) = 0
  depth (items ts) = suc (items_depth ts)
  depth (members ms) = suc (members_depth ms)

  pub items_depth : Trees → ℕ
  items_depth no_items = 0
  items_depth (item t ts) = max (depth t) (items_depth ts)

  pub members_depth : Members → ℕ
  members_depth no_members = 0
  members_depth (member k t ms) = max (depth t) (members_depth ms)

-- ---- what is a tree: each object has each name once, by ascending bytes, and each number is in range

abbrev pub in_range : ℤ → Bool
in_range z = int_le (negsuc (2 ^ 63 - 1)) z && int_le z (pos (2 ^ 64 - 1))

abbrev pub before_first : List ℕ → Members → Bool
before_first k no_members = true
before_first k (member l u ms) = is_lt (name_cmp k l)

-- the names of each object are in order, each once
abbrev mutual
  pub is_ordered : Tree → Bool
  is_ordered null = true
  is_ordered (truth b) = true
  is_ordered (whole z) = true
  is_ordered (words s) = true
  is_ordered (items ts) = are_ordered ts
  is_ordered (members ms) = are_members ms

  pub are_ordered : Trees → Bool
  are_ordered no_items = true
  are_ordered (item t ts) = is_ordered t && are_ordered ts

  pub are_members : Members → Bool
  are_members no_members = true
  are_members (member k t ms) = before_first k ms && (is_ordered t && are_members ms)

abbrev mutual
  pub has_range : Tree → Bool
  has_range null = true
  has_range (truth b) = true
  has_range (whole z) = in_range z
  has_range (words s) = true
  has_range (items ts) = items_have_range ts
  has_range (members ms) = members_have_range ms

  pub items_have_range : Trees → Bool
  items_have_range no_items = true
  items_have_range (item t ts) = has_range t && items_have_range ts

  pub members_have_range : Members → Bool
  members_have_range no_members = true
  members_have_range (member k t ms) = has_range t && members_have_range ms

abbrev pub is_tree : Tree → Bool
is_tree t = is_ordered t && has_range t

-- ---- equality as a test

abbrev pub same_truth : Bool → Bool → Bool
same_truth true b = b
same_truth false true = false
same_truth false false = true

abbrev mutual
  pub same_tree : Tree → Tree → Bool
  same_tree null null = true
  same_tree (truth a) (truth b) = same_truth a b
  same_tree (whole y) (whole z) = int_eq y z
  same_tree (words r) (words s) = bytes_eq r s
  same_tree (items ts) (items us) = same_items ts us
  same_tree (members ms) (members ns) = same_members ms ns
  same_tree _ _ = false

  pub same_items : Trees → Trees → Bool
  same_items no_items no_items = true
  same_items (item t ts) (item u us) = same_tree t u && same_items ts us
  same_items _ _ = false

  pub same_members : Members → Members → Bool
  same_members no_members no_members = true
  same_members (member k t ms) (member l u ns) = bytes_eq k l && (same_tree t u && same_members ms ns)
  same_members _ _ = false

-- ---- building

-- the object of these members, each name in its place
abbrev pub object : List (List ℕ × Tree) → Members
object [] = no_members
object (m ∷ ms) = put_member m.0 m.1 (object ms)
