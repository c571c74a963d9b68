-- Holes: an object `{"encBlockIndex":n}` in a tree stands for the n-th of a list of values (after TS 33.501 clause 13.2.4.3; the spellings and the walking order are this project's own).
use Rattle.std.specs.Prelude.{ℕ, zero, suc, pos, negsuc, List, [], ◌∷◌, ◌++◌, Bool, true, false, ◌&&◌, ◌||◌, Option, Some, None, Result, Ok, Err, is_some, slice_index_or, codes, map, take, drop, length, ◌-◌, ◌==◌, nat_le, bytes_eq, filter_map, if◌then◌else◌}
use Rattle.std.specs.List.{list_any, list_all}
use Rattle.std.specs.Ordering.{match_ordering}
use Rattle.spec_documents.specs.Tree.{Tree, null, truth, whole, words, items, members, Trees, no_items, item, Members, no_members, member, name_cmp, get_member}
use Rattle.spec_documents.specs.Place.{Pointer, Cause, ◌>>=◌, if_ok, child, at, with, is_index, index_number}
use Rattle.spec_documents.specs.Text.{index_text, pieces, joined, cut_at, contains_text}

-- the member that makes an object a hole, or a fault
abbrev pub mark : List ℕ
mark = codes "encBlockIndex"

abbrev pub hole : ℕ → Tree
hole n = members (member mark (whole (pos n)) no_members)

abbrev pub has_mark : Members → Bool
has_mark ms = is_some (get_member mark ms)

-- an object with a member `encBlockIndex`
abbrev pub is_marked : Tree → Bool
is_marked null = false
is_marked (truth b) = false
is_marked (whole z) = false
is_marked (words s) = false
is_marked (items ts) = false
is_marked (members ms) = has_mark ms

abbrev pub natural : Tree → Option ℕ
natural null = None
natural (truth b) = None
natural (whole (pos n)) = Some n
natural (whole (negsuc n)) = None
natural (words s) = None
natural (items ts) = None
natural (members ms) = None

-- the index of an object that is a hole: its one member is the mark, with a whole number from 0
abbrev pub hole_members : Members → Option ℕ
hole_members no_members = None
hole_members (member k u no_members) = match_ordering (name_cmp mark k) None (natural u) None
hole_members (member k u (member l w ms)) = None

-- ---- filling, node by node: the fill of a hole is its value

abbrev pub value_at : List Tree → ℕ → Tree
value_at vs n = slice_index_or vs n null

abbrev pub object_or : Option ℕ → List Tree → Members → Tree
object_or None vs ms = members ms
object_or (Some n) vs ms = value_at vs n

abbrev mutual
  pub fill : List Tree → Tree → Tree
  fill vs null = null
  fill vs (truth b) = truth b
  fill vs (whole z) = whole z
  fill vs (words s) = words s
  fill vs (items ts) = items (fill_items vs ts)
  fill vs (members ms) = object_or (hole_members ms) vs (fill_members vs ms)

  pub fill_items : List Tree → Trees → Trees
  fill_items vs no_items = no_items
  fill_items vs (item t ts) = item (fill vs t) (fill_items vs ts)

  pub fill_members : List Tree → Members → Members
  fill_members vs no_members = no_members
  fill_members vs (member k t ms) = member k (fill vs t) (fill_members vs ms)

-- ---- where an operation may go

abbrev mutual
  -- some object in t has a member `encBlockIndex`
  pub has_marked : Tree → Bool
  has_marked null = false
  has_marked (truth b) = false
  has_marked (whole z) = false
  has_marked (words s) = false
  has_marked (items ts) = items_have_marked ts
  has_marked (members ms) = has_mark ms || members_have_marked ms

  pub items_have_marked : Trees → Bool
  items_have_marked no_items = false
  items_have_marked (item t ts) = has_marked t || items_have_marked ts

  pub members_have_marked : Members → Bool
  members_have_marked no_members = false
  members_have_marked (member k t ms) = has_marked t || members_have_marked ms

-- p goes strictly beneath an object with a member `encBlockIndex`
abbrev pub goes_into : Tree → Pointer → Bool
goes_into t [] = false
goes_into t (x ∷ p) = is_marked t || if_ok (λ u. goes_into u p) (child x t)

-- ---- the places of holes

-- where a hole stands: the pointer of its object; for a text hole the pointer of the text, and its segment or pair
pub record HolePlace : Type 0 where
  pub pointer : Pointer
  pub part : Option ℕ

-- a hole, or an object with a member `encBlockIndex` that is none, which has no index
pub record Mark : Type 0 where
  pub place : HolePlace
  pub index : Option ℕ

abbrev pub Marks : Type 0
Marks = List (Pointer × Option ℕ)

abbrev pub beneath : List ℕ → Marks → Marks
beneath x ms = map (λ m. (x ∷ m.0, m.1)) ms

-- the objects with a member `encBlockIndex`, in walking order. What stands in one isn't looked at
abbrev mutual
  pub marks : Tree → Marks
  marks null = []
  marks (truth b) = []
  marks (whole z) = []
  marks (words s) = []
  marks (items ts) = items_marks 0 ts
  marks (members ms) = if has_mark ms then ([], hole_members ms) ∷ [] else members_marks ms

  pub items_marks : ℕ → Trees → Marks
  items_marks i no_items = []
  items_marks i (item t ts) = beneath (index_text i) (marks t) ++ items_marks (suc i) ts

  pub members_marks : Members → Marks
  members_marks no_members = []
  members_marks (member k t ms) = beneath k (marks t) ++ members_marks ms

-- the node itself, where it is such an object
abbrev pub hole_index : Tree → Option ℕ
hole_index null = None
hole_index (truth b) = None
hole_index (whole z) = None
hole_index (words s) = None
hole_index (items ts) = None
hole_index (members ms) = hole_members ms

abbrev pub mark_here : Tree → Marks
mark_here t = if is_marked t then ([], hole_index t) ∷ [] else []

abbrev pub marks_in : (Tree → Marks) → Result Tree Cause → Marks
marks_in look (Ok u) = look u
marks_in look (Err why) = []

-- what each item of a list has at its member `value`
abbrev pub value_marks : (Tree → Marks) → ℕ → Trees → Marks
value_marks look i no_items = []
value_marks look i (item t ts) = beneath (index_text i) (beneath (codes "value") (marks_in look (child (codes "value") t))) ++ value_marks look (suc i) ts

abbrev pub list_marks : (Tree → Marks) → Tree → Marks
list_marks look null = []
list_marks look (truth b) = []
list_marks look (whole z) = []
list_marks look (words s) = []
list_marks look (items ts) = value_marks look 0 ts
list_marks look (members ms) = []

-- the objects of a block: a header's value, and all at or beneath an item's value
abbrev pub object_marks : Tree → Marks
object_marks j =
    beneath (codes "headers") (marks_in (list_marks mark_here) (child (codes "headers") j))
    ++ beneath (codes "payload") (marks_in (list_marks marks) (child (codes "payload") j))

-- ---- text holes: a whole segment of the path, or a whole value of the query, spelled `{encBlockIndex=n}`

abbrev pub hole_opening : List ℕ
hole_opening = codes "{encBlockIndex="

abbrev pub hole_text : ℕ → List ℕ
hole_text n = hole_opening ++ index_text n ++ codes "}"

-- n has 1 to 10 digits, with no 0 in front
abbrev pub text_hole : List ℕ → Option ℕ
text_hole s =
    let digits = take (length s - 16) (drop 15 s) in
    if (is_index digits && nat_le (length digits) 10) && bytes_eq s (hole_opening ++ digits ++ codes "}") then Some (index_number digits) else None

abbrev pub value_hole : Option (List ℕ) → Option ℕ
value_hole None = None
value_hole (Some v) = text_hole v

abbrev pub pair_hole : List ℕ → Option ℕ
pair_hole p = value_hole (cut_at 61 p).1

abbrev pub after_one : {X : Type 0} → List X → List X
after_one [] = []
after_one (x ∷ xs) = xs

-- the segments of a path, each behind its `/`
abbrev pub path_pieces : List ℕ → List (List ℕ)
path_pieces s = after_one (pieces 47 s)

abbrev pub query_pieces : List ℕ → List (List ℕ)
query_pieces s = pieces 38 s

abbrev pub path_pointer : Pointer
path_pointer = codes "requestLine" ∷ codes "path" ∷ []

abbrev pub query_pointer : Pointer
query_pointer = codes "requestLine" ∷ codes "queryFragment" ∷ []

abbrev pub text_mark : Pointer → ℕ → Option ℕ → List Mark
text_mark q i None = []
text_mark q i (Some n) = record { place = record { pointer = q; part = Some i }; index = Some n } ∷ []

abbrev pub piece_marks : Pointer → (List ℕ → Option ℕ) → ℕ → List (List ℕ) → List Mark
piece_marks q look i [] = []
piece_marks q look i (p ∷ ps) = text_mark q i (look p) ++ piece_marks q look (suc i) ps

abbrev pub words_marks : (List ℕ → List Mark) → Result Tree Cause → List Mark
words_marks look (Err why) = []
words_marks look (Ok null) = []
words_marks look (Ok (truth b)) = []
words_marks look (Ok (whole z)) = []
words_marks look (Ok (words s)) = look s
words_marks look (Ok (items ts)) = []
words_marks look (Ok (members ms)) = []

abbrev pub text_marks : Tree → List Mark
text_marks j =
    words_marks (λ s. piece_marks path_pointer text_hole 0 (path_pieces s)) (at j path_pointer)
    ++ words_marks (λ s. piece_marks query_pointer pair_hole 0 (query_pieces s)) (at j query_pointer)

abbrev pub object_mark : Pointer × Option ℕ → Mark
object_mark m = record { place = record { pointer = m.0; part = None }; index = m.1 }

-- all holes and faulty objects of a block, in walking order
abbrev pub all_marks : Tree → List Mark
all_marks j = text_marks j ++ map object_mark (object_marks j)

-- ---- the place of each hole

pub data HoleFault : Type 0 where
  bad_hole : HolePlace → HoleFault
  twice : ℕ → HoleFault
  missing : ℕ → HoleFault

abbrev pub is_some_index : ℕ → Option ℕ → Bool
is_some_index i None = false
is_some_index i (Some j) = i == j

abbrev pub has_index : ℕ → Mark → Bool
has_index i m = is_some_index i m.index

abbrev pub is_bad_index : ℕ → Option ℕ → Bool
is_bad_index n None = true
is_bad_index n (Some i) = nat_le n i

-- no index below n
abbrev pub is_bad : ℕ → Mark → Bool
is_bad n m = is_bad_index n m.index

-- the first mark whose index is none below n
abbrev pub first_bad : ℕ → List Mark → Option HolePlace
first_bad n [] = None
first_bad n (m ∷ ms) = if is_bad n m then Some m.place else first_bad n ms

abbrev pub indexes : List Mark → List ℕ
indexes ms = filter_map (λ m. m.index) ms

-- the first index that stood before
abbrev pub first_twice : List ℕ → List ℕ → Option ℕ
first_twice seen [] = None
first_twice seen (i ∷ is) = if list_any (λ j. i == j) seen then Some i else first_twice (i ∷ seen) is

abbrev pub place_of : ℕ → List Mark → Option HolePlace
place_of i [] = None
place_of i (m ∷ ms) = if has_index i m then Some m.place else place_of i ms

abbrev pub found_place : ℕ → Option HolePlace → Result HolePlace HoleFault
found_place i None = Err (missing i)
found_place i (Some p) = Ok p

-- the places of count indexes from i on, or the first that has none
abbrev pub gathered : List Mark → ℕ → ℕ → Result (List HolePlace) HoleFault
gathered ms zero i = Ok []
gathered ms (suc count) i = found_place i (place_of i ms) >>= λ p. gathered ms count (suc i) >>= λ ps. Ok (p ∷ ps)

abbrev pub unless_some : {A B E : Type 0} → Option A → (A → E) → Result B E → Result B E
unless_some None fault r = r
unless_some (Some x) fault r = Err (fault x)

-- the one place of each index below n, or the first fault
abbrev pub places : Tree → ℕ → Result (List HolePlace) HoleFault
places j n =
    let ms = all_marks j in
    unless_some (first_bad n ms) bad_hole (unless_some (first_twice [] (indexes ms)) twice (gathered ms n 0))

-- ---- the whole fill of a block

abbrev pub adjusted : (Tree → Tree) → Pointer → Tree → Result Tree Cause → Tree
adjusted f p t (Ok u) = with t p (f u)
adjusted f p t (Err why) = t

-- t with what stands at p, if it is there, changed by f
abbrev pub adjust : Pointer → (Tree → Tree) → Tree → Tree
adjust p f t = adjusted f p t (at t p)

abbrev pub on_words : (List ℕ → List ℕ) → Tree → Tree
on_words f null = null
on_words f (truth b) = truth b
on_words f (whole z) = whole z
on_words f (words s) = words (f s)
on_words f (items ts) = items ts
on_words f (members ms) = members ms

abbrev pub map_items : (Tree → Tree) → Trees → Trees
map_items f no_items = no_items
map_items f (item t ts) = item (f t) (map_items f ts)

abbrev pub on_items : (Tree → Tree) → Tree → Tree
on_items f null = null
on_items f (truth b) = truth b
on_items f (whole z) = whole z
on_items f (words s) = words s
on_items f (items ts) = items (map_items f ts)
on_items f (members ms) = members ms

abbrev pub text_value : Tree → List ℕ
text_value null = []
text_value (truth b) = []
text_value (whole z) = []
text_value (words s) = s
text_value (items ts) = []
text_value (members ms) = []

abbrev pub is_words : (List ℕ → Bool) → Tree → Bool
is_words test null = false
is_words test (truth b) = false
is_words test (whole z) = false
is_words test (words s) = test s
is_words test (items ts) = false
is_words test (members ms) = false

abbrev pub hole_or : Option ℕ → List Tree → List ℕ → List ℕ
hole_or None vs s = s
hole_or (Some n) vs s = text_value (value_at vs n)

abbrev pub filled_text : List Tree → List ℕ → List ℕ
filled_text vs s = hole_or (text_hole s) vs s

abbrev pub but_first : {X : Type 0} → (X → X) → List X → List X
but_first f [] = []
but_first f (x ∷ xs) = x ∷ map f xs

abbrev pub filled_path : List Tree → List ℕ → List ℕ
filled_path vs s = joined 47 (but_first (filled_text vs) (pieces 47 s))

abbrev pub filled_value : List Tree → List ℕ → Option (List ℕ) → List ℕ
filled_value vs name None = name
filled_value vs name (Some v) = name ++ 61 ∷ filled_text vs v

abbrev pub filled_pair : List Tree → List ℕ → List ℕ
filled_pair vs p = filled_value vs (cut_at 61 p).0 (cut_at 61 p).1

abbrev pub filled_query : List Tree → List ℕ → List ℕ
filled_query vs s = joined 38 (map (filled_pair vs) (pieces 38 s))

abbrev pub fill_lines : List Tree → Tree → Tree
fill_lines vs j = adjust path_pointer (on_words (filled_path vs)) (adjust query_pointer (on_words (filled_query vs)) j)

abbrev pub fill_here : List Tree → Tree → Tree
fill_here vs t = if is_marked t then fill vs t else t

abbrev pub fill_objects : List Tree → Tree → Tree
fill_objects vs j =
    adjust (codes "headers" ∷ []) (on_items (adjust (codes "value" ∷ []) (fill_here vs)))
    (adjust (codes "payload" ∷ []) (on_items (adjust (codes "value" ∷ []) (fill vs))) j)

abbrev pub has_words_at : List Tree → Option ℕ → Bool
has_words_at vs None = true
has_words_at vs (Some n) = is_words (λ s. true) (value_at vs n)

abbrev pub has_words : List Tree → Mark → Bool
has_words vs m = has_words_at vs m.index

abbrev pub fill_all : List Tree → Tree → Tree
fill_all vs j = fill_lines vs (fill_objects vs j)

-- j with each hole replaced by its value, or nothing where the value of a text hole is no text
abbrev pub fill_tree : List Tree → Tree → Option Tree
fill_tree vs j = if list_all (has_words vs) (text_marks j) then Some (fill_all vs j) else None

-- ---- spellings of holes in a node

abbrev mutual
  pub has_hole_spelling : Tree → Bool
  has_hole_spelling null = false
  has_hole_spelling (truth b) = false
  has_hole_spelling (whole z) = false
  has_hole_spelling (words s) = contains_text hole_opening s
  has_hole_spelling (items ts) = items_have_spelling ts
  has_hole_spelling (members ms) = has_mark ms || members_have_spelling ms

  pub items_have_spelling : Trees → Bool
  items_have_spelling no_items = false
  items_have_spelling (item t ts) = has_hole_spelling t || items_have_spelling ts

  pub members_have_spelling : Members → Bool
  members_have_spelling no_members = false
  members_have_spelling (member k t ms) = has_hole_spelling t || members_have_spelling ms
