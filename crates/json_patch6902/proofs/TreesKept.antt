-- What an edit makes of a tree is a tree: each name once, in order, and each number in range.
use Rattle.std.proofs.Common.{◌≡◌, ℕ, zero, suc, List, [], ◌∷◌, Bool, true, false, ◌&&◌, Option, Some, None, Result, Ok, Err, Ordering, Less, Equal, Greater, refl, sym, ap, ◌∙◌, subst, if◌then◌else◌}
use Rattle.std.specs.Ordering.{is_lt, match_ordering, ordering_reverse}
use Rattle.std.specs.Prelude.{⊤, nat_le}
use Rattle.std.proofs.lemmas.Bool.{and_parts, and_from}
use Rattle.std.proofs.lemmas.Cmp.{nat_list_cmp_total}
use Rattle.spec_documents.specs.Tree.{Tree, null, truth, whole, words, items, members, Trees, no_items, item, Members, no_members, member, name_cmp, is_tree, is_ordered, are_ordered, are_members, before_first, has_range, items_have_range, members_have_range, get_item, set_item, insert_item, remove_item, count_items, get_member, set_member, put_member, drop_member}
use Rattle.spec_documents.specs.Place.{Pointer, Cause, no_place, found, ◌>>=◌, is_index, index_number, is_dash, no_item, child, at, put_child}
use Rattle.spec_documents.specs.Patch.{child_added, child_taken, added, removed}
use Rattle.spec_documents.proofs.TreeLemmas.{bind_ok, found_ok}
use Rattle.spec_documents.proofs.EditLemmas.{Edit, edit, adding, taking, replacing, added-edit, removed-edit, replaced-edit}
use Rattle.n32_values.proofs.Members.{flip}
use Rattle.json_patch6902.proofs.DepthLemmas.{child_item, inserted, edit_under}

-- ---- lists and members of trees

abbrev pub AllTrees : Trees → Type 0
AllTrees no_items = ⊤
AllTrees (item t ts) = (is_tree t ≡ true) × AllTrees ts

abbrev pub AllMembers : Members → Type 0
AllMembers no_members = ⊤
AllMembers (member k t ms) = (before_first k ms ≡ true) × (is_tree t ≡ true) × AllMembers ms

items_apart : (ts : Trees) → are_ordered ts ≡ true → items_have_range ts ≡ true → AllTrees ts
items_apart no_items o r = tt
items_apart (item t ts) o r =
    let p = and_parts (is_ordered t) _ o in
    let q = and_parts (has_range t) _ r in
    (and_from _ _ p.0 q.0, items_apart ts p.1 q.1)

pub of_items : (ts : Trees) → is_tree (items ts) ≡ true → AllTrees ts
of_items ts e = let p = and_parts (are_ordered ts) _ e in items_apart ts p.0 p.1

items_joined : (ts : Trees) → AllTrees ts → (are_ordered ts ≡ true) × (items_have_range ts ≡ true)
items_joined no_items h = (refl, refl)
items_joined (item t ts) h =
    let p = and_parts (is_ordered t) _ h.0 in
    let r = items_joined ts h.1 in
    (and_from _ _ p.0 r.0, and_from _ _ p.1 r.1)

pub to_items : (ts : Trees) → AllTrees ts → is_tree (items ts) ≡ true
to_items ts h = let r = items_joined ts h in and_from _ _ r.0 r.1

members_apart : (ms : Members) → are_members ms ≡ true → members_have_range ms ≡ true → AllMembers ms
members_apart no_members o r = tt
members_apart (member k t ms) o r =
    let p = and_parts (before_first k ms) _ o in
    let s = and_parts (is_ordered t) _ p.1 in
    let q = and_parts (has_range t) _ r in
    (p.0, and_from _ _ s.0 q.0, members_apart ms s.1 q.1)

pub of_members : (ms : Members) → is_tree (members ms) ≡ true → AllMembers ms
of_members ms e = let p = and_parts (are_members ms) _ e in members_apart ms p.0 p.1

members_joined : (ms : Members) → AllMembers ms → (are_members ms ≡ true) × (members_have_range ms ≡ true)
members_joined no_members h = (refl, refl)
members_joined (member k t ms) h =
    let p = and_parts (is_ordered t) _ h.1 in
    let r = members_joined ms h.2 in
    (and_from _ _ h.0 (and_from _ _ p.0 r.0), and_from _ _ p.1 r.1)

pub to_members : (ms : Members) → AllMembers ms → is_tree (members ms) ≡ true
to_members ms h = let r = members_joined ms h in and_from _ _ r.0 r.1

-- ---- lists

get-tree : (n : ℕ) (u : Tree) (ts : Trees) → AllTrees ts → get_item n ts ≡ Some u → is_tree u ≡ true
get-tree n u no_items h e = cc
get-tree zero u (item t ts) h e = let same : t ≡ u = cc in subst (λ s. is_tree s ≡ true) same h.0
get-tree (suc n) u (item t ts) h e = get-tree n u ts h.1 e

set-trees : (n : ℕ) (u : Tree) (ts : Trees) → is_tree u ≡ true → AllTrees ts → AllTrees (set_item n u ts)
set-trees n u no_items i h = tt
set-trees zero u (item t ts) i h = (i, h.1)
set-trees (suc n) u (item t ts) i h = (h.0, set-trees n u ts i h.1)

insert-trees : (n : ℕ) (u : Tree) (ts : Trees) → is_tree u ≡ true → AllTrees ts → AllTrees (insert_item n u ts)
insert-trees zero u ts i h = (i, h)
insert-trees (suc n) u no_items i h = (i, tt)
insert-trees (suc n) u (item t ts) i h = (h.0, insert-trees n u ts i h.1)

remove-trees : (n : ℕ) (ts : Trees) → AllTrees ts → AllTrees (remove_item n ts)
remove-trees n no_items h = tt
remove-trees zero (item t ts) h = h.1
remove-trees (suc n) (item t ts) h = (h.0, remove-trees n ts h.1)

-- ---- members

get_by : (o : Ordering) (m : Option Tree) (t u : Tree) → is_tree t ≡ true → (m ≡ Some u → is_tree u ≡ true) → match_ordering o m (Some t) m ≡ Some u → is_tree u ≡ true
get_by Less m t u i h e = h e
get_by Equal m t u i h e = let same : t ≡ u = cc in subst (λ s. is_tree s ≡ true) same i
get_by Greater m t u i h e = h e

get_member-tree : (k : List ℕ) (u : Tree) (ms : Members) → AllMembers ms → get_member k ms ≡ Some u → is_tree u ≡ true
get_member-tree k u no_members h e = cc
get_member-tree k u (member l t ms) h e = get_by (name_cmp k l) (get_member k ms) t u h.1 (get_member-tree k u ms h.2) e

pub below : (o : Ordering) → is_lt o ≡ true → o ≡ Less
below Less e = refl
below Equal e = cc
below Greater e = cc

-- a name before a name that comes before all is before all
pub before_on : (j l : List ℕ) (ms : Members) → is_lt (name_cmp j l) ≡ true → before_first l ms ≡ true → before_first j ms ≡ true
before_on j l no_members a b = refl
before_on j l (member m t ms) a b = ap is_lt (nat_list_cmp_total.trans j l m (below (name_cmp j l) a) (below (name_cmp l m) b))

before_put_by : (j k l : List ℕ) (t u : Tree) (ms ns : Members) (o : Ordering) → is_lt (name_cmp j k) ≡ true → is_lt (name_cmp j l) ≡ true
    → before_first j (match_ordering o (member k u (member l t ms)) (member l u ms) (member l t ns)) ≡ true
before_put_by j k l t u ms ns Less a b = a
before_put_by j k l t u ms ns Equal a b = b
before_put_by j k l t u ms ns Greater a b = b

before_put : (j k : List ℕ) (u : Tree) (ms : Members) → is_lt (name_cmp j k) ≡ true → before_first j ms ≡ true → before_first j (put_member k u ms) ≡ true
before_put j k u no_members a b = a
before_put j k u (member l t ms) a b = before_put_by j k l t u ms (put_member k u ms) (name_cmp k l) a b

after : (k l : List ℕ) → name_cmp k l ≡ Greater → is_lt (name_cmp l k) ≡ true
after k l e = ap is_lt (flip l k ∙ ap ordering_reverse e)

put_by : (k l : List ℕ) (t u : Tree) (ms : Members) (o : Ordering) → name_cmp k l ≡ o → is_tree u ≡ true → AllMembers (member l t ms) → AllMembers (put_member k u ms)
    → AllMembers (match_ordering o (member k u (member l t ms)) (member l u ms) (member l t (put_member k u ms)))
put_by k l t u ms Less e i h r = (ap is_lt e, i, h)
put_by k l t u ms Equal e i h r = (h.0, i, h.2)
put_by k l t u ms Greater e i h r = (before_put l k u ms (after k l e) h.0, h.1, r)

put-trees : (k : List ℕ) (u : Tree) (ms : Members) → is_tree u ≡ true → AllMembers ms → AllMembers (put_member k u ms)
put-trees k u no_members i h = (refl, i, tt)
put-trees k u (member l t ms) i h = put_by k l t u ms (name_cmp k l) refl i h (put-trees k u ms i h.2)

before_set_by : (j l : List ℕ) (t u : Tree) (ms ns : Members) (o : Ordering) → before_first j (match_ordering o (member l t ns) (member l u ms) (member l t ns)) ≡ is_lt (name_cmp j l)
before_set_by j l t u ms ns Less = refl
before_set_by j l t u ms ns Equal = refl
before_set_by j l t u ms ns Greater = refl

before_set : (j k : List ℕ) (u : Tree) (ms : Members) → before_first j (set_member k u ms) ≡ before_first j ms
before_set j k u no_members = refl
before_set j k u (member l t ms) = before_set_by j l t u ms (set_member k u ms) (name_cmp k l)

set_by : (l : List ℕ) (t u : Tree) (ms ns : Members) (o : Ordering) → is_tree u ≡ true → AllMembers (member l t ms) → AllMembers (member l t ns) → AllMembers (match_ordering o (member l t ns) (member l u ms) (member l t ns))
set_by l t u ms ns Less i h r = r
set_by l t u ms ns Equal i h r = (h.0, i, h.2)
set_by l t u ms ns Greater i h r = r

set_member-trees : (k : List ℕ) (u : Tree) (ms : Members) → is_tree u ≡ true → AllMembers ms → AllMembers (set_member k u ms)
set_member-trees k u no_members i h = tt
set_member-trees k u (member l t ms) i h =
    set_by l t u ms (set_member k u ms) (name_cmp k l) i h (before_set l k u ms ∙ h.0, h.1, set_member-trees k u ms i h.2)

before_drop_by : (j l : List ℕ) (t : Tree) (ms ns : Members) (o : Ordering) → is_lt (name_cmp j l) ≡ true → before_first j ms ≡ true → before_first j (match_ordering o (member l t ns) ms (member l t ns)) ≡ true
before_drop_by j l t ms ns Less a b = a
before_drop_by j l t ms ns Equal a b = b
before_drop_by j l t ms ns Greater a b = a

before_drop : (j k : List ℕ) (ms : Members) → AllMembers ms → before_first j ms ≡ true → before_first j (drop_member k ms) ≡ true
before_drop j k no_members h b = refl
before_drop j k (member l t ms) h b = before_drop_by j l t ms (drop_member k ms) (name_cmp k l) b (before_on j l ms b h.0)

drop_by : (l : List ℕ) (t : Tree) (ms ns : Members) (o : Ordering) → AllMembers ms → AllMembers (member l t ns) → AllMembers (match_ordering o (member l t ns) ms (member l t ns))
drop_by l t ms ns Less h r = r
drop_by l t ms ns Equal h r = h
drop_by l t ms ns Greater h r = r

drop-trees : (k : List ℕ) (ms : Members) → AllMembers ms → AllMembers (drop_member k ms)
drop-trees k no_members h = tt
drop-trees k (member l t ms) h = drop_by l t ms (drop_member k ms) (name_cmp k l) h.2 (before_drop l k ms h.2 h.0, h.1, drop-trees k ms h.2)

-- ---- a child

pub child-tree : (x : List ℕ) (c t : Tree) → is_tree t ≡ true → child x t ≡ Ok c → is_tree c ≡ true
child-tree x c null h e = cc
child-tree x c (truth b) h e = cc
child-tree x c (whole z) h e = cc
child-tree x c (words s) h e = cc
child-tree x c (items ts) h e = get-tree (index_number x) c ts (of_items ts h) (child_item x c ts e)
child-tree x c (members ms) h e = get_member-tree x c ms (of_members ms h) (found_ok (get_member x ms) no_place c e)

put_child-tree : (x : List ℕ) (d t : Tree) → is_tree t ≡ true → is_tree d ≡ true → is_tree (put_child x d t) ≡ true
put_child-tree x d null h i = h
put_child-tree x d (truth b) h i = h
put_child-tree x d (whole z) h i = h
put_child-tree x d (words s) h i = h
put_child-tree x d (items ts) h i = to_items (set_item (index_number x) d ts) (set-trees (index_number x) d ts i (of_items ts h))
put_child-tree x d (members ms) h i = to_members (set_member x d ms) (set_member-trees x d ms i (of_members ms h))

adding-tree : (v : Tree) → is_tree v ≡ true → (x : List ℕ) (t w : Tree) → is_tree t ≡ true → adding v x t ≡ Ok w → is_tree w ≡ true
adding-tree v i x null w h e = cc
adding-tree v i x (truth b) w h e = cc
adding-tree v i x (whole z) w h e = cc
adding-tree v i x (words s) w h e = cc
adding-tree v i x (items ts) w h e =
    let g = inserted (is_dash x) (is_index x && nat_le (index_number x) (count_items ts)) (count_items ts) (index_number x) v ts (no_item x) w e in
    subst (λ s. is_tree s ≡ true) (sym g.1) (to_items (insert_item g.0 v ts) (insert-trees g.0 v ts i (of_items ts h)))
adding-tree v i x (members ms) w h e =
    let same : members (put_member x v ms) ≡ w = cc in
    subst (λ s. is_tree s ≡ true) same (to_members (put_member x v ms) (put-trees x v ms i (of_members ms h)))

child_taken-tree : (x : List ℕ) (t : Tree) → is_tree t ≡ true → is_tree (child_taken x t) ≡ true
child_taken-tree x null h = h
child_taken-tree x (truth b) h = h
child_taken-tree x (whole z) h = h
child_taken-tree x (words s) h = h
child_taken-tree x (items ts) h = to_items (remove_item (index_number x) ts) (remove-trees (index_number x) ts (of_items ts h))
child_taken-tree x (members ms) h = to_members (drop_member x ms) (drop-trees x ms (of_members ms h))

taking-tree : (x : List ℕ) (t w : Tree) → is_tree t ≡ true → taking x t ≡ Ok w → is_tree w ≡ true
taking-tree x t w h e =
    let g = bind_ok (child x t) (λ c. Ok (child_taken x t)) w e in
    let same : child_taken x t ≡ w = cc in subst (λ s. is_tree s ≡ true) same (child_taken-tree x t h)

replacing-tree : (v : Tree) → is_tree v ≡ true → (x : List ℕ) (t w : Tree) → is_tree t ≡ true → replacing v x t ≡ Ok w → is_tree w ≡ true
replacing-tree v i x t w h e =
    let g = bind_ok (child x t) (λ c. Ok (put_child x v t)) w e in
    let same : put_child x v t ≡ w = cc in subst (λ s. is_tree s ≡ true) same (put_child-tree x v t h i)

-- ---- at a place

edit-tree : (f : Edit) → ((x : List ℕ) (t w : Tree) → is_tree t ≡ true → f x t ≡ Ok w → is_tree w ≡ true) → (p : Pointer) (t w : Tree) → is_tree t ≡ true → edit f p t ≡ Ok w → is_tree w ≡ true
edit-tree f l [] t w h e = cc
edit-tree f l (x ∷ []) t w h e = l x t w h e
edit-tree f l (x ∷ y ∷ p) t w h e =
    let g = edit_under f x y p t w e in
    let c = child-tree x g.0 t h g.1 in
    subst (λ s. is_tree s ≡ true) g.4 (put_child-tree x g.2 t h (edit-tree f l (y ∷ p) g.0 g.2 c g.3))

pub added-tree : (p : Pointer) (v t w : Tree) → is_tree v ≡ true → is_tree t ≡ true → added p v t ≡ Ok w → is_tree w ≡ true
added-tree [] v t w i h e = let same : v ≡ w = cc in subst (λ s. is_tree s ≡ true) same i
added-tree (x ∷ p) v t w i h e = edit-tree (adding v) (adding-tree v i) (x ∷ p) t w h (subst (λ r. r ≡ Ok w) (added-edit x p v t) e)

pub removed-tree : (p : Pointer) (t w : Tree) → is_tree t ≡ true → removed p t ≡ Ok w → is_tree w ≡ true
removed-tree [] t w h e = cc
removed-tree (x ∷ p) t w h e = edit-tree taking taking-tree (x ∷ p) t w h (subst (λ r. r ≡ Ok w) (removed-edit x p t) e)

pub replaced-tree : (x : List ℕ) (p : Pointer) (v t w : Tree) → is_tree v ≡ true → is_tree t ≡ true → edit (replacing v) (x ∷ p) t ≡ Ok w → is_tree w ≡ true
replaced-tree x p v t w i h e = edit-tree (replacing v) (replacing-tree v i) (x ∷ p) t w h e

-- what stands at a place is a tree
pub at-tree : (p : Pointer) (t u : Tree) → is_tree t ≡ true → at t p ≡ Ok u → is_tree u ≡ true
at-tree [] t u h e = let same : t ≡ u = cc in subst (λ s. is_tree s ≡ true) same h
at-tree (x ∷ p) t u h e =
    let g = bind_ok (child x t) (λ c. at c p) u e in
    at-tree p g.0 u (child-tree x g.0 t h g.1) g.2
