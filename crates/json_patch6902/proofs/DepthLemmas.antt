-- How deep a tree nests after an edit.
use Rattle.std.proofs.Common.{◌≡◌, ℕ, zero, suc, ◌+◌, ◌≤◌, max, List, [], ◌∷◌, length, Bool, true, false, ◌&&◌, Option, Some, None, Result, Ok, Err, Ordering, Less, Equal, Greater, refl, sym, ap, subst, if◌then◌else◌, arith}
use Rattle.std.specs.Ordering.{match_ordering}
use Rattle.std.specs.Prelude.{nat_le}
use Rattle.spec_documents.specs.Tree.{Tree, null, truth, whole, words, items, members, Trees, no_items, item, Members, no_members, member, name_cmp, depth, items_depth, members_depth, get_item, set_item, insert_item, remove_item, count_items, get_member, set_member, put_member, drop_member}
use Rattle.spec_documents.specs.Place.{Pointer, Cause, no_place, found, ◌>>=◌, is_index, index_number, is_dash, no_item, child, put_child}
use Rattle.spec_documents.specs.Patch.{child_added, child_taken, added, removed}
use Rattle.spec_documents.proofs.TreeLemmas.{bind_ok, found_ok, chosen_ok}
use Rattle.spec_documents.proofs.EditLemmas.{Edit, edit, adding, taking, replacing, added-edit, removed-edit, replaced-edit}

-- ---- lists

get_item-depth : (n : ℕ) (u : Tree) (ts : Trees) → get_item n ts ≡ Some u → depth u ≤ items_depth ts
get_item-depth n u no_items e = cc
get_item-depth zero u (item t ts) e = let same : t ≡ u = cc in omega (arith, ap depth same)
get_item-depth (suc n) u (item t ts) e = omega (arith, get_item-depth n u ts e)

set_item-depth : (n : ℕ) (u : Tree) (ts : Trees) → items_depth (set_item n u ts) ≤ max (items_depth ts) (depth u)
set_item-depth n u no_items = omega arith
set_item-depth zero u (item t ts) = omega arith
set_item-depth (suc n) u (item t ts) = omega (arith, set_item-depth n u ts)

set_item-deep : (n : ℕ) (c u : Tree) (ts : Trees) → get_item n ts ≡ Some c → depth u ≤ items_depth (set_item n u ts)
set_item-deep n c u no_items e = cc
set_item-deep zero c u (item t ts) e = omega arith
set_item-deep (suc n) c u (item t ts) e = omega (arith, set_item-deep n c u ts e)

insert_item-depth : (n : ℕ) (u : Tree) (ts : Trees) → items_depth (insert_item n u ts) ≤ max (items_depth ts) (depth u)
insert_item-depth zero u ts = omega arith
insert_item-depth (suc n) u no_items = omega arith
insert_item-depth (suc n) u (item t ts) = omega (arith, insert_item-depth n u ts)

insert_item-deep : (n : ℕ) (u : Tree) (ts : Trees) → depth u ≤ items_depth (insert_item n u ts)
insert_item-deep zero u ts = omega arith
insert_item-deep (suc n) u no_items = omega arith
insert_item-deep (suc n) u (item t ts) = omega (arith, insert_item-deep n u ts)

remove_item-depth : (n : ℕ) (ts : Trees) → items_depth (remove_item n ts) ≤ items_depth ts
remove_item-depth n no_items = omega arith
remove_item-depth zero (item t ts) = omega arith
remove_item-depth (suc n) (item t ts) = omega (arith, remove_item-depth n ts)

-- ---- members

get_chosen : (o : Ordering) (m : Option Tree) (t u : Tree) (d : ℕ) → (m ≡ Some u → depth u ≤ d) → match_ordering o m (Some t) m ≡ Some u → depth u ≤ max (depth t) d
get_chosen Less m t u d h e = omega (arith, h e)
get_chosen Equal m t u d h e = let same : t ≡ u = cc in omega (arith, ap depth same)
get_chosen Greater m t u d h e = omega (arith, h e)

get_member-depth : (k : List ℕ) (u : Tree) (ms : Members) → get_member k ms ≡ Some u → depth u ≤ members_depth ms
get_member-depth k u no_members e = cc
get_member-depth k u (member l t ms) e = get_chosen (name_cmp k l) (get_member k ms) t u (members_depth ms) (get_member-depth k u ms) e

set_chosen : (o : Ordering) (l : List ℕ) (t u : Tree) (ms ns : Members) → members_depth ns ≤ max (members_depth ms) (depth u)
    → members_depth (match_ordering o (member l t ns) (member l u ms) (member l t ns)) ≤ max (max (depth t) (members_depth ms)) (depth u)
set_chosen Less l t u ms ns h = omega arith
set_chosen Equal l t u ms ns h = omega arith
set_chosen Greater l t u ms ns h = omega arith

set_member-depth : (k : List ℕ) (u : Tree) (ms : Members) → members_depth (set_member k u ms) ≤ max (members_depth ms) (depth u)
set_member-depth k u no_members = omega arith
set_member-depth k u (member l t ms) = set_chosen (name_cmp k l) l t u ms (set_member k u ms) (set_member-depth k u ms)

set_chosen_deep : (o : Ordering) (l : List ℕ) (t c u : Tree) (m : Option Tree) (ms ns : Members) → (m ≡ Some c → depth u ≤ members_depth ns) → match_ordering o m (Some t) m ≡ Some c
    → depth u ≤ members_depth (match_ordering o (member l t ns) (member l u ms) (member l t ns))
set_chosen_deep Less l t c u m ms ns h e = omega (arith, h e)
set_chosen_deep Equal l t c u m ms ns h e = omega arith
set_chosen_deep Greater l t c u m ms ns h e = omega (arith, h e)

set_member-deep : (k : List ℕ) (c u : Tree) (ms : Members) → get_member k ms ≡ Some c → depth u ≤ members_depth (set_member k u ms)
set_member-deep k c u no_members e = cc
set_member-deep k c u (member l t ms) e = set_chosen_deep (name_cmp k l) l t c u (get_member k ms) ms (set_member k u ms) (set_member-deep k c u ms) e

put_chosen : (o : Ordering) (k l : List ℕ) (t u : Tree) (ms ns : Members) → members_depth ns ≤ max (members_depth ms) (depth u)
    → members_depth (match_ordering o (member k u (member l t ms)) (member l u ms) (member l t ns)) ≤ max (max (depth t) (members_depth ms)) (depth u)
put_chosen Less k l t u ms ns h = omega arith
put_chosen Equal k l t u ms ns h = omega arith
put_chosen Greater k l t u ms ns h = omega arith

put_member-depth : (k : List ℕ) (u : Tree) (ms : Members) → members_depth (put_member k u ms) ≤ max (members_depth ms) (depth u)
put_member-depth k u no_members = omega arith
put_member-depth k u (member l t ms) = put_chosen (name_cmp k l) k l t u ms (put_member k u ms) (put_member-depth k u ms)

put_chosen_deep : (o : Ordering) (k l : List ℕ) (t u : Tree) (ms ns : Members) → depth u ≤ members_depth ns
    → depth u ≤ members_depth (match_ordering o (member k u (member l t ms)) (member l u ms) (member l t ns))
put_chosen_deep Less k l t u ms ns h = omega arith
put_chosen_deep Equal k l t u ms ns h = omega arith
put_chosen_deep Greater k l t u ms ns h = omega arith

put_member-deep : (k : List ℕ) (u : Tree) (ms : Members) → depth u ≤ members_depth (put_member k u ms)
put_member-deep k u no_members = omega arith
put_member-deep k u (member l t ms) = put_chosen_deep (name_cmp k l) k l t u ms (put_member k u ms) (put_member-deep k u ms)

drop_chosen : (o : Ordering) (l : List ℕ) (t : Tree) (ms ns : Members) → members_depth ns ≤ members_depth ms
    → members_depth (match_ordering o (member l t ns) ms (member l t ns)) ≤ max (depth t) (members_depth ms)
drop_chosen Less l t ms ns h = omega arith
drop_chosen Equal l t ms ns h = omega arith
drop_chosen Greater l t ms ns h = omega arith

drop_member-depth : (k : List ℕ) (ms : Members) → members_depth (drop_member k ms) ≤ members_depth ms
drop_member-depth k no_members = omega arith
drop_member-depth k (member l t ms) = drop_chosen (name_cmp k l) l t ms (drop_member k ms) (drop_member-depth k ms)

-- ---- a child

pub child_item : (x : List ℕ) (u : Tree) (ts : Trees) → child x (items ts) ≡ Ok u → get_item (index_number x) ts ≡ Some u
child_item x u ts e =
    let p = chosen_ok (is_index x) (found (get_item (index_number x) ts) no_place) (Err (no_item x)) u (no_item x) refl e in
    found_ok (get_item (index_number x) ts) no_place u p.1

pub child-depth : (x : List ℕ) (c t : Tree) → child x t ≡ Ok c → suc (depth c) ≤ depth t
child-depth x c null e = cc
child-depth x c (truth b) e = cc
child-depth x c (whole z) e = cc
child-depth x c (words s) e = cc
child-depth x c (items ts) e = omega (arith, get_item-depth (index_number x) c ts (child_item x c ts e))
child-depth x c (members ms) e = omega (arith, get_member-depth x c ms (found_ok (get_member x ms) no_place c e))

pub put_child-depth : (x : List ℕ) (d t : Tree) → depth (put_child x d t) ≤ max (depth t) (suc (depth d))
put_child-depth x d null = omega arith
put_child-depth x d (truth b) = omega arith
put_child-depth x d (whole z) = omega arith
put_child-depth x d (words s) = omega arith
put_child-depth x d (items ts) = omega (arith, set_item-depth (index_number x) d ts)
put_child-depth x d (members ms) = omega (arith, set_member-depth x d ms)

pub put_child-deep : (x : List ℕ) (c d t : Tree) → child x t ≡ Ok c → suc (depth d) ≤ depth (put_child x d t)
put_child-deep x c d null e = cc
put_child-deep x c d (truth b) e = cc
put_child-deep x c d (whole z) e = cc
put_child-deep x c d (words s) e = cc
put_child-deep x c d (items ts) e = omega (arith, set_item-deep (index_number x) c d ts (child_item x c ts e))
put_child-deep x c d (members ms) e = omega (arith, set_member-deep x c d ms (found_ok (get_member x ms) no_place c e))

-- ---- what is done to a child

-- the list that is made by an insertion, at either place
pub inserted : (d b : Bool) (m n : ℕ) (v : Tree) (ts : Trees) (why : Cause) (w : Tree)
    → (if d then Ok (items (insert_item m v ts)) else (if b then Ok (items (insert_item n v ts)) else Err why)) ≡ Ok w → (i : ℕ) × (w ≡ items (insert_item i v ts))
inserted true b m n v ts why w e = (m, cc)
inserted false true m n v ts why w e = (n, cc)
inserted false false m n v ts why w e = cc

adding-depth : (v : Tree) (x : List ℕ) (t w : Tree) → adding v x t ≡ Ok w → depth w ≤ max (depth t) (suc (depth v))
adding-depth v x null w e = cc
adding-depth v x (truth b) w e = cc
adding-depth v x (whole z) w e = cc
adding-depth v x (words s) w e = cc
adding-depth v x (items ts) w e =
    let i = inserted (is_dash x) (is_index x && nat_le (index_number x) (count_items ts)) (count_items ts) (index_number x) v ts (no_item x) w e in
    omega (arith, ap depth i.1, insert_item-depth i.0 v ts)
adding-depth v x (members ms) w e = let same : members (put_member x v ms) ≡ w = cc in omega (arith, ap depth same, put_member-depth x v ms)

adding-deep : (v : Tree) (x : List ℕ) (t w : Tree) → adding v x t ≡ Ok w → suc (depth v) ≤ depth w
adding-deep v x null w e = cc
adding-deep v x (truth b) w e = cc
adding-deep v x (whole z) w e = cc
adding-deep v x (words s) w e = cc
adding-deep v x (items ts) w e =
    let i = inserted (is_dash x) (is_index x && nat_le (index_number x) (count_items ts)) (count_items ts) (index_number x) v ts (no_item x) w e in
    omega (arith, ap depth i.1, insert_item-deep i.0 v ts)
adding-deep v x (members ms) w e = let same : members (put_member x v ms) ≡ w = cc in omega (arith, ap depth same, put_member-deep x v ms)

child_taken-depth : (x : List ℕ) (t : Tree) → depth (child_taken x t) ≤ depth t
child_taken-depth x null = omega arith
child_taken-depth x (truth b) = omega arith
child_taken-depth x (whole z) = omega arith
child_taken-depth x (words s) = omega arith
child_taken-depth x (items ts) = omega (arith, remove_item-depth (index_number x) ts)
child_taken-depth x (members ms) = omega (arith, drop_member-depth x ms)

taking-depth : (x : List ℕ) (t w : Tree) → taking x t ≡ Ok w → depth w ≤ depth t
taking-depth x t w e =
    let h = bind_ok (child x t) (λ c. Ok (child_taken x t)) w e in
    let same : child_taken x t ≡ w = cc in omega (arith, ap depth same, child_taken-depth x t)

replacing-depth : (v : Tree) (x : List ℕ) (t w : Tree) → replacing v x t ≡ Ok w → depth w ≤ max (depth t) (suc (depth v))
replacing-depth v x t w e =
    let h = bind_ok (child x t) (λ c. Ok (put_child x v t)) w e in
    let same : put_child x v t ≡ w = cc in omega (arith, ap depth same, put_child-depth x v t)

replacing-deep : (v : Tree) (x : List ℕ) (t w : Tree) → replacing v x t ≡ Ok w → suc (depth v) ≤ depth w
replacing-deep v x t w e =
    let h = bind_ok (child x t) (λ c. Ok (put_child x v t)) w e in
    let same : put_child x v t ≡ w = cc in omega (arith, ap depth same, put_child-deep x h.0 v t h.1)

-- ---- at a place

-- an edit beneath a child
pub edit_under : (f : Edit) (x y : List ℕ) (p : Pointer) (t w : Tree) → edit f (x ∷ y ∷ p) t ≡ Ok w → (c : Tree) × (child x t ≡ Ok c) × (d : Tree) × (edit f (y ∷ p) c ≡ Ok d) × (put_child x d t ≡ w)
edit_under f x y p t w e =
    let h = bind_ok (child x t) (λ c. edit f (y ∷ p) c >>= λ d. Ok (put_child x d t)) w e in
    let g = bind_ok (edit f (y ∷ p) h.0) (λ d. Ok (put_child x d t)) w h.2 in
    (h.0, h.1, g.0, g.1, cc)

edit-depth : (f : Edit) (n : ℕ) → ((x : List ℕ) (t w : Tree) → f x t ≡ Ok w → depth w ≤ max (depth t) (suc n)) → (p : Pointer) (t w : Tree) → edit f p t ≡ Ok w → depth w ≤ max (depth t) (length p + n)
edit-depth f n l [] t w e = cc
edit-depth f n l (x ∷ []) t w e = omega (arith, l x t w e)
edit-depth f n l (x ∷ y ∷ p) t w e =
    let h = edit_under f x y p t w e in
    omega (arith, ap depth h.4, put_child-depth x h.2 t, child-depth x h.0 t h.1, edit-depth f n l (y ∷ p) h.0 h.2 h.3)

edit-deep : (f : Edit) (n : ℕ) → ((x : List ℕ) (t w : Tree) → f x t ≡ Ok w → suc n ≤ depth w) → (p : Pointer) (t w : Tree) → edit f p t ≡ Ok w → length p + n ≤ depth w
edit-deep f n l [] t w e = cc
edit-deep f n l (x ∷ []) t w e = omega (arith, l x t w e)
edit-deep f n l (x ∷ y ∷ p) t w e =
    let h = edit_under f x y p t w e in
    omega (arith, ap depth h.4, put_child-deep x h.0 h.2 t h.1, edit-deep f n l (y ∷ p) h.0 h.2 h.3)

edit-no_deeper : (f : Edit) → ((x : List ℕ) (t w : Tree) → f x t ≡ Ok w → depth w ≤ depth t) → (p : Pointer) (t w : Tree) → edit f p t ≡ Ok w → depth w ≤ depth t
edit-no_deeper f l [] t w e = cc
edit-no_deeper f l (x ∷ []) t w e = l x t w e
edit-no_deeper f l (x ∷ y ∷ p) t w e =
    let h = edit_under f x y p t w e in
    omega (arith, ap depth h.4, put_child-depth x h.2 t, child-depth x h.0 t h.1, edit-no_deeper f l (y ∷ p) h.0 h.2 h.3)

-- ---- the kinds

pub added-depth : (p : Pointer) (v t w : Tree) → added p v t ≡ Ok w → depth w ≤ max (depth t) (length p + depth v)
added-depth [] v t w e = let same : v ≡ w = cc in omega (arith, ap depth same)
added-depth (x ∷ p) v t w e = edit-depth (adding v) (depth v) (adding-depth v) (x ∷ p) t w (subst (λ r. r ≡ Ok w) (added-edit x p v t) e)

pub added-deep : (p : Pointer) (v t w : Tree) → added p v t ≡ Ok w → length p + depth v ≤ depth w
added-deep [] v t w e = let same : v ≡ w = cc in omega (arith, ap depth same)
added-deep (x ∷ p) v t w e = edit-deep (adding v) (depth v) (adding-deep v) (x ∷ p) t w (subst (λ r. r ≡ Ok w) (added-edit x p v t) e)

pub removed-depth : (p : Pointer) (t w : Tree) → removed p t ≡ Ok w → depth w ≤ depth t
removed-depth [] t w e = cc
removed-depth (x ∷ p) t w e = edit-no_deeper taking taking-depth (x ∷ p) t w (subst (λ r. r ≡ Ok w) (removed-edit x p t) e)

pub replaced-depth : (x : List ℕ) (p : Pointer) (v t w : Tree) → edit (replacing v) (x ∷ p) t ≡ Ok w → depth w ≤ max (depth t) (length (x ∷ p) + depth v)
replaced-depth x p v t w e = edit-depth (replacing v) (depth v) (replacing-depth v) (x ∷ p) t w e

pub replaced-deep : (x : List ℕ) (p : Pointer) (v t w : Tree) → edit (replacing v) (x ∷ p) t ≡ Ok w → length (x ∷ p) + depth v ≤ depth w
replaced-deep x p v t w e = edit-deep (replacing v) (depth v) (replacing-deep v) (x ∷ p) t w e
