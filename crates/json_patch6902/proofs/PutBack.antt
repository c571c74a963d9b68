-- What was taken out and is added at the same place again: the tree is as it was.
use Rattle.std.proofs.Common.{◌≡◌, ℕ, zero, suc, ◌≤◌, List, [], ◌∷◌, Bool, true, false, ◌&&◌, Option, Some, None, Result, Ok, Err, Ordering, Less, Equal, Greater, refl, sym, ap, ◌∙◌, subst, if◌then◌else◌, arith}
use Rattle.std.specs.Ordering.{is_lt, match_ordering}
use Rattle.std.specs.Prelude.{nat_le, bytes_eq}
use Rattle.std.proofs.lemmas.Bool.{le-leb}
use Rattle.std.proofs.lemmas.Slice.Eq.{bytes_eq-Decides}
use Rattle.spec_documents.specs.Tree.{Tree, null, truth, whole, words, items, members, Trees, no_items, item, Members, no_members, member, name_cmp, is_tree, before_first, get_item, set_item, insert_item, remove_item, count_items, get_member, set_member, put_member, drop_member}
use Rattle.spec_documents.specs.Place.{Pointer, Cause, no_place, found, ◌>>=◌, is_index, index_number, is_dash, no_item, child, at, put_child}
use Rattle.spec_documents.specs.Patch.{child_added, child_taken, added, removed}
use Rattle.spec_documents.proofs.TreeLemmas.{same_name, bind_ok, found_ok, chosen_ok, child-put_child}
use Rattle.spec_documents.proofs.ApartLemmas.{set-set, set-same}
use Rattle.spec_documents.proofs.EditLemmas.{Edit, edit, adding, taking, added-edit, removed-edit}
use Rattle.json_patch6902.proofs.DepthLemmas.{child_item, edit_under}
use Rattle.json_patch6902.proofs.TreesKept.{AllMembers, of_members, below, before_on, child-tree}

-- ---- lists

insert-removed : (n : ℕ) (u : Tree) (ts : Trees) → get_item n ts ≡ Some u → insert_item n u (remove_item n ts) ≡ ts
insert-removed n u no_items e = cc
insert-removed zero u (item t ts) e = let same : t ≡ u = cc in ap (λ s. item s ts) (sym same)
insert-removed (suc n) u (item t ts) e = ap (item t) (insert-removed n u ts e)

room_left : (n : ℕ) (u : Tree) (ts : Trees) → get_item n ts ≡ Some u → n ≤ count_items (remove_item n ts)
room_left n u no_items e = cc
room_left zero u (item t ts) e = omega arith
room_left (suc n) u (item t ts) e = omega (arith, room_left n u ts e)

room : (n : ℕ) (u : Tree) (ts : Trees) → get_item n ts ≡ Some u → nat_le n (count_items (remove_item n ts)) ≡ true
room n u ts e = le-leb n (count_items (remove_item n ts)) (room_left n u ts e)

set-set_item : (n : ℕ) (u v : Tree) (ts : Trees) → set_item n u (set_item n v ts) ≡ set_item n u ts
set-set_item n u v no_items = refl
set-set_item zero u v (item t ts) = refl
set-set_item (suc n) u v (item t ts) = ap (item t) (set-set_item n u v ts)

set-same_item : (n : ℕ) (u : Tree) (ts : Trees) → get_item n ts ≡ Some u → set_item n u ts ≡ ts
set-same_item n u no_items e = cc
set-same_item zero u (item t ts) e = let same : t ≡ u = cc in ap (λ s. item s ts) (sym same)
set-same_item (suc n) u (item t ts) e = ap (item t) (set-same_item n u ts e)

-- ---- members

none_by : (k l : List ℕ) (t : Tree) (ms : Members) (o : Ordering) → o ≡ Less → get_member k ms ≡ None → match_ordering o (get_member k ms) (Some t) (get_member k ms) ≡ None
none_by k l t ms Less e h = h
none_by k l t ms Equal e h = cc
none_by k l t ms Greater e h = cc

-- a name that comes before all is not there
none_before : (k : List ℕ) (ms : Members) → AllMembers ms → before_first k ms ≡ true → get_member k ms ≡ None
none_before k no_members h b = refl
none_before k (member l t ms) h b = none_by k l t ms (name_cmp k l) (below (name_cmp k l) b) (none_before k ms h.2 (before_on k l ms b h.0))

front_by : (k l : List ℕ) (t u : Tree) (ms ns : Members) (o : Ordering) → o ≡ Less → match_ordering o (member k u (member l t ms)) (member l u ms) (member l t ns) ≡ member k u (member l t ms)
front_by k l t u ms ns Less e = refl
front_by k l t u ms ns Equal e = cc
front_by k l t u ms ns Greater e = cc

put_front : (k : List ℕ) (u : Tree) (ms : Members) → before_first k ms ≡ true → put_member k u ms ≡ member k u ms
put_front k u no_members b = refl
put_front k u (member l t ms) b = front_by k l t u ms (put_member k u ms) (name_cmp k l) (below (name_cmp k l) b)

put_dropped_by : (k l : List ℕ) (t u : Tree) (ms : Members) (o : Ordering) → name_cmp k l ≡ o → AllMembers (member l t ms) → match_ordering o (get_member k ms) (Some t) (get_member k ms) ≡ Some u
    → (get_member k ms ≡ Some u → put_member k u (drop_member k ms) ≡ ms) → put_member k u (match_ordering o (member l t (drop_member k ms)) ms (member l t (drop_member k ms))) ≡ member l t ms
put_dropped_by k l t u ms Less c h e more =
    let none = none_before k ms h.2 (before_on k l ms (ap is_lt c) h.0) in cc
put_dropped_by k l t u ms Equal c h e more =
    let same : t ≡ u = cc in
    let name : k ≡ l = same_name k l c in
    put_front k u ms (subst (λ j. before_first j ms ≡ true) (sym name) h.0) ∙ (λ i. member (name i) (sym same i) ms)
put_dropped_by k l t u ms Greater c h e more = rw c (ap (member l t) (more e))

put-dropped : (k : List ℕ) (u : Tree) (ms : Members) → AllMembers ms → get_member k ms ≡ Some u → put_member k u (drop_member k ms) ≡ ms
put-dropped k u no_members h e = cc
put-dropped k u (member l t ms) h e = put_dropped_by k l t u ms (name_cmp k l) refl h e (put-dropped k u ms h.2)

-- ---- a child

pub index_alone : (x : List ℕ) → is_index x ≡ true → is_dash x ≡ false
index_alone x e = by (is_dash x) refl
  where
    by : (b : Bool) → is_dash x ≡ b → b ≡ false
    by false d = refl
    by true d =
        let same : x ≡ 45 ∷ [] = (bytes_eq-Decides x (45 ∷ [])).0 d in
        let no : is_index (45 ∷ []) ≡ true = subst (λ y. is_index y ≡ true) same e in cc

pub chosen_item : (d b c : Bool) (r s e : Result Tree Cause) → d ≡ false → b ≡ true → c ≡ true → (if d then r else (if b && c then s else e)) ≡ s
chosen_item false true true r s e p q o = refl
chosen_item true b c r s e p q o = cc
chosen_item false false c r s e p q o = cc
chosen_item false true false r s e p q o = cc

index_of_child : (x : List ℕ) (u : Tree) (ts : Trees) → child x (items ts) ≡ Ok u → is_index x ≡ true
index_of_child x u ts e = (chosen_ok (is_index x) (found (get_item (index_number x) ts) no_place) (Err (no_item x)) u (no_item x) refl e).0

back-child : (x : List ℕ) (u t : Tree) → is_tree t ≡ true → child x t ≡ Ok u → child_added x u (child_taken x t) ≡ Ok t
back-child x u null h e = cc
back-child x u (truth b) h e = cc
back-child x u (whole z) h e = cc
back-child x u (words s) h e = cc
back-child x u (items ts) h e =
    let on = index_of_child x u ts e in
    let there = child_item x u ts e in
    chosen_item (is_dash x) (is_index x) (nat_le (index_number x) (count_items (remove_item (index_number x) ts))) _ _ _ (index_alone x on) on (room (index_number x) u ts there)
    ∙ ap (λ us. Ok (items us)) (insert-removed (index_number x) u ts there)
back-child x u (members ms) h e = ap (λ ns. Ok (members ns)) (put-dropped x u ms (of_members ms h) (found_ok (get_member x ms) no_place u e))

put-put : (x : List ℕ) (c d t : Tree) → child x t ≡ Ok c → put_child x c (put_child x d t) ≡ t
put-put x c d null e = cc
put-put x c d (truth b) e = cc
put-put x c d (whole z) e = cc
put-put x c d (words s) e = cc
put-put x c d (items ts) e = ap items (set-set_item (index_number x) c d ts ∙ set-same_item (index_number x) c ts (child_item x c ts e))
put-put x c d (members ms) e = ap members (set-set x c d ms ∙ set-same x c ms (found_ok (get_member x ms) no_place c e))

-- ---- at a place

edit_step : (f : Edit) (x y : List ℕ) (p : Pointer) (t c d : Tree) → child x t ≡ Ok c → edit f (y ∷ p) c ≡ Ok d → edit f (x ∷ y ∷ p) t ≡ Ok (put_child x d t)
edit_step f x y p t c d e h = rw (e, h) refl

at_under : (x : List ℕ) (p : Pointer) (t c u : Tree) → child x t ≡ Ok c → at t (x ∷ p) ≡ Ok u → at c p ≡ Ok u
at_under x p t c u e h = sym (ap (λ r. r >>= λ d. at d p) e) ∙ h

back-edit : (p : Pointer) (t w u : Tree) → is_tree t ≡ true → at t p ≡ Ok u → edit taking p t ≡ Ok w → edit (adding u) p w ≡ Ok t
back-edit [] t w u h a e = cc
back-edit (x ∷ []) t w u h a e =
    let k = bind_ok (child x t) (λ c. Ok (child_taken x t)) w e in
    let is : child_taken x t ≡ w = cc in
    let there : child x t ≡ Ok u = k.1 ∙ at_under x [] t k.0 u k.1 a in
    subst (λ s. child_added x u s ≡ Ok t) is (back-child x u t h there)
back-edit (x ∷ y ∷ p) t w u h a e =
    let g = edit_under taking x y p t w e in
    let back = back-edit (y ∷ p) g.0 g.2 u (child-tree x g.0 t h g.1) (at_under x (y ∷ p) t g.0 u g.1 a) g.3 in
    subst (λ s. edit (adding u) (x ∷ y ∷ p) s ≡ Ok t) g.4
    (edit_step (adding u) x y p (put_child x g.2 t) g.2 g.0 (child-put_child x g.2 g.0 t g.1) back ∙ ap Ok (put-put x g.0 g.2 t g.1))

pub put-back : (p : Pointer) (t w u : Tree) → is_tree t ≡ true → at t p ≡ Ok u → removed p t ≡ Ok w → added p u w ≡ Ok t
put-back [] t w u h a e = cc
put-back (x ∷ p) t w u h a e =
    added-edit x p u w ∙ back-edit (x ∷ p) t w u h a (subst (λ r. r ≡ Ok w) (removed-edit x p t) e)

pub put-same : (x : List ℕ) (c t : Tree) → child x t ≡ Ok c → put_child x c t ≡ t
put-same x c null e = refl
put-same x c (truth b) e = refl
put-same x c (whole z) e = refl
put-same x c (words s) e = refl
put-same x c (items ts) e = ap items (set-same_item (index_number x) c ts (child_item x c ts e))
put-same x c (members ms) e = ap members (set-same x c ms (found_ok (get_member x ms) no_place c e))
