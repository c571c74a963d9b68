-- What the operations come to, by their parts.
use Rattle.std.proofs.Common.{◌≡◌, ℕ, zero, suc, ◌+◌, ◌<◌, ◌≤◌, max, List, [], ◌∷◌, length, Bool, true, false, ◌&&◌, Result, Ok, Err, refl, sym, ap, ◌∙◌, subst, ⊎_elim, if◌then◌else◌, arith}
use Rattle.std.proofs.lemmas.Bool.{le-leb, lt-leb, leb-true, ltb-true, lt-ltb, cases_lt}
use Rattle.std.proofs.lemmas.Bool.Decides.{Decides-int_eq}
use Rattle.std.proofs.lemmas.Slice.Eq.{bytes_eq-Decides}
use Rattle.std.specs.Prelude.{⊤, IsTrue, ◌↔◌, nat_le, nat_lt, bytes_eq}
use Rattle.std.specs.Ordering.{int_eq}
use Rattle.spec_documents.specs.Tree.{Tree, null, truth, whole, words, items, members, Trees, no_items, item, Members, no_members, member, depth, is_tree, same_truth, same_tree, same_items, same_members}
use Rattle.spec_documents.specs.Place.{Pointer, Cause, no_place, test_failed, into_itself, too_deep, ◌>>=◌, child, at, with, is_prefix, is_beneath}
use Rattle.spec_documents.specs.Patch as spec
use Rattle.spec_documents.specs.Patch.{added, removed, edited, within_depth, patched}
use Rattle.spec_documents.proofs.TreeLemmas.{bind_ok}
use Rattle.spec_documents.proofs.EditLemmas.{edit, adding, taking, replacing, added-edit, removed-edit, replaced-edit}
use Rattle.json_patch6902.specs.Edits.{CanBeAdded, IsDoc, HoldsTree, replaced}
use Rattle.json_patch6902.proofs.DepthLemmas.{added-depth, added-deep, removed-depth, replaced-depth, replaced-deep}
use Rattle.json_patch6902.proofs.TreesKept.{added-tree, removed-tree, replaced-tree, at-tree}
use Rattle.json_patch6902.proofs.PutBack.{put-back}

-- ---- the depth

shallow : (n : ℕ) → n ≤ 127 → nat_le n 127 ≡ true
shallow n h = le-leb n 127 h

deep : (n : ℕ) → 127 < n → nat_le n 127 ≡ false
deep n h = lt-leb n 127 h

pub within_ok : (t : Tree) → depth t ≤ 127 → within_depth t ≡ Ok t
within_ok t h = ap (λ b. if b then Ok t else Err too_deep) (shallow (depth t) h)

pub within_no : (t : Tree) → 127 < depth t → within_depth t ≡ Err too_deep
within_no t h = ap (λ b. if b then Ok t else Err too_deep) (deep (depth t) h)

within_by : (b : Bool) (t w : Tree) → nat_le (depth t) 127 ≡ b → ◌≡◌ {A = Result Tree Cause} (if b then Ok t else Err too_deep) (Ok w) → (t ≡ w) × (nat_le (depth w) 127 ≡ true)
within_by true t w c e = let same : t ≡ w = cc in (same, subst (λ s. nat_le (depth s) 127 ≡ true) same c)
within_by false t w c e = cc

low : (n : ℕ) → nat_le n 127 ≡ true → n ≤ 127
low n h = leb-true n 127 h

pub patched_shallow : (t w : Tree) (op : spec.Op) → patched t op ≡ Ok w → depth w ≤ 127
patched_shallow t w op e =
    let h = bind_ok (edited op t) within_depth w e in
    low (depth w) (within_by (nat_le (depth h.0) 127) h.0 w refl h.2).1

pub deeper : (a b : ℕ) → nat_lt a b ≡ true → a < b
deeper a b h = ltb-true a b h

pub no_deeper : (a b : ℕ) → nat_lt a b ≡ false → b ≤ a
no_deeper a b h = ⊎_elim (λ (lt : a < b). let both : true ≡ false = sym (lt-ltb a b lt) ∙ h in cc) (λ (le : b ≤ a). le) (cases_lt a b)

pub not_less : (a b : ℕ) → b ≤ a → nat_lt a b ≡ false
not_less a b h = by (nat_lt a b) refl
  where
    by : (r : Bool) → nat_lt a b ≡ r → nat_lt a b ≡ false
    by false e = e
    by true e = let less : a < b = ltb-true a b e in absurd (omega arith)

-- ---- what is added

-- what was found to fit is added
pub added_fits : (p : Pointer) (v t w : Tree) → IsDoc t → CanBeAdded p v t → added p v t ≡ Ok w → (added p v t >>= within_depth) ≡ Ok w
added_fits p v t w doc can e = ap (λ r. r >>= within_depth) e ∙ within_ok w (omega (arith, added-depth p v t w e, doc.shallow, can.within))

-- and isn't refused
pub fits_not : (p : Pointer) (v t : Tree) (why : Cause) → CanBeAdded p v t → added p v t ≡ Err why → ⊥
fits_not p v t why can e = let both : Err why ≡ Ok can.result = sym e ∙ can.there in cc

pub added_deep : (p : Pointer) (v t w : Tree) → 127 < length p + depth v → added p v t ≡ Ok w → (added p v t >>= within_depth) ≡ Err too_deep
added_deep p v t w h e = ap (λ r. r >>= within_depth) e ∙ within_no w (omega (arith, added-deep p v t w e))

pub refused_first : (r : Result Tree Cause) (why : Cause) (f : Tree → Result Tree Cause) → r ≡ Err why → (r >>= f) ≡ Err why
refused_first r why f e = rw e

-- at a place that is not the root
pub added_is : (p : Pointer) (v t : Tree) → 0 < length p → added p v t ≡ edit (adding v) p t
added_is [] v t h = absurd (omega arith)
added_is (x ∷ p) v t h = added-edit x p v t

pub removed_is : (p : Pointer) (t : Tree) → removed p t ≡ edit taking p t
removed_is [] t = refl
removed_is (x ∷ p) t = removed-edit x p t

pub replaced_is : (p : Pointer) (v t : Tree) → 0 < length p → (at t p >>= λ u. Ok (with t p v)) ≡ edit (replacing v) p t
replaced_is [] v t h = absurd (omega arith)
replaced_is (x ∷ p) v t h = replaced-edit x p v t

-- what the test for no token says
pub no_token : (b : Bool) (p : Pointer) → (IsTrue b ↔ (p ≡ [])) → b ≡ true → p ≡ []
no_token b p h e = h.0 e

pub some_token : (b : Bool) (p : Pointer) → (IsTrue b ↔ (p ≡ [])) → b ≡ false → 0 < length p
some_token b [] h e = let both : true ≡ false = sym (h.1 refl) ∙ e in cc
some_token b (x ∷ p) h e = omega arith

-- ---- what is removed

pub removed_fits : (p : Pointer) (t w : Tree) → IsDoc t → removed p t ≡ Ok w → (removed p t >>= within_depth) ≡ Ok w
removed_fits p t w doc e = ap (λ r. r >>= within_depth) e ∙ within_ok w (omega (arith, removed-depth p t w e, doc.shallow))

-- ---- what is replaced

replaced-low : (p : Pointer) (v t w : Tree) → replaced p v t ≡ Ok w → depth w ≤ max (depth t) (length p + depth v)
replaced-low [] v t w e = let same : v ≡ w = cc in omega (arith, ap depth same)
replaced-low (x ∷ p) v t w e = replaced-depth x p v t w (subst (λ r. r ≡ Ok w) (replaced-edit x p v t) e)

replaced-high : (p : Pointer) (v t w : Tree) → replaced p v t ≡ Ok w → length p + depth v ≤ depth w
replaced-high [] v t w e = let same : v ≡ w = cc in omega (arith, ap depth same)
replaced-high (x ∷ p) v t w e = replaced-deep x p v t w (subst (λ r. r ≡ Ok w) (replaced-edit x p v t) e)

replaced-is_tree : (p : Pointer) (v t w : Tree) → is_tree v ≡ true → is_tree t ≡ true → replaced p v t ≡ Ok w → is_tree w ≡ true
replaced-is_tree [] v t w i h e = let same : v ≡ w = cc in subst (λ s. is_tree s ≡ true) same i
replaced-is_tree (x ∷ p) v t w i h e = replaced-tree x p v t w i h (subst (λ r. r ≡ Ok w) (replaced-edit x p v t) e)

pub replaced_fits : (p : Pointer) (v t w : Tree) → IsDoc t → length p + depth v ≤ 127 → replaced p v t ≡ Ok w → (replaced p v t >>= within_depth) ≡ Ok w
replaced_fits p v t w doc h e = ap (λ r. r >>= within_depth) e ∙ within_ok w (omega (arith, replaced-low p v t w e, doc.shallow))

pub replaced_deep : (p : Pointer) (v t u : Tree) → 127 < length p + depth v → at t p ≡ Ok u → (replaced p v t >>= within_depth) ≡ Err too_deep
replaced_deep p v t u h e =
    let is : replaced p v t ≡ Ok (with t p v) = ap (λ r. r >>= λ _. Ok (with t p v)) e in
    ap (λ r. r >>= within_depth) is ∙ within_no (with t p v) (omega (arith, replaced-high p v t (with t p v) is))

-- ---- moves

pub beneath_short : (p q : Pointer) → length q ≤ length p → is_beneath p q ≡ false
beneath_short [] [] h = refl
beneath_short [] (y ∷ q) h = absurd (omega arith)
beneath_short (x ∷ p) [] h = refl
beneath_short (x ∷ p) (y ∷ q) h = and_false (bytes_eq x y) (is_beneath p q) (beneath_short p q (omega arith))
  where
    and_false : (a b : Bool) → b ≡ false → (a && b) ≡ false
    and_false true b e = e
    and_false false b e = refl

pub beneath_long : (p q : Pointer) → length p < length q → is_beneath p q ≡ is_prefix p q
beneath_long [] [] h = absurd (omega arith)
beneath_long [] (y ∷ q) h = refl
beneath_long (x ∷ p) [] h = absurd (omega arith)
beneath_long (x ∷ p) (y ∷ q) h = ap (λ b. bytes_eq x y && b) (beneath_long p q (omega arith))

-- a move that isn't into itself: what stands at from is added where the removal leaves t
pub moved : (from p : Pointer) (t u w : Tree) → is_beneath from p ≡ false → at t from ≡ Ok u → removed from t ≡ Ok w → edited (spec.move from p) t ≡ added p u w
moved from p t u w o a e = rw (o, a, e) refl

-- what isn't there isn't taken out, for the same cause
none_last : (x : List ℕ) (t : Tree) (r : Result Tree Cause) (why : Cause) → child x t ≡ r → (r >>= λ u. Ok u) ≡ Err why → taking x t ≡ Err why
none_last x t (Ok c) why e h = cc
none_last x t (Err w) why e h = rw e h

none_under : (x y : List ℕ) (p : Pointer) (t : Tree) (r : Result Tree Cause) (why : Cause) → child x t ≡ r → (r >>= λ c. at c (y ∷ p)) ≡ Err why
    → ((c : Tree) → at c (y ∷ p) ≡ Err why → edit taking (y ∷ p) c ≡ Err why) → edit taking (x ∷ y ∷ p) t ≡ Err why
none_under x y p t (Ok c) why e h more = rw (e, more c h) refl
none_under x y p t (Err w) why e h more = rw e h

none_taken : (p : Pointer) (t : Tree) (why : Cause) → at t p ≡ Err why → edit taking p t ≡ Err why
none_taken [] t why h = cc
none_taken (x ∷ []) t why h = none_last x t (child x t) why refl h
none_taken (x ∷ y ∷ p) t why h = none_under x y p t (child x t) why refl h (λ c e. none_taken (y ∷ p) c why e)

no_move_by : (from p : Pointer) (t : Tree) (why : Cause) (r : Result Tree Cause) → at t from ≡ r → is_beneath from p ≡ false → removed from t ≡ Err why → edited (spec.move from p) t ≡ Err why
no_move_by from p t why (Ok u) a o e = rw (o, a, e) refl
no_move_by from p t why (Err w) a o e =
    let same : ◌≡◌ {A = Result Tree Cause} (Err w) (Err why) = sym (removed_is from t ∙ none_taken from t w a) ∙ e in
    rw (o, a) same

-- a move of what can't be taken out
pub no_move : (from p : Pointer) (t : Tree) (why : Cause) → is_beneath from p ≡ false → removed from t ≡ Err why → edited (spec.move from p) t ≡ Err why
no_move from p t why o e = no_move_by from p t why (at t from) refl o e

-- what was taken out nests no deeper, and is a tree again
pub removed_doc : (p : Pointer) (t w : Tree) → IsDoc t → removed p t ≡ Ok w → IsDoc w
removed_doc p t w doc e = record { shallow = omega (arith, removed-depth p t w e, doc.shallow); tree = removed-tree p t w doc.tree e }

-- putting back is not refused, and restores
pub back_not : (p : Pointer) (t w u : Tree) (why : Cause) → IsDoc t → at t p ≡ Ok u → removed p t ≡ Ok w → added p u w ≡ Err why → ⊥
back_not p t w u why doc a e r = let both : Err why ≡ Ok t = sym r ∙ put-back p t w u doc.tree a e in cc

pub back_is : (p : Pointer) (t w u s : Tree) → IsDoc t → at t p ≡ Ok u → removed p t ≡ Ok w → added p u w ≡ Ok s → s ≡ t
back_is p t w u s doc a e r = let both : ◌≡◌ {A = Result Tree Cause} (Ok s) (Ok t) = sym r ∙ put-back p t w u doc.tree a e in cc

-- ---- tests

pub other_tree : (b : Bool) (u v : Tree) → (IsTrue b ↔ (u ≡ v)) → b ≡ false → u ≡ v → ⊥
other_tree b u v h e same = let both : true ≡ false = sym (h.1 same) ∙ e in cc

same_truth-self : (b : Bool) → same_truth b b ≡ true
same_truth-self true = refl
same_truth-self false = refl

both : (a b : Bool) → a ≡ true → b ≡ true → (a && b) ≡ true
both a b h k = rw (h, k) refl

mutual
  pub same_tree-self : (t : Tree) → same_tree t t ≡ true
  same_tree-self null = refl
  same_tree-self (truth b) = same_truth-self b
  same_tree-self (whole z) = (Decides-int_eq z z).1 refl
  same_tree-self (words s) = (bytes_eq-Decides s s).1 refl
  same_tree-self (items ts) = same_items-self ts
  same_tree-self (members ms) = same_members-self ms

  same_items-self : (ts : Trees) → same_items ts ts ≡ true
  same_items-self no_items = refl
  same_items-self (item t ts) = both (same_tree t t) (same_items ts ts) (same_tree-self t) (same_items-self ts)

  same_members-self : (ms : Members) → same_members ms ms ≡ true
  same_members-self no_members = refl
  same_members-self (member k t ms) =
      both (bytes_eq k k) (same_tree t t && same_members ms ms) ((bytes_eq-Decides k k).1 refl) (both (same_tree t t) (same_members ms ms) (same_tree-self t) (same_members-self ms))

-- ---- what is made of a tree is a tree

unless : (b : Bool) (r : Result Tree Cause) (w : Tree) → (if b then Err into_itself else r) ≡ Ok w → r ≡ Ok w
unless true r w e = cc
unless false r w e = e

only_if : (b : Bool) (t w : Tree) → (if b then Ok t else Err test_failed) ≡ Ok w → t ≡ w
only_if true t w e = cc
only_if false t w e = cc

pub edited-tree : (op : spec.Op) (t w : Tree) → HoldsTree op → is_tree t ≡ true → edited op t ≡ Ok w → is_tree w ≡ true
edited-tree (spec.add p v) t w i h e = added-tree p v t w i h e
edited-tree (spec.remove p) t w i h e = removed-tree p t w h e
edited-tree (spec.replace p v) t w i h e = replaced-is_tree p v t w i h e
edited-tree (spec.move from p) t w i h e =
    let k = bind_ok (at t from) (λ u. removed from t >>= λ r. added p u r) w (unless (is_beneath from p) _ w e) in
    let g = bind_ok (removed from t) (λ r. added p k.0 r) w k.2 in
    added-tree p k.0 g.0 w (at-tree from t k.0 h k.1) (removed-tree from t g.0 h g.1) g.2
edited-tree (spec.copy from p) t w i h e =
    let k = bind_ok (at t from) (λ u. added p u t) w e in
    added-tree p k.0 t w (at-tree from t k.0 h k.1) h k.2
edited-tree (spec.test p v) t w i h e =
    let k = bind_ok (at t p) (λ u. if same_tree u v then Ok t else Err test_failed) w e in
    subst (λ s. is_tree s ≡ true) (only_if (same_tree k.0 v) t w k.2) h

pub patched-tree : (t w : Tree) (op : spec.Op) → HoldsTree op → is_tree t ≡ true → patched t op ≡ Ok w → is_tree w ≡ true
patched-tree t w op i h e =
    let k = bind_ok (edited op t) within_depth w e in
    subst (λ s. is_tree s ≡ true) (within_by (nat_le (depth k.0) 127) k.0 w refl k.2).0 (edited-tree op t k.0 i h k.1)
