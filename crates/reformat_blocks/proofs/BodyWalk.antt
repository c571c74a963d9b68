-- What a walk over a body writes, one item and one member more at a time.
use Rattle.std.proofs.Common.{◌≡◌, ℕ, suc, ◌+◌, ◌≤◌, ◌<◌, List, [], ◌∷◌, ◌++◌, length, drop, slice_get, Bool, true, false, not, ◌||◌, ◌&&◌, nat_lt, Some, None, refl, sym, ap, subst, ◌∙◌, if◌then◌else◌, is_some, append-nil, add-one, arith}
use Rattle.std.specs.Prelude.{ℤ}
use Rattle.std.specs.declared.cmp.Ordering.{Ordering}
use Rattle.std.specs.declared.cmp.Ordering.TheVariants.{Less, Equal, Greater}
use Rattle.std.specs.Ordering.{match_ordering}
use Rattle.std.proofs.lemmas.List.{length-append}
use Rattle.std.proofs.lemmas.Bool.{lt-ltb, ltb-true}
use Rattle.spec_documents.specs.Tree.{Tree, null, truth, whole, words, items, members, Members, no_members, member, trees, tree_list, name_cmp}
use Rattle.spec_documents.specs.Fields.{Field, fields, field_list, AllAfter, AreAscending}
use Rattle.spec_documents.specs.Place.{Pointer, pointer_text}
use Rattle.spec_documents.specs.Text.{index_text}
use Rattle.spec_documents.specs.Hole.{mark, hole, has_mark, is_marked, natural}
use Rattle.spec_documents.proofs.FieldLemmas.{trees-list, same_fields}
use Rattle.spec_messages.specs.Policy.{outermost, outermost_items, outermost_members}
use Rattle.spec_messages.specs.Split.{hide, hide_items, hide_members}
use Rattle.spec_messages.specs.Block.{item_tree, is_leaf, leaves, members_leaves}
use Rattle.n32_values.proofs.Trees.{drop_at}
use Rattle.reformat_blocks.specs.Sent.{item_trees, stood}
use Rattle.reformat_blocks.proofs.Hiding.{map-append, length-map, drop_past, append_more}

-- ---- a secret node is the next hole, and stands alone

pub secret_hole : (test : Pointer → Tree → Bool) (q : Pointer) (n : ℕ) (t : Tree) → test q t ≡ true → hide test q n t ≡ hole n
secret_hole test q n null h = rw h refl
secret_hole test q n (truth b) h = rw h refl
secret_hole test q n (whole z) h = rw h refl
secret_hole test q n (words s) h = rw h refl
secret_hole test q n (items ts) h = rw h refl
secret_hole test q n (members ms) h = rw h refl

-- ---- counting

pub stood-append : {S : Type 0} (xs ys : List (S × Tree)) → stood (xs ++ ys) ≡ stood xs ++ stood ys
stood-append xs ys = map-append (λ s. s.1) xs ys

length_stood : {S : Type 0} (vs grown : List Tree) (ss : List (S × Tree)) → grown ≡ vs ++ stood ss → length grown ≡ length vs + length ss
length_stood vs grown ss e = let a = length-append vs (stood ss) in let m = length-map (λ s. s.1) ss in ap length e ∙ omega (arith, a, m)

-- ---- lists

pub list_step : (test : Pointer → Tree → Bool) (q : Pointer) (all : List Tree) (i : ℕ) (t u : Tree) (vs more out grown sum : List Tree) → slice_get all i ≡ Some t
    → more ≡ vs ++ stood (outermost test (q ++ index_text i ∷ []) t) → u ≡ hide test (q ++ index_text i ∷ []) (length vs) t → grown ≡ out ++ u ∷ []
    → out ++ tree_list (hide_items test q i (length vs) (trees (drop i all))) ≡ sum → grown ++ tree_list (hide_items test q (i + 1) (length more) (trees (drop (i + 1) all))) ≡ sum
list_step test q all i t u vs more out grown sum here hidden is added so_far =
    let rest = trees (drop (i + 1) all) in
    let count = length_stood vs more (outermost test (q ++ index_text i ∷ []) t) hidden in
    append_more out grown (u ∷ []) (tree_list (hide_items test q (i + 1) (length more) rest)) added
    ∙ ap (λ v. out ++ v ∷ tree_list (hide_items test q (i + 1) (length more) rest)) is
    ∙ ap (λ k. out ++ hide test (q ++ index_text i ∷ []) (length vs) t ∷ tree_list (hide_items test q k (length more) rest)) (add-one i)
    ∙ ap (λ k. out ++ hide test (q ++ index_text i ∷ []) (length vs) t ∷ tree_list (hide_items test q (suc i) k rest)) count
    ∙ ap (λ ts. out ++ tree_list (hide_items test q i (length vs) (trees ts))) (sym (drop_at all i t here)) ∙ so_far

pub list_stood : (test : Pointer → Tree → Bool) (q : Pointer) (all : List Tree) (i : ℕ) (t : Tree) (vs more sum : List Tree) → slice_get all i ≡ Some t
    → more ≡ vs ++ stood (outermost test (q ++ index_text i ∷ []) t)
    → vs ++ stood (outermost_items test q i (trees (drop i all))) ≡ sum → more ++ stood (outermost_items test q (i + 1) (trees (drop (i + 1) all))) ≡ sum
list_stood test q all i t vs more sum here hidden so_far =
    let rest = trees (drop (i + 1) all) in
    ap (λ k. more ++ stood (outermost_items test q k rest)) (add-one i)
    ∙ append_more vs more (stood (outermost test (q ++ index_text i ∷ []) t)) (stood (outermost_items test q (suc i) rest)) hidden
    ∙ ap (λ r. vs ++ r) (sym (stood-append (outermost test (q ++ index_text i ∷ []) t) (outermost_items test q (suc i) rest)))
    ∙ ap (λ ts. vs ++ stood (outermost_items test q i (trees ts))) (sym (drop_at all i t here)) ∙ so_far

pub list_done : (test : Pointer → Tree → Bool) (q : Pointer) (all : List Tree) (i n m : ℕ) (out : List Tree) → length all ≤ i
    → out ++ tree_list (hide_items test q i n (trees (drop i all))) ≡ tree_list (hide_items test q 0 m (trees all)) → trees out ≡ hide_items test q 0 m (trees all)
list_done test q all i n m out le h =
    ap trees (sym (append-nil out) ∙ ap (λ ts. out ++ tree_list (hide_items test q i n (trees ts))) (sym (drop_past all i le)) ∙ h) ∙ trees-list (hide_items test q 0 m (trees all))

-- ---- objects

pub map_step : (test : Pointer → Tree → Bool) (q : Pointer) (all : List Field) (i : ℕ) (k l : List ℕ) (t u : Tree) (vs more : List Tree) (out grown sum : List Field) → slice_get all i ≡ Some (k, t)
    → more ≡ vs ++ stood (outermost test (q ++ k ∷ []) t) → l ≡ k → u ≡ hide test (q ++ k ∷ []) (length vs) t → grown ≡ out ++ (l, u) ∷ []
    → out ++ field_list (hide_members test q (length vs) (fields (drop i all))) ≡ sum → grown ++ field_list (hide_members test q (length more) (fields (drop (i + 1) all))) ≡ sum
map_step test q all i k l t u vs more out grown sum here hidden name is added so_far =
    let rest = fields (drop (i + 1) all) in
    let count = length_stood vs more (outermost test (q ++ k ∷ []) t) hidden in
    let same : ◌≡◌ {A = Field} (l, u) (k, hide test (q ++ k ∷ []) (length vs) t) = λ j. (name j, is j) in
    append_more out grown ((l, u) ∷ []) (field_list (hide_members test q (length more) rest)) added
    ∙ ap (λ e. out ++ e ∷ field_list (hide_members test q (length more) rest)) same
    ∙ ap (λ n. out ++ (k, hide test (q ++ k ∷ []) (length vs) t) ∷ field_list (hide_members test q n rest)) count
    ∙ ap (λ es. out ++ field_list (hide_members test q (length vs) (fields es))) (sym (drop_at all i (k, t) here)) ∙ so_far

pub map_stood : (test : Pointer → Tree → Bool) (q : Pointer) (all : List Field) (i : ℕ) (k : List ℕ) (t : Tree) (vs more sum : List Tree) → slice_get all i ≡ Some (k, t)
    → more ≡ vs ++ stood (outermost test (q ++ k ∷ []) t)
    → vs ++ stood (outermost_members test q (fields (drop i all))) ≡ sum → more ++ stood (outermost_members test q (fields (drop (i + 1) all))) ≡ sum
map_stood test q all i k t vs more sum here hidden so_far =
    let rest = fields (drop (i + 1) all) in
    append_more vs more (stood (outermost test (q ++ k ∷ []) t)) (stood (outermost_members test q rest)) hidden
    ∙ ap (λ r. vs ++ r) (sym (stood-append (outermost test (q ++ k ∷ []) t) (outermost_members test q rest)))
    ∙ ap (λ es. vs ++ stood (outermost_members test q (fields es))) (sym (drop_at all i (k, t) here)) ∙ so_far

pub map_done : (test : Pointer → Tree → Bool) (q : Pointer) (all : List Field) (i n : ℕ) (out hidden : Members) → length all ≤ i
    → field_list out ++ field_list (hide_members test q n (fields (drop i all))) ≡ field_list hidden → out ≡ hidden
map_done test q all i n out hidden le h =
    same_fields out hidden (sym (append-nil (field_list out)) ∙ ap (λ es. field_list out ++ field_list (hide_members test q n (fields es))) (sym (drop_past all i le)) ∙ h)

-- ---- names stay in order

after_hidden : (test : Pointer → Tree → Bool) (q : Pointer) (n : ℕ) (k : List ℕ) (ms : Members) → AllAfter k (field_list ms) → AllAfter k (field_list (hide_members test q n ms))
after_hidden test q n k no_members h = tt
after_hidden test q n k (member l t ms) h = (h.0, after_hidden test q (n + length (outermost test (q ++ l ∷ []) t)) k ms h.1)

ascending_hidden : (test : Pointer → Tree → Bool) (q : Pointer) (n : ℕ) (ms : Members) → AreAscending (field_list ms) → AreAscending (field_list (hide_members test q n ms))
ascending_hidden test q n no_members h = tt
ascending_hidden test q n (member l t ms) h =
    let m = n + length (outermost test (q ++ l ∷ []) t) in (after_hidden test q m l ms h.0, ascending_hidden test q m ms h.1)

after_front : (k : List ℕ) (xs ys : List Field) → AllAfter k (xs ++ ys) → AllAfter k xs
after_front k [] ys h = tt
after_front k (x ∷ xs) ys h = (h.0, after_front k xs ys h.1)

ascending_front : (xs ys : List Field) → AreAscending (xs ++ ys) → AreAscending xs
ascending_front [] ys h = tt
ascending_front (x ∷ xs) ys h = (after_front x.0 xs ys h.0, ascending_front xs ys h.1)

-- the front of the hidden members is in order
pub front_ascends : (test : Pointer → Tree → Bool) (q : Pointer) (n : ℕ) (ms : Members) (xs ys : List Field) → AreAscending (field_list ms) → xs ++ ys ≡ field_list (hide_members test q n ms) → AreAscending xs
front_ascends test q n ms xs ys up e = ascending_front xs ys (subst (λ (es : List Field). AreAscending es) (sym e) (ascending_hidden test q n ms up))

-- ---- items

pub items_step : (test : Pointer → Tree → Bool) (q : Pointer) (all : List Field) (i : ℕ) (k : List ℕ) (t : Tree) (vs more out grown sum : List Tree) → slice_get all i ≡ Some (k, t)
    → more ≡ vs ++ stood (outermost test (q ++ k ∷ []) t) → grown ≡ out ++ item_trees (leaves (q ++ k ∷ []) (hide test (q ++ k ∷ []) (length vs) t))
    → out ++ item_trees (members_leaves q (hide_members test q (length vs) (fields (drop i all)))) ≡ sum → grown ++ item_trees (members_leaves q (hide_members test q (length more) (fields (drop (i + 1) all)))) ≡ sum
items_step test q all i k t vs more out grown sum here hidden added so_far =
    let rest = fields (drop (i + 1) all) in
    let count = length_stood vs more (outermost test (q ++ k ∷ []) t) hidden in
    let own = leaves (q ++ k ∷ []) (hide test (q ++ k ∷ []) (length vs) t) in
    append_more out grown (item_trees own) (item_trees (members_leaves q (hide_members test q (length more) rest))) added
    ∙ ap (λ n. out ++ (item_trees own ++ item_trees (members_leaves q (hide_members test q n rest)))) count
    ∙ ap (λ r. out ++ r) (sym (map-append (λ i. item_tree (pointer_text i.0, i.1)) own (members_leaves q (hide_members test q (length vs + length (outermost test (q ++ k ∷ []) t)) rest))))
    ∙ ap (λ es. out ++ item_trees (members_leaves q (hide_members test q (length vs) (fields es)))) (sym (drop_at all i (k, t) here)) ∙ so_far

pub items_done : (test : Pointer → Tree → Bool) (q : Pointer) (all : List Field) (i n : ℕ) (out sum : List Tree) → length all ≤ i → out ++ item_trees (members_leaves q (hide_members test q n (fields (drop i all)))) ≡ sum → out ≡ sum
items_done test q all i n out sum le h = sym (append-nil out) ∙ ap (λ es. out ++ item_trees (members_leaves q (hide_members test q n (fields es)))) (sym (drop_past all i le)) ∙ h

-- ---- leaves

-- a node that has one item
pub secret_leaf : (test : Pointer → Tree → Bool) (q : Pointer) (n : ℕ) (t : Tree) → test q t ≡ true → leaves q (hide test q n t) ≡ (q, hide test q n t) ∷ []
secret_leaf test q n t h = ap (leaves q) (secret_hole test q n t h) ∙ ap (λ u. (q, u) ∷ []) (sym (secret_hole test q n t h))

leaf_if : (b : Bool) (q : Pointer) (n : ℕ) (t : Tree) → leaves q t ≡ (q, t) ∷ [] → leaves q (if b then hole n else t) ≡ (q, if b then hole n else t) ∷ []
leaf_if true q n t h = refl
leaf_if false q n t h = h

pub whole_leaf : (test : Pointer → Tree → Bool) (q : Pointer) (n : ℕ) (z : ℤ) → leaves q (hide test q n (whole z)) ≡ (q, hide test q n (whole z)) ∷ []
whole_leaf test q n z = leaf_if (test q (whole z)) q n (whole z) refl

pub empty_leaf : (test : Pointer → Tree → Bool) (q : Pointer) (n : ℕ) (ms : Members) → length (field_list ms) ≡ 0 → leaves q (hide test q n (members ms)) ≡ (q, hide test q n (members ms)) ∷ []
empty_leaf test q n no_members e = leaf_if (test q (members no_members)) q n (members no_members) refl
empty_leaf test q n (member k t ms) e = absurd (omega (arith, e))

-- an object with members that isn't secret is none

unmarked_one : (o : Ordering) (u : Tree) (t : Tree) → is_some (match_ordering o None (Some t) None) ≡ false → is_some (match_ordering o None (natural u) None) ≡ false
unmarked_one Less u t h = refl
unmarked_one Equal u t h = cc
unmarked_one Greater u t h = refl

no_leaf : (test : Pointer → Tree → Bool) (q : Pointer) (n : ℕ) (k : List ℕ) (t : Tree) (ms : Members) → has_mark (member k t ms) ≡ false → is_leaf (hide_members test q n (member k t ms)) ≡ false
no_leaf test q n k t no_members h = unmarked_one (name_cmp mark k) (hide test (q ++ k ∷ []) n t) t h
no_leaf test q n k t (member l u ms) h = refl

hidden_members : (test : Pointer → Tree → Bool) (q : Pointer) (n : ℕ) (k : List ℕ) (t : Tree) (ms : Members) → has_mark (member k t ms) ≡ false
    → leaves q (members (hide_members test q n (member k t ms))) ≡ members_leaves q (hide_members test q n (member k t ms))
hidden_members test q n k t ms none = rw (no_leaf test q n k t ms none) refl

by_secret : (test : Pointer → Tree → Bool) (q : Pointer) (n : ℕ) (ms : Members) (b : Bool) → test q (members ms) ≡ b → (not b && nat_lt 0 (length (field_list ms))) ≡ false
    → leaves q (hide test q n (members ms)) ≡ (q, hide test q n (members ms)) ∷ []
by_secret test q n ms true is h = secret_leaf test q n (members ms) is
by_secret test q n no_members false is h = empty_leaf test q n no_members refl
by_secret test q n (member k t ms) false is h = let some : 0 < length (field_list (member k t ms)) = omega arith in let able = lt-ltb 0 (length (field_list (member k t ms))) some in cc

-- an object without members, or a secret one, has one item
pub closed_leaf : (test : Pointer → Tree → Bool) (q : Pointer) (n : ℕ) (ms : Members) (b : Bool) → b ≡ (not (test q (members ms)) && nat_lt 0 (length (field_list ms))) → b ≡ false
    → leaves q (hide test q n (members ms)) ≡ (q, hide test q n (members ms)) ∷ []
closed_leaf test q n ms b is off = by_secret test q n ms (test q (members ms)) refl (sym is ∙ off)

open_parts : (a b : Bool) → (not a && b) ≡ true → (a ≡ false) × (b ≡ true)
open_parts true b h = cc
open_parts false b h = (refl, h)

pub opened_leaves : (test : Pointer → Tree → Bool) (q : Pointer) (n : ℕ) (ms : Members) (b : Bool) → ((t : Tree) → test q t ≡ false → is_marked t ≡ false) → b ≡ (not (test q (members ms)) && nat_lt 0 (length (field_list ms))) → b ≡ true
    → leaves q (hide test q n (members ms)) ≡ members_leaves q (hide_members test q n ms)
opened_leaves test q n no_members b sees is on =
    let parts = open_parts (test q (members no_members)) (nat_lt 0 (length (field_list no_members))) (sym is ∙ on) in let some = ltb-true 0 (length (field_list no_members)) parts.1 in absurd (omega (arith, some))
opened_leaves test q n (member k t ms) b sees is on =
    let parts = open_parts (test q (members (member k t ms))) (nat_lt 0 (length (field_list (member k t ms)))) (sym is ∙ on) in
    rw parts.0 (hidden_members test q n k t ms (sees (members (member k t ms)) parts.0))

pub unmarked : (a b : Bool) → (a || b) ≡ false → b ≡ false
unmarked true b h = cc
unmarked false b h = h
