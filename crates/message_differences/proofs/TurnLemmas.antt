-- Two objects walked side by side, and a node beside itself.
use Rattle.std.proofs.Common.{◌≡◌, ℕ, ◌+◌, ◌<◌, List, [], ◌∷◌, ◌++◌, map, ◌≤◌, length, drop, Bool, true, false, Option, Some, None, Ordering, Less, Equal, Greater, zero, suc, slice_get, refl, sym, ap, ap₂, ◌∙◌, subst, arith}
use Rattle.std.proofs.lemmas.Bool.{and_parts, and_from}
use Rattle.std.proofs.lemmas.Bool.Decides.{Decides-int_eq}
use Rattle.std.proofs.lemmas.Slice.Eq.{bytes_eq-Decides}
use Rattle.std.specs.Cmp.Lexicographic.{nat_list_cmp_total}
use Rattle.std.specs.Int.{from_bool}
use Rattle.std.specs.List.{find}
use Rattle.std.specs.Option.{option_map_or}
use Rattle.std.specs.Ordering.{is_le, is_ge, match_ordering}
use Rattle.std.specs.Prelude.{bytes_eq}
use Rattle.std.proofs.Math.Seq.{drop-drop}
use Rattle.spec_documents.specs.Tree.{Tree, null, truth, whole, words, items, members, Trees, no_items, item, Members, no_members, member, name_cmp, get_member, same_truth, same_tree, same_items, same_members, is_ordered, are_members, before_first}
use Rattle.spec_documents.specs.Fields.{Field, fields, field_list, AllAfter, AreAscending}
use Rattle.spec_documents.specs.Place.{Pointer}
use Rattle.spec_documents.proofs.TreeLemmas.{name_self, same_name}
use Rattle.spec_messages.specs.Policy.{Address, body_at, changed_in, members_changed, names_below, before_name, after_name, unless}
use Rattle.spec_messages.proofs.LeafLemmas.{Below, InOrder, in_order}
use Rattle.n32_values.proofs.Trees.{drop_at}
use Rattle.spec_documents.proofs.SameTree.{same_tree-is}
use Rattle.message_differences.specs.Turns.{next, next_changed, Comes}
use Rattle.message_differences.proofs.FindLemmas.{map_first, map_later}
use Rattle.message_differences.proofs.LineLemmas.{drop_end}

-- ---- names in order

pub ascend-drop : (i : ℕ) (es : List Field) → AreAscending es → AreAscending (drop i es)
ascend-drop zero es a = a
ascend-drop (suc i) [] a = tt
ascend-drop (suc i) (e ∷ es) a = ascend-drop i es a.1

after_more : (k l : List ℕ) (es : List Field) → name_cmp k l ≡ Less → AllAfter l es → AllAfter k es
after_more k l [] e a = tt
after_more k l (f ∷ es) e a = (nat_list_cmp_total.trans k l f.0 e a.0, after_more k l es e a.1)

-- where k comes before all names
none_before : (k : List ℕ) (es : List Field) → AllAfter k es → before_name k (fields es) ≡ no_members
none_before k [] a = refl
none_before k (e ∷ es) a = rw a.0 (none_before k es a.1)

none_there : (k : List ℕ) (es : List Field) → AllAfter k es → get_member k (fields es) ≡ None
none_there k [] a = refl
none_there k (e ∷ es) a = rw a.0 (none_there k es a.1)

all_after : (k : List ℕ) (es : List Field) → AllAfter k es → after_name k (fields es) ≡ fields es
all_after k [] a = refl
all_after k (e ∷ es) a = rw a.0 (ap (member e.0 e.1) (all_after k es a.1))

-- ---- one turn

changed_none : (q : Pointer) (t : Tree) → changed_in q t None ≡ q ∷ []
changed_none q null = refl
changed_none q (truth b) = refl
changed_none q (whole z) = refl
changed_none q (words s) = refl
changed_none q (items ts) = refl
changed_none q (members ms) = refl

-- the differences at a name of the earlier object
split_at : (q : Pointer) (k : List ℕ) (t : Tree) (ms ns b a : Members) (o : Option Tree) → before_name k ns ≡ b → get_member k ns ≡ o → after_name k ns ≡ a
    → members_changed q (member k t ms) ns ≡ names_below q b ++ (changed_in (q ++ k ∷ []) t o ++ members_changed q ms a)
split_at q k t ms ns b a o eb eo ea = λ i. names_below q (eb i) ++ (changed_in (q ++ k ∷ []) t (eo i) ++ members_changed q ms (ea i))

turn_less : (q : Pointer) (k : List ℕ) (t : Tree) (ms ns : List Field) → AllAfter k ns → members_changed q (fields ((k, t) ∷ ms)) (fields ns) ≡ (q ++ k ∷ []) ∷ members_changed q (fields ms) (fields ns)
turn_less q k t ms ns a =
    split_at q k t (fields ms) (fields ns) no_members (fields ns) None (none_before k ns a) (none_there k ns a) (all_after k ns a)
    ∙ ap (λ xs. xs ++ members_changed q (fields ms) (fields ns)) (changed_none (q ++ k ∷ []) t)

turn_equal : (q : Pointer) (k l : List ℕ) (t u : Tree) (ms ns : List Field) → name_cmp k l ≡ Equal → AllAfter l ns
    → members_changed q (fields ((k, t) ∷ ms)) (fields ((l, u) ∷ ns)) ≡ changed_in (q ++ k ∷ []) t (Some u) ++ members_changed q (fields ms) (fields ns)
turn_equal q k l t u ms ns e a =
    let after : AllAfter k ns = subst (λ x. AllAfter x ns) (sym (same_name k l e)) a in
    split_at q k t (fields ms) (member l u (fields ns)) no_members (fields ns) (Some u) (rw e (none_before k ns after)) (rw e refl) (rw e (all_after k ns after))

turn_greater : (q : Pointer) (k l : List ℕ) (t u : Tree) (ms ns : List Field) → name_cmp k l ≡ Greater
    → members_changed q (fields ((k, t) ∷ ms)) (fields ((l, u) ∷ ns)) ≡ (q ++ l ∷ []) ∷ members_changed q (fields ((k, t) ∷ ms)) (fields ns)
turn_greater q k l t u ms ns e =
    split_at q k t (fields ms) (member l u (fields ns)) (member l u (before_name k (fields ns))) (after_name k (fields ns)) (get_member k (fields ns)) (rw e refl) (rw e refl) (rw e refl)

abbrev Turns : Pointer → List Field → List Field → List Field → List Field → Type 0
Turns q ms ns ms' ns' = members_changed q (fields ms) (fields ns) ≡ next_changed q ms ns ++ members_changed q (fields ms') (fields ns')

-- what differs at the next name, by the order of the two names
chosen : (q : Pointer) (m n : Field) (o : Ordering) → name_cmp m.0 n.0 ≡ o → (rest : List Pointer)
    → match_ordering o ((q ++ m.0 ∷ []) ∷ []) (changed_in (q ++ m.0 ∷ []) m.1 (Some n.1)) ((q ++ n.0 ∷ []) ∷ []) ++ rest
    ≡ match_ordering (name_cmp m.0 n.0) ((q ++ m.0 ∷ []) ∷ []) (changed_in (q ++ m.0 ∷ []) m.1 (Some n.1)) ((q ++ n.0 ∷ []) ∷ []) ++ rest
chosen q m n o e rest = ap (λ p. match_ordering p ((q ++ m.0 ∷ []) ∷ []) (changed_in (q ++ m.0 ∷ []) m.1 (Some n.1)) ((q ++ n.0 ∷ []) ∷ []) ++ rest) (sym e)

turn_by : (q : Pointer) (m n : Field) (ms ns : List Field) (o : Ordering) → name_cmp m.0 n.0 ≡ o → AreAscending (m ∷ ms) → AreAscending (n ∷ ns)
    → Turns q (m ∷ ms) (n ∷ ns) (drop (from_bool (is_le o)) (m ∷ ms)) (drop (from_bool (is_ge o)) (n ∷ ns))
turn_by q m n ms ns Less e a b = turn_less q m.0 m.1 ms (n ∷ ns) (e, after_more m.0 n.0 ns e b.0) ∙ chosen q m n Less e (members_changed q (fields ms) (fields (n ∷ ns)))
turn_by q m n ms ns Equal e a b = turn_equal q m.0 n.0 m.1 n.1 ms ns e b.0 ∙ chosen q m n Equal e (members_changed q (fields ms) (fields ns))
turn_by q m n ms ns Greater e a b = turn_greater q m.0 n.0 m.1 n.1 ms ns e ∙ chosen q m n Greater e (members_changed q (fields (m ∷ ms)) (fields ns))

turn : (q : Pointer) (ms ns : List Field) (o : Ordering) → next ms ns ≡ o → AreAscending ms → AreAscending ns → Turns q ms ns (drop (from_bool (is_le o)) ms) (drop (from_bool (is_ge o)) ns)
turn q [] [] Less e a b = refl
turn q [] [] Equal e a b = refl
turn q [] [] Greater e a b = refl
turn q (m ∷ ms) [] Less e a b = turn_less q m.0 m.1 ms [] tt
turn q (m ∷ ms) [] Equal e a b = cc
turn q (m ∷ ms) [] Greater e a b = cc
turn q [] (n ∷ ns) Less e a b = cc
turn q [] (n ∷ ns) Equal e a b = cc
turn q [] (n ∷ ns) Greater e a b = refl
turn q (m ∷ ms) (n ∷ ns) o e a b = turn_by q m n ms ns o e a b

drop_more : {X : Type 0} (n i : ℕ) (xs : List X) → drop n (drop i xs) ≡ drop (i + n) xs
drop_more n i xs = drop-drop n i xs

comes_next : (ms ns : List Field) (i j : ℕ) (o : Ordering) → Comes ms i ns j o → next (drop i ms) (drop j ns) ≡ o
comes_next ms ns i j Less c = c.1
comes_next ms ns i j Equal c = c.2
comes_next ms ns i j Greater c = c.1

-- the differences that are left, at the next name and after it
pub turn_passed : (q : Pointer) (ms ns : List Field) (i j : ℕ) (o : Ordering) → AreAscending ms → AreAscending ns → Comes ms i ns j o
    → members_changed q (fields (drop i ms)) (fields (drop j ns)) ≡ next_changed q (drop i ms) (drop j ns) ++ members_changed q (fields (drop (i + from_bool (is_le o)) ms)) (fields (drop (j + from_bool (is_ge o)) ns))
turn_passed q ms ns i j o a b c =
    turn q (drop i ms) (drop j ns) o (comes_next ms ns i j o c) (ascend-drop i ms a) (ascend-drop j ns b)
    ∙ ap₂ (λ xs ys. next_changed q (drop i ms) (drop j ns) ++ members_changed q (fields xs) (fields ys)) (drop_more (from_bool (is_le o)) i ms) (drop_more (from_bool (is_ge o)) j ns)

-- ---- what differs at the next name

changed_less : (q : Pointer) (m : Field) (rest ms ns : List Field) → ms ≡ m ∷ rest → next ms ns ≡ Less → next_changed q ms ns ≡ (q ++ m.0 ∷ []) ∷ []
changed_less q m rest ms [] c e = ap (λ xs. next_changed q xs []) c
changed_less q m rest ms (n ∷ ns) c e = ap (λ xs. next_changed q xs (n ∷ ns)) c ∙ (let less : name_cmp m.0 n.0 ≡ Less = sym (ap (λ xs. next xs (n ∷ ns)) c) ∙ e in rw less refl)

changed_greater : (q : Pointer) (n : Field) (rest ms ns : List Field) → ns ≡ n ∷ rest → next ms ns ≡ Greater → next_changed q ms ns ≡ (q ++ n.0 ∷ []) ∷ []
changed_greater q n rest [] ns c e = ap (next_changed q []) c
changed_greater q n rest (m ∷ ms) ns c e = ap (next_changed q (m ∷ ms)) c ∙ (let more : name_cmp m.0 n.0 ≡ Greater = sym (ap (next (m ∷ ms)) c) ∙ e in rw more refl)

pub less_at : (q : Pointer) (k : List ℕ) (t : Tree) (ms ns : List Field) (i j : ℕ) → slice_get ms i ≡ Some (k, t) → Comes ms i ns j Less → next_changed q (drop i ms) (drop j ns) ≡ (q ++ k ∷ []) ∷ []
less_at q k t ms ns i j is c = changed_less q (k, t) (drop (i + 1) ms) (drop i ms) (drop j ns) (drop_at ms i (k, t) is) c.1

pub greater_at : (q : Pointer) (l : List ℕ) (u : Tree) (ms ns : List Field) (i j : ℕ) → slice_get ns j ≡ Some (l, u) → Comes ms i ns j Greater → next_changed q (drop i ms) (drop j ns) ≡ (q ++ l ∷ []) ∷ []
greater_at q l u ms ns i j is c = changed_greater q (l, u) (drop (j + 1) ns) (drop i ms) (drop j ns) (drop_at ns j (l, u) is) c.1

pub equal_at : (q : Pointer) (k l : List ℕ) (t u : Tree) (ms ns : List Field) (i j : ℕ) → slice_get ms i ≡ Some (k, t) → slice_get ns j ≡ Some (l, u) → Comes ms i ns j Equal
    → next_changed q (drop i ms) (drop j ns) ≡ changed_in (q ++ k ∷ []) t (Some u)
equal_at q k l t u ms ns i j is there c =
    let cut = drop_at ms i (k, t) is in
    let other = drop_at ns j (l, u) there in
    let same : name_cmp k l ≡ Equal = sym (ap₂ next cut other) ∙ c.2 in
    ap₂ (next_changed q) cut other ∙ rw same refl

-- which name comes next
pub comes_by : (ms ns : List Field) (i j : ℕ) (m n : Field) (o : Ordering) → slice_get ms i ≡ Some m → slice_get ns j ≡ Some n → i < length ms → j < length ns → name_cmp m.0 n.0 ≡ o → Comes ms i ns j o
comes_by ms ns i j m n o is there a b e = by o (ap₂ next (drop_at ms i m is) (drop_at ns j n there) ∙ e)
  where
    by : (o : Ordering) → next (drop i ms) (drop j ns) ≡ o → Comes ms i ns j o
    by Less h = (a, h)
    by Equal h = (a, b, h)
    by Greater h = (b, h)

next_left : (ms : List Field) (i : ℕ) → i < length ms → next (drop i ms) [] ≡ Less
next_left [] i h = absurd (omega arith)
next_left (m ∷ ms) zero h = refl
next_left (m ∷ ms) (suc i) h = next_left ms i (omega arith)

next_right : (ns : List Field) (j : ℕ) → j < length ns → next [] (drop j ns) ≡ Greater
next_right [] j h = absurd (omega arith)
next_right (n ∷ ns) zero h = refl
next_right (n ∷ ns) (suc j) h = next_right ns j (omega arith)

pub comes_left : (ms ns : List Field) (i j : ℕ) → i < length ms → length ns ≤ j → Comes ms i ns j Less
comes_left ms ns i j a b = (a, ap (next (drop i ms)) (drop_end ns j b) ∙ next_left ms i a)

pub comes_right : (ms ns : List Field) (i j : ℕ) → length ms ≤ i → j < length ns → Comes ms i ns j Greater
comes_right ms ns i j a b = (b, ap (λ xs. next xs (drop j ns)) (drop_end ms i a) ∙ next_right ns j b)

-- ---- the first of the differences that are left

pub turn_found : (P : Address → Bool) (q : Pointer) (ms ns : List Field) (i j : ℕ) (o : Ordering) (y : Address) (all : Option Address) → AreAscending ms → AreAscending ns → Comes ms i ns j o
    → find P (map body_at (next_changed q (drop i ms) (drop j ns))) ≡ Some y → find P (map body_at (members_changed q (fields (drop i ms)) (fields (drop j ns)))) ≡ all → Some y ≡ all
turn_found P q ms ns i j o y all a b c e h =
    sym (ap (λ ps. find P (map body_at ps)) (turn_passed q ms ns i j o a b c) ∙ map_first body_at P (next_changed q (drop i ms) (drop j ns)) (members_changed q (fields (drop (i + from_bool (is_le o)) ms)) (fields (drop (j + from_bool (is_ge o)) ns))) y e) ∙ h

pub turn_none : (P : Address → Bool) (q : Pointer) (ms ns : List Field) (i j : ℕ) (o : Ordering) (m n : ℕ) (all : Option Address) → AreAscending ms → AreAscending ns → Comes ms i ns j o → m ≡ from_bool (is_le o) → n ≡ from_bool (is_ge o)
    → find P (map body_at (next_changed q (drop i ms) (drop j ns))) ≡ None → find P (map body_at (members_changed q (fields (drop i ms)) (fields (drop j ns)))) ≡ all
    → find P (map body_at (members_changed q (fields (drop (i + m) ms)) (fields (drop (j + n) ns)))) ≡ all
turn_none P q ms ns i j o m n all a b c em en e h =
    ap₂ (λ x y. find P (map body_at (members_changed q (fields (drop (i + x) ms)) (fields (drop (j + y) ns))))) em en
    ∙ sym (ap (λ ps. find P (map body_at ps)) (turn_passed q ms ns i j o a b c) ∙ map_later body_at P (next_changed q (drop i ms) (drop j ns)) (members_changed q (fields (drop (i + from_bool (is_le o)) ms)) (fields (drop (j + from_bool (is_ge o)) ns))) e) ∙ h

-- ---- a node beside itself

same_truth-self : (b : Bool) → same_truth b b ≡ true
same_truth-self true = refl
same_truth-self false = refl

mutual
  pub same_tree-self : (t : Tree) → same_tree t t ≡ true
  same_tree-self null = refl
  same_tree-self (truth b) = same_truth-self b
  same_tree-self (whole z) = (Decides-int_eq z z).1 refl
  same_tree-self (words s) = (bytes_eq-Decides s s).1 refl
  same_tree-self (items ts) = same_items-self ts
  same_tree-self (members ms) = same_members-self ms

  same_items-self : (ts : Trees) → same_items ts ts ≡ true
  same_items-self no_items = refl
  same_items-self (item t ts) = and_from (same_tree t t) _ (same_tree-self t) (same_items-self ts)

  same_members-self : (ms : Members) → same_members ms ms ≡ true
  same_members-self no_members = refl
  same_members-self (member k t ms) = and_from (bytes_eq k k) _ ((bytes_eq-Decides k k).1 refl) (and_from (same_tree t t) _ (same_tree-self t) (same_members-self ms))

below_none : (k : List ℕ) (ms : Members) → Below k ms → before_name k ms ≡ no_members
below_none k no_members b = refl
below_none k (member l u ms) b = rw b.0 (below_none k ms b.1)

below_all : (k : List ℕ) (ms : Members) → Below k ms → after_name k ms ≡ ms
below_all k no_members b = refl
below_all k (member l u ms) b = rw b.0 (ap (member l u) (below_all k ms b.1))

unless_same : (q : Pointer) (t : Tree) → unless (same_tree t t) q ≡ []
unless_same q t = ap (λ b. unless b q) (same_tree-self t)

pub unless_is : (q : Pointer) (t u : Tree) → t ≡ u → unless (same_tree t u) q ≡ []
unless_is q t u e = ap (λ x. unless (same_tree t x) q) (sym e) ∙ unless_same q t

pub unless_not : (q : Pointer) (t u : Tree) → (t ≡ u → ⊥) → unless (same_tree t u) q ≡ q ∷ []
unless_not q t u n = by (same_tree t u) refl
  where
    by : (b : Bool) → same_tree t u ≡ b → unless b q ≡ q ∷ []
    by true e = absurd (n (same_tree-is t u e))
    by false e = refl

mutual
  -- the same node has no difference
  pub changed_self : (q : Pointer) (t : Tree) → is_ordered t ≡ true → changed_in q t (Some t) ≡ []
  changed_self q null o = unless_same q null
  changed_self q (truth b) o = unless_same q (truth b)
  changed_self q (whole z) o = unless_same q (whole z)
  changed_self q (words s) o = unless_same q (words s)
  changed_self q (items ts) o = unless_same q (items ts)
  changed_self q (members ms) o = members_changed_self q ms o (in_order ms o)

  members_changed_self : (q : Pointer) (ms : Members) → are_members ms ≡ true → InOrder ms → members_changed q ms ms ≡ []
  members_changed_self q no_members o i = refl
  members_changed_self q (member k t ms) o i =
      let p = and_parts (before_first k ms) _ o in
      let r = and_parts (is_ordered t) _ p.1 in
      split_at q k t ms (member k t ms) no_members ms (Some t) (rw (name_self k) (below_none k ms i.0)) (rw (name_self k) refl) (rw (name_self k) (below_all k ms i.0))
      ∙ ap₂ (λ xs ys. xs ++ ys) (changed_self (q ++ k ∷ []) t r.0) (members_changed_self q ms r.1 i.1)

same_field : (l k : List ℕ) (u t : Tree) → ◌≡◌ {A = Option Field} (Some (l, u)) (Some (k, t)) → u ≡ t
same_field l k u t e = ap (λ o. option_map_or (λ f. f.1) o u) e

-- the members of an ordered object are ordered
pub member_ordered : (ms : Members) (i : ℕ) (k : List ℕ) (t : Tree) → are_members ms ≡ true → slice_get (field_list ms) i ≡ Some (k, t) → is_ordered t ≡ true
member_ordered no_members i k t o e = cc
member_ordered (member l u ms) zero k t o e =
    let p = and_parts (before_first l ms) _ o in
    let r = and_parts (is_ordered u) _ p.1 in
    let pair = same_field l k u t e in
    sym (ap is_ordered pair) ∙ r.0
member_ordered (member l u ms) (suc i) k t o e =
    let p = and_parts (before_first l ms) _ o in
    let r = and_parts (is_ordered u) _ p.1 in
    member_ordered ms i k t r.1 e

pub changed_is : (q : Pointer) (t u : Tree) → is_ordered t ≡ true → t ≡ u → changed_in q t (Some u) ≡ []
changed_is q t u o e = ap (λ x. changed_in q t (Some x)) (sym e) ∙ changed_self q t o
