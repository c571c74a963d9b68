-- Among paths in order, those beneath a path follow it: what the walk over them finds is the first overlap.
use Rattle.std.proofs.Common.{◌≡◌, ℕ, zero, suc, ◌+◌, ◌-◌, ◌<◌, ◌≤◌, List, [], ◌∷◌, ◌++◌, length, map, drop, get_or, slice_get, Bool, true, false, ◌&&◌, ◌||◌, Option, Some, None, Ordering, Less, Equal, Greater, append_assoc, append-nil, refl, sym, ap, subst, ◌∙◌, min, arith, if◌then◌else◌}
use Rattle.std.specs.Prelude.{bytes_eq, nat_lt, nat_le, nat_eq}
use Rattle.std.specs.List.{AllByRecursion, list_any, sum_by}
use Rattle.std.specs.List.Sorted.{IsPermutation, IsSortedBy}
use Rattle.std.specs.Cmp.{IsTotalOrder, nat_cmp_is}
use Rattle.std.specs.Cmp.Lexicographic.{lists_total}
use Rattle.std.specs.FinMap.{slice_cmp-IsAntisymmetric}
use Rattle.std.specs.Ordering.{nat_cmp, is_lt, MatchOrdering, ordering_reverse, ordering_then}
use Rattle.std.proofs.lemmas.Bool.{and_parts, and_from, or_right, or_left, or_parts, leb-true, leb-false, le-leb, lt-leb, lt-ltb, le-ltb, eq-eqb, eqb-true, ne_eqb}
use Rattle.std.proofs.lemmas.Cmp.{nat_list_cmp_total, tied_itself}
use Rattle.std.proofs.lemmas.Map.Lookups.{exact_bytes}
use Rattle.std.proofs.lemmas.List.{length-drop, map-append}
use Rattle.std.proofs.lemmas.List.Folds.{list_any-append}
use Rattle.std.proofs.lemmas.List.Sorted.{list_any-IsPermutation, sum_by-IsPermutation, IsPermutation-middle, ranks_by, sorted_far}
use Rattle.std.proofs.lemmas.List.Sums.{sum_by-cons}
use Rattle.std.proofs.lemmas.Slice.Eq.{bytes_eq-Decides}
use Rattle.n32_values.proofs.Trees.{drop_at}
use Rattle.spec_documents.specs.Tree.{name_cmp}
use Rattle.spec_documents.specs.Place.{Pointer, is_prefix}
use Rattle.block_forms.specs.Paths.{path_cmp, overlaps, overlap_from}
use Rattle.block_forms.specs.Numbered.{number_view, numbered, meets, has_earlier, overlap_by, is_within, IsFirst, with_number, AreInOrder, count_of, AreOnce}
use Rattle.block_forms.specs.declared.overlaps.Numbered.{Numbered}

pub path_order : IsTotalOrder path_cmp
path_order = lists_total nat_list_cmp_total

same_path : (p q : Pointer) → path_cmp p q ≡ Equal → p ≡ q
same_path = slice_cmp-IsAntisymmetric exact_bytes

flip : (p q : Pointer) → path_cmp p q ≡ ordering_reverse (path_cmp q p)
flip p q = path_order.antisymm p q

same_token : (x y : List ℕ) → bytes_eq x y ≡ true → name_cmp x y ≡ Equal
same_token x y e = ap (name_cmp x) (sym ((bytes_eq-Decides x y).0 e)) ∙ tied_itself nat_list_cmp_total x

-- ---- a path and those beneath it stand together

-- what is above a path doesn't come after it
above_first : (p q : Pointer) → is_prefix p q ≡ true → path_cmp p q ≡ Greater → ⊥
above_first [] [] e g = cc
above_first [] (y ∷ q) e g = cc
above_first (x ∷ p) [] e g = cc
above_first (x ∷ p) (y ∷ q) e g =
    let parts = and_parts (bytes_eq x y) (is_prefix p q) e in
    let later = rw (same_token x y parts.0) at g in
    above_first p q parts.1 later

-- what comes between a path and one beneath it is beneath it
between : (p r y : Pointer) → is_prefix p r ≡ true → path_cmp p y ≡ Less → path_cmp y r ≡ Less → is_prefix p y ≡ true
between [] r y e f g = refl
between (x ∷ p) [] y e f g = cc
between (x ∷ p) (w ∷ r) [] e f g = cc
between (x ∷ p) (w ∷ r) (z ∷ y) e f g =
    let parts = and_parts (bytes_eq x w) (is_prefix p r) e in
    let same : w ≡ x = sym ((bytes_eq-Decides x w).0 parts.0) in
    by (name_cmp x z) refl (rw same at g) (between p r y parts.1)
  where
    by : (o : Ordering) → name_cmp x z ≡ o → path_cmp (z ∷ y) (x ∷ r) ≡ Less → (path_cmp p y ≡ Less → path_cmp y r ≡ Less → is_prefix p y ≡ true) → is_prefix (x ∷ p) (z ∷ y) ≡ true
    by Less d h more = let back : name_cmp z x ≡ Greater = nat_list_cmp_total.antisymm z x ∙ ap ordering_reverse d in let clash = rw back at h in cc
    by Equal d h more =
        let alike : x ≡ z = exact_bytes x z d in
        let back : name_cmp z x ≡ Equal = nat_list_cmp_total.antisymm z x ∙ ap ordering_reverse d in
        let low = rw d at f in
        let high = rw back at h in
        and_from (bytes_eq x z) (is_prefix p y) ((bytes_eq-Decides x z).1 alike) (more low high)
    by Greater d h more = let clash = rw d at f in cc

-- a path begins with itself
prefix_self : (p : Pointer) → is_prefix p p ≡ true
prefix_self [] = refl
prefix_self (x ∷ p) = and_from _ _ ((bytes_eq-Decides x x).1 refl) (prefix_self p)

-- ---- the comparison, token by token

pub tokens_differ : (l r : Pointer) (i : ℕ) (x y : List ℕ) → slice_get l i ≡ Some x → slice_get r i ≡ Some y → (name_cmp x y ≡ Equal → ⊥) → name_cmp x y ≡ path_cmp (drop i l) (drop i r)
tokens_differ l r i x y e f n = rw (drop_at l i x e, drop_at r i y f) (by (name_cmp x y) n)
  where
    by : (o : Ordering) → (o ≡ Equal → ⊥) → o ≡ ordering_then o (path_cmp (drop (i + 1) l) (drop (i + 1) r))
    by Less n = refl
    by Equal n = absurd (n refl)
    by Greater n = refl

pub tokens_alike : (l r : Pointer) (i : ℕ) (x y : List ℕ) → slice_get l i ≡ Some x → slice_get r i ≡ Some y → name_cmp x y ≡ Equal → path_cmp (drop (i + 1) l) (drop (i + 1) r) ≡ path_cmp (drop i l) (drop i r)
tokens_alike l r i x y e f n = rw (drop_at l i x e, drop_at r i y f) (rw n refl)

ended : (p q : Pointer) (a b i : ℕ) → length p ≡ a - i → length q ≡ b - i → i ≡ min a b → MatchOrdering (path_cmp p q) (a < b) (a ≡ b) (b < a)
ended [] [] a b i e f g = omega arith
ended [] (y ∷ q) a b i e f g = omega arith
ended (x ∷ p) [] a b i e f g = omega arith
ended (x ∷ p) (y ∷ q) a b i e f g = absurd (omega arith)

pub tokens_end : (l r : Pointer) (i : ℕ) → i ≡ min (length l) (length r) → path_cmp (drop i l) (drop i r) ≡ nat_cmp (length l) (length r)
tokens_end l r i e = nat_cmp_is (length l) (length r) (path_cmp (drop i l) (drop i r)) (ended (drop i l) (drop i r) (length l) (length r) i (length-drop i l) (length-drop i r) e)

-- ---- the items in another order

any_same : {X : Type 0} (p q : X → Bool) → ((x : X) → p x ≡ q x) → (xs : List X) → list_any p xs ≡ list_any q xs
any_same p q h [] = refl
any_same p q h (x ∷ xs) = rw (h x) (ap (λ b. q x || b) (any_same p q h xs))

any_alike : {X : Type 0} (p q : X → Bool) (xs : List X) → AllByRecursion (λ x. p x ≡ q x) xs → list_any p xs ≡ list_any q xs
any_alike p q [] h = refl
any_alike p q (x ∷ xs) h = rw h.0 (ap (λ b. q x || b) (any_alike p q xs h.1))

pub moved_alike : (k : ℕ) (es fs : List (ℕ × Pointer)) → IsPermutation es fs → overlap_by k fs ≡ overlap_by k es
moved_alike k es fs h =
    sym (list_any-IsPermutation (λ f. nat_le f.0 k && has_earlier f fs) es fs h)
    ∙ any_same _ _ (λ f. ap (λ b. nat_le f.0 k && b) (sym (list_any-IsPermutation (λ e. nat_lt e.0 f.0 && meets f.1 e.1) es fs h))) es

swapped : (k : ℕ) (x y : ℕ × Pointer) (es : List (ℕ × Pointer)) → overlap_by k (x ∷ y ∷ es) ≡ overlap_by k (y ∷ x ∷ es)
swapped k x y es = moved_alike k (y ∷ x ∷ es) (x ∷ y ∷ es) (IsPermutation-middle (y ∷ []) x es)

-- ---- items that change nothing

-- one of a number past k
past : (k : ℕ) (x : ℕ × Pointer) (es : List (ℕ × Pointer)) → k < x.0 → overlap_by k (x ∷ es) ≡ overlap_by k es
past k x es lt = rw (lt-leb x.0 k lt) (any_same _ _ (λ f. by f (nat_le f.0 k) refl) es)
  where
    by : (f : ℕ × Pointer) (b : Bool) → nat_le f.0 k ≡ b → (nat_le f.0 k && ((nat_lt x.0 f.0 && meets f.1 x.1) || has_earlier f es)) ≡ (nat_le f.0 k && has_earlier f es)
    by f false e = rw e refl
    by f true e = let low = leb-true f.0 k e in rw (le-ltb x.0 f.0 (omega arith)) refl

meets_back : (p q : Pointer) → meets p q ≡ false → meets q p ≡ false
meets_back p q e = let parts = or_parts (is_prefix p q) (is_prefix q p) e in rw (parts.0, parts.1) refl

none_earlier : (x : ℕ × Pointer) (es : List (ℕ × Pointer)) → AllByRecursion (λ e. meets x.1 e.1 ≡ false) es → has_earlier x es ≡ false
none_earlier x [] h = refl
none_earlier x (e ∷ es) h = rw (h.0, none_earlier x es h.1) (by (nat_lt e.0 x.0))
  where
    by : (b : Bool) → ((b && false) || false) ≡ false
    by true = refl
    by false = refl

-- one that overlaps none of them
aside : (k : ℕ) (x : ℕ × Pointer) (es : List (ℕ × Pointer)) → AllByRecursion (λ e. meets x.1 e.1 ≡ false) es → overlap_by k (x ∷ es) ≡ overlap_by k es
aside k x es h =
    rw (le-ltb x.0 x.0 (omega arith), none_earlier x es h) (by (nat_le x.0 k) ∙ any_alike _ _ es (each es h))
  where
    by : (b : Bool) → ((b && false) || list_any (λ f. nat_le f.0 k && has_earlier f (x ∷ es)) es) ≡ list_any (λ f. nat_le f.0 k && has_earlier f (x ∷ es)) es
    by true = refl
    by false = refl

    one : (a b : Bool) → (a && false || b) ≡ b
    one true b = refl
    one false b = refl

    each : (fs : List (ℕ × Pointer)) → AllByRecursion (λ e. meets x.1 e.1 ≡ false) fs → AllByRecursion (λ f. (nat_le f.0 k && has_earlier f (x ∷ es)) ≡ (nat_le f.0 k && has_earlier f es)) fs
    each [] h = tt
    each (f ∷ fs) h = (rw (meets_back x.1 f.1 h.0) (ap (λ b. nat_le f.0 k && b) (one (nat_lt x.0 f.0) (has_earlier f es))), each fs h.1)

-- ---- two that overlap

-- the later one is found, and is not needed any more
met : (k : ℕ) (e f : ℕ × Pointer) (es : List (ℕ × Pointer)) → e.0 < f.0 → meets f.1 e.1 ≡ true → overlap_by k (f ∷ e ∷ es) ≡ (nat_le f.0 k || overlap_by k (e ∷ es))
met k e f es lt m = by (nat_le f.0 k) refl
  where
    there : has_earlier f (f ∷ e ∷ es) ≡ true
    there =
        or_right (nat_lt f.0 f.0 && meets f.1 f.1) (has_earlier f (e ∷ es))
        (or_left (nat_lt e.0 f.0 && meets f.1 e.1) (has_earlier f es) (and_from (nat_lt e.0 f.0) (meets f.1 e.1) (lt-ltb e.0 f.0 lt) m))

    by : (b : Bool) → nat_le f.0 k ≡ b → overlap_by k (f ∷ e ∷ es) ≡ (nat_le f.0 k || overlap_by k (e ∷ es))
    by true i =
        or_left (nat_le f.0 k && has_earlier f (f ∷ e ∷ es)) (list_any (λ g. nat_le g.0 k && has_earlier g (f ∷ e ∷ es)) (e ∷ es)) (and_from (nat_le f.0 k) (has_earlier f (f ∷ e ∷ es)) i there)
        ∙ sym (or_left (nat_le f.0 k) (overlap_by k (e ∷ es)) i)
    by false i = past k f (e ∷ es) (leb-false f.0 k i) ∙ ap (λ b. b || overlap_by k (e ∷ es)) (sym i)

is_within_with : (k : ℕ) (found : Option ℕ) (n : ℕ) → is_within k (Some (with_number found n)) ≡ (is_within k found || nat_le n k)
is_within_with k None n = refl
is_within_with k (Some m) n = by (nat_le m k) (nat_le n k) refl refl
  where
    by : (a b : Bool) → nat_le m k ≡ a → nat_le n k ≡ b → nat_le (min m n) k ≡ (nat_le m k || nat_le n k)
    by true b e f = let low = leb-true m k e in rw e (le-leb (min m n) k (omega arith))
    by false true e f = let low = leb-true n k f in rw (e, f) (le-leb (min m n) k (omega arith))
    by false false e f = let high = leb-false m k e in let high2 = leb-false n k f in rw (e, f) (lt-leb (min m n) k (omega arith))

or_assoc : (a b c : Bool) → (a || (b || c)) ≡ ((a || b) || c)
or_assoc true b c = refl
or_assoc false b c = refl

-- ---- in order

-- what comes after a path that isn't beneath it overlaps none of those before
beyond : (p q r : Pointer) → is_prefix p q ≡ false → is_lt (path_cmp q p) ≡ false → is_lt (path_cmp r p) ≡ false → is_lt (path_cmp r q) ≡ false → meets p r ≡ false
beyond p q r e f g h = by (is_prefix p r) (is_prefix r p) refl refl
  where
    -- the order of p and q, and of q and r
    under : is_prefix p r ≡ true → ⊥
    under u = first (path_cmp p q) refl (path_cmp q r) refl
      where
        first : (o : Ordering) → path_cmp p q ≡ o → (s : Ordering) → path_cmp q r ≡ s → ⊥
        first Less a Less b = let clash = sym (between p r q u a b) ∙ e in cc
        first Less a Equal b = let same = same_path q r b in let clash = sym u ∙ (ap (is_prefix p) (sym same) ∙ e) in cc
        first Less a Greater b = let back = rw (flip r q, b) at h in cc
        first Equal a s b = let same = same_path p q a in let clash = sym (prefix_self p) ∙ (ap (is_prefix p) same ∙ e) in cc
        first Greater a s b = let back = rw (flip q p, a) at f in cc

    over : is_prefix r p ≡ true → ⊥
    over u = last (path_cmp r p) refl
      where
        last : (o : Ordering) → path_cmp r p ≡ o → ⊥
        last Less a = let back = rw a at g in cc
        last Equal a = let same = same_path r p a in under (ap (is_prefix p) same ∙ prefix_self p)
        last Greater a = above_first r p u a

    by : (a b : Bool) → is_prefix p r ≡ a → is_prefix r p ≡ b → meets p r ≡ false
    by true b i j = absurd (under i)
    by false true i j = absurd (over j)
    by false false i j = rw (i, j) refl

all_beyond : (e f : ℕ × Pointer) (es : List (ℕ × Pointer)) → is_prefix e.1 f.1 ≡ false → is_lt (path_cmp f.1 e.1) ≡ false → AllByRecursion (λ x. is_lt (path_cmp x.1 e.1) ≡ false) es → AllByRecursion (λ x. is_lt (path_cmp x.1 f.1) ≡ false) es → AllByRecursion (λ x. meets e.1 x.1 ≡ false) es
all_beyond e f [] apart up h k = tt
all_beyond e f (x ∷ es) apart up h k = (beyond e.1 f.1 x.1 apart up h.0 k.0, all_beyond e f es apart up h.1 k.1)

abbrev path_lt : Numbered → Numbered → Bool
path_lt x y = is_lt (path_cmp x.path.now y.path.now)

none_before : (x : Numbered) (xs : List Numbered) → ((j : ℕ) (d : Numbered) → j < length xs → path_lt (get_or xs j d) x ≡ false) → AllByRecursion (λ f. is_lt (path_cmp f.1 x.path.now) ≡ false) (map number_view xs)
none_before x [] h = tt
none_before x (y ∷ xs) h = (h 0 y (omega arith), none_before x xs (λ j d lt. h (suc j) d (omega arith)))

pub in_order : (xs : List Numbered) → IsSortedBy (λ x y. is_lt (path_cmp x.path.now y.path.now)) xs → AreInOrder (map number_view xs)
in_order [] up = tt
in_order (x ∷ xs) up = (
  none_before x xs (λ j d lt. sorted_far path_lt (ranks_by path_order (λ x. x.path.now)) (x ∷ xs) up 0 (suc j) d (omega arith) (omega arith)),
  in_order xs (λ k d low high. let next : suc k + 1 ≡ suc (k + 1) = omega arith in subst (λ n. path_lt (get_or (x ∷ xs) n d) (get_or xs k d) ≡ false) next (up (suc k) d (omega arith) (omega arith))),
)

-- ---- each number once

once_tail : (e : ℕ × Pointer) (es : List (ℕ × Pointer)) → AreOnce (e ∷ es) → AreOnce es
once_tail e es h m = let all = h m in omega arith

once_without : (e f : ℕ × Pointer) (es : List (ℕ × Pointer)) → AreOnce (e ∷ f ∷ es) → AreOnce (e ∷ es)
once_without e f es h m = let all = h m in omega arith

twice : (e f : ℕ × Pointer) (es : List (ℕ × Pointer)) → AreOnce (e ∷ f ∷ es) → e.0 ≡ f.0 → ⊥
twice e f es h same =
    let all : (if nat_eq e.0 e.0 then 1 else 0) + ((if nat_eq f.0 e.0 then 1 else 0) + count_of e.0 es) ≤ 1 = h e.0 in
    let both : 1 + (1 + count_of e.0 es) ≤ 1 = rw (eq-eqb e.0 e.0 refl, eq-eqb f.0 e.0 (sym same)) at all in absurd (omega arith)

none_numbered : (m k : ℕ) (ps : List Pointer) → m < k → count_of m (numbered k ps) ≡ 0
none_numbered m k [] lt = refl
none_numbered m k (p ∷ ps) lt = let none = none_numbered m (suc k) ps (omega arith) in rw (ne_eqb k m (λ e. omega arith)) (omega arith)

once_numbered : (k : ℕ) (ps : List Pointer) → AreOnce (numbered k ps)
once_numbered k [] m = omega arith
once_numbered k (p ∷ ps) m = by (nat_eq k m) refl (once_numbered (suc k) ps m)
  where
    by : (b : Bool) → nat_eq k m ≡ b → count_of m (numbered (suc k) ps) ≤ 1 → count_of m ((k, p) ∷ numbered (suc k) ps) ≤ 1
    by true e more = let same = eqb-true k m e in let none = none_numbered m (suc k) ps (omega arith) in rw (e, none) (omega arith)
    by false e more = rw e (omega arith)

count_sum : (m : ℕ) (es : List (ℕ × Pointer)) → count_of m es ≡ sum_by (λ e. if nat_eq e.0 m then 1 else 0) es
count_sum m [] = refl
count_sum m (e ∷ es) = ap (λ n. (if nat_eq e.0 m then 1 else 0) + n) (count_sum m es) ∙ sym (sum_by-cons (λ e. if nat_eq e.0 m then 1 else 0) e es)

pub once_moved : (ps : List Pointer) (es : List (ℕ × Pointer)) → IsPermutation (numbered 1 ps) es → AreOnce es
once_moved ps es h m = subst (λ n. n ≤ 1) (count_sum m (numbered 1 ps) ∙ (sym (sum_by-IsPermutation (λ e. if nat_eq e.0 m then 1 else 0) (numbered 1 ps) es h) ∙ sym (count_sum m es))) (once_numbered 1 ps m)

-- ---- the walk over the items in order

-- the item at i of a list, and those after it
pub drop_view : (xs : List Numbered) (i : ℕ) (x : Numbered) → i < length xs → x ≡ get_or xs i x → map number_view (drop i xs) ≡ number_view x ∷ map number_view (drop (i + 1) xs)
drop_view [] i x lt e = absurd (omega arith)
drop_view (y ∷ xs) zero x lt e = ap (λ z. number_view z ∷ map number_view xs) (sym e)
drop_view (y ∷ xs) (suc i) x lt e =
    let next : suc (i + 1) ≡ suc i + 1 = omega arith in
    drop_view xs i x (omega arith) e ∙ ap (λ n. number_view x ∷ map number_view (drop n (y ∷ xs))) next

pub first_view : (xs : List Numbered) (x : Numbered) → Some x ≡ slice_get xs 0 → map number_view xs ≡ number_view x ∷ map number_view (drop 1 xs)
first_view [] x e = cc
first_view (y ∷ xs) x e = let same : y ≡ x = cc in ap (λ z. number_view z ∷ map number_view xs) same

-- what was found, and the items that are left, tell what the whole does
pub record Passed (whole : List (ℕ × Pointer)) (found : Option ℕ) (left : List (ℕ × Pointer)) : Type 0 where
  pub told : (k : ℕ) → (is_within k found || overlap_by k left) ≡ overlap_by k whole
  pub order : AreInOrder left
  pub once : AreOnce left

pub passed_start : (es : List (ℕ × Pointer)) → AreInOrder es → AreOnce es → Passed es None es
passed_start es order once = record { told = λ k. refl; order = order; once = once }

pub passed_aside : (whole : List (ℕ × Pointer)) (found : Option ℕ) (e f : ℕ × Pointer) (es : List (ℕ × Pointer)) → Passed whole found (e ∷ f ∷ es) → is_prefix e.1 f.1 ≡ false → Passed whole found (f ∷ es)
passed_aside whole found e f es h apart =
    let up = h.order.0.0 in
    let all : AllByRecursion (λ x. meets e.1 x.1 ≡ false) (f ∷ es) = (beyond e.1 f.1 f.1 apart up up (rw (tied_itself path_order f.1) refl), all_beyond e f es apart up h.order.0.1 h.order.1.0) in record {
      told = λ k. ap (λ b. is_within k found || b) (sym (aside k e (f ∷ es) all)) ∙ h.told k;
      order = h.order.1;
      once = once_tail e (f ∷ es) h.once;
    }

met_then : (whole : List (ℕ × Pointer)) (found : Option ℕ) (e f : ℕ × Pointer) (es : List (ℕ × Pointer)) → ((k : ℕ) → (is_within k found || overlap_by k (f ∷ e ∷ es)) ≡ overlap_by k whole) → e.0 < f.0 → meets f.1 e.1 ≡ true → (k : ℕ) → (is_within k (Some (with_number found f.0)) || overlap_by k (e ∷ es)) ≡ overlap_by k whole
met_then whole found e f es h lt m k =
    ap (λ b. b || overlap_by k (e ∷ es)) (is_within_with k found f.0)
    ∙ (sym (or_assoc (is_within k found) (nat_le f.0 k) (overlap_by k (e ∷ es))) ∙ (ap (λ b. is_within k found || b) (sym (met k e f es lt m)) ∙ h k))

pub passed_later : (whole : List (ℕ × Pointer)) (found : Option ℕ) (e f : ℕ × Pointer) (es : List (ℕ × Pointer)) → Passed whole found (e ∷ f ∷ es) → is_prefix e.1 f.1 ≡ true → e.0 < f.0 → Passed whole (Some (with_number found f.0)) (e ∷ es)
passed_later whole found e f es h under lt = record {
  told = met_then whole found e f es (λ k. ap (λ b. is_within k found || b) (swapped k f e es) ∙ h.told k) lt (or_right (is_prefix f.1 e.1) _ under);
  order = (h.order.0.1, h.order.1.1);
  once = once_without e f es h.once;
}

pub passed_earlier : (whole : List (ℕ × Pointer)) (found : Option ℕ) (e f : ℕ × Pointer) (es : List (ℕ × Pointer)) → Passed whole found (e ∷ f ∷ es) → is_prefix e.1 f.1 ≡ true → f.0 ≤ e.0 → Passed whole (Some (with_number found e.0)) (f ∷ es)
passed_earlier whole found e f es h under le =
    let apart : e.0 ≡ f.0 → ⊥ = twice e f es h.once in
    let lt : f.0 < e.0 = omega (arith, apart) in record {
      told = met_then whole found f e es h.told lt (or_left _ (is_prefix f.1 e.1) under);
      order = h.order.1;
      once = once_tail e (f ∷ es) h.once;
    }

-- ---- the items in the order of their numbers

past_all : (k j : ℕ) (ps : List Pointer) (es : List (ℕ × Pointer)) → k < j → overlap_by k (numbered j ps ++ es) ≡ overlap_by k es
past_all k j [] es lt = refl
past_all k j (p ∷ ps) es lt = past k (j, p) (numbered (suc j) ps ++ es) lt ∙ past_all k (suc j) ps es (omega arith)

earlier_all : (j : ℕ) (p : Pointer) (es : List (ℕ × Pointer)) → AllByRecursion (λ e. e.0 < j) es → has_earlier (j, p) es ≡ overlaps p (map (λ e. e.1) es)
earlier_all j p [] h = refl
earlier_all j p (e ∷ es) h = rw (lt-ltb e.0 j h.0) (ap (λ b. meets p e.1 || b) (earlier_all j p es h.1))

none_met : (p : Pointer) (es : List (ℕ × Pointer)) → overlaps p (map (λ e. e.1) es) ≡ false → AllByRecursion (λ e. meets p e.1 ≡ false) es
none_met p [] h = tt
none_met p (e ∷ es) h = let parts = or_parts (meets p e.1) (overlaps p (map (λ e. e.1) es)) h in (parts.0, none_met p es parts.1)

later : (j : ℕ) (es : List (ℕ × Pointer)) → AllByRecursion (λ e. e.0 < j) es → AllByRecursion (λ e. e.0 < suc j) es
later j [] h = tt
later j (e ∷ es) h = let lt = h.0 in (omega arith, later j es h.1)

first_from : (j : ℕ) (es : List (ℕ × Pointer)) (ps : List Pointer) → AllByRecursion (λ e. e.0 < j) es → ((k : ℕ) → overlap_by k es ≡ false) → (k : ℕ) → is_within k (overlap_from j (map (λ e. e.1) es) ps) ≡ overlap_by k (numbered j ps ++ es)
first_from j es [] h none k = sym (none k)
first_from j es (p ∷ ps) h none k =
    by (overlaps p (map (λ e. e.1) es)) refl
    (λ e. first_from (suc j) ((j, p) ∷ es) ps (omega arith, later j es h) (λ n. aside n (j, p) es (none_met p es e) ∙ none n) k
    ∙ sym (moved_alike k (numbered (suc j) ps ++ (j, p) ∷ es) ((j, p) ∷ (numbered (suc j) ps ++ es)) (IsPermutation-middle (numbered (suc j) ps) (j, p) es)))
  where
    found : (b : Bool) → nat_le j k ≡ b → overlaps p (map (λ e. e.1) es) ≡ true → nat_le j k ≡ overlap_by k ((j, p) ∷ (numbered (suc j) ps ++ es))
    found true i e =
        let there = list_any-append (λ e. nat_lt e.0 j && meets p e.1) (numbered (suc j) ps) es ∙ or_right _ (has_earlier (j, p) es) (earlier_all j p es h ∙ e) in
        rw (i, there) (sym (or_left _ _ (or_right (nat_lt j j && meets p p) true refl)))
    found false i e = i ∙ sym (past_all k j (p ∷ ps) es (leb-false j k i) ∙ none k)

    by : (b : Bool) → overlaps p (map (λ e. e.1) es) ≡ b
        → (overlaps p (map (λ e. e.1) es) ≡ false → is_within k (overlap_from (suc j) (p ∷ map (λ e. e.1) es) ps) ≡ overlap_by k ((j, p) ∷ (numbered (suc j) ps ++ es)))
        → is_within k (overlap_from j (map (λ e. e.1) es) (p ∷ ps)) ≡ overlap_by k ((j, p) ∷ (numbered (suc j) ps ++ es))
    by true e more = rw e (found (nat_le j k) refl e)
    by false e more = rw e (more e)

same_first : (a b : Option ℕ) → ((k : ℕ) → is_within k a ≡ is_within k b) → a ≡ b
same_first None None h = refl
same_first None (Some n) h = let clash : false ≡ true = h n ∙ le-leb n n (omega arith) in cc
same_first (Some m) None h = let clash : false ≡ true = sym (h m) ∙ le-leb m m (omega arith) in cc
same_first (Some m) (Some n) h =
    let one = leb-true m n (h n ∙ le-leb n n (omega arith)) in
    let other = leb-true n m (sym (h m) ∙ le-leb m m (omega arith)) in ap Some (omega arith)

pub first_is : (paths : List Pointer) (es : List (ℕ × Pointer)) (first : Option ℕ) → IsPermutation (numbered 1 paths) es → IsFirst first es → first ≡ overlap_from 1 [] paths
first_is paths es first moved h =
    same_first first (overlap_from 1 [] paths)
    (λ k. h k ∙ (moved_alike k (numbered 1 paths) es moved ∙ sym (first_from 1 [] paths tt (λ n. refl) k ∙ ap (overlap_by k) (append-nil (numbered 1 paths)))))

-- one more path has its number
pub numbered_more : (paths : List Pointer) (es : List Numbered) (i : ℕ) (x : Numbered) → x.number ≡ i + 1 → slice_get paths i ≡ Some x.path.now → map number_view es ++ numbered (i + 1) (drop i paths) ≡ numbered 1 paths
    → map number_view (es ++ x ∷ []) ++ numbered (i + 1 + 1) (drop (i + 1) paths) ≡ numbered 1 paths
numbered_more paths es i x number path h =
    let next : suc (i + 1) ≡ i + 1 + 1 = omega arith in
    let view : number_view x ≡ (i + 1, x.path.now) = ap (λ n. (n, x.path.now)) number in
    ap (λ l. l ++ numbered (i + 1 + 1) (drop (i + 1) paths)) (map-append number_view es (x ∷ []))
    ∙ (append_assoc (map number_view es) (number_view x ∷ []) (numbered (i + 1 + 1) (drop (i + 1) paths))
    ∙ (ap (λ v. map number_view es ++ v ∷ numbered (i + 1 + 1) (drop (i + 1) paths)) view
    ∙ (ap (λ n. map number_view es ++ (i + 1, x.path.now) ∷ numbered n (drop (i + 1) paths)) (sym next)
    ∙ (ap (λ ps. map number_view es ++ numbered (i + 1) ps) (sym (drop_at paths i x.path.now path)) ∙ h))))
