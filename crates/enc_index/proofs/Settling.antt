-- The table after one mark more, and the places that it gives.
use Rattle.std.proofs.Common.{◌≡◌, ℕ, suc, ◌+◌, ◌-◌, ◌<◌, List, [], ◌∷◌, ◌++◌, map, length, Bool, true, false, ◌||◌, ◌==◌, Option, Some, None, Result, Ok, Err, option_map, is_some, refl, sym, ap, ◌∙◌, if◌then◌else◌, arith, append_assoc, append-nil, length-append, add-one, inl, inr, Less, Equal, Greater}
use Rattle.std.specs.List.{list_any, cons_option}
use Rattle.std.proofs.lemmas.Bool.{cases_eq, ne_eqb, eq-eqb}
use Rattle.std.specs.Prelude.{◌⊎◌, nat_lt, cond}
use Rattle.std.specs.Option.{option_or}
use Rattle.std.specs.Ordering.{nat_cmp, is_eq}
use Rattle.std.specs.BTreeMap.{BTreeMap, get, is_at, Updates, UpdatesBy}
use Rattle.spec_documents.specs.Place.{◌>>=◌}
use Rattle.spec_documents.specs.Hole.{HolePlace, HoleFault, Mark, bad_hole, twice, missing, has_index, is_some_index, is_bad, first_bad, indexes, first_twice, place_of, found_place, gathered, unless_some}
use Rattle.spec_documents.proofs.PlaceLemmas.{indexes-append}
use Rattle.enc_index.proofs.MarkLists.{map-append}
use Rattle.enc_index.specs.Places.{place_view}
use Rattle.enc_index.specs.Marks.{places_of_marks}
use Rattle.enc_index.specs.Tables.{HasFirst}
use Rattle.enc_index.specs.declared.holes.Place.{Place}

-- ---- one mark more

abbrev or_later : {X : Type 0} → Option X → Option X → Option X
or_later None later = later
or_later (Some x) later = Some x

or_later_if : {X : Type 0} (b : Bool) (x : X) (o later : Option X) → or_later (if b then Some x else o) later ≡ (if b then Some x else or_later o later)
or_later_if true x o later = refl
or_later_if false x o later = refl

pub place_of-more : (i : ℕ) (ms : List Mark) (m : Mark) → place_of i (ms ++ m ∷ []) ≡ or_later (place_of i ms) (if has_index i m then Some m.place else None)
place_of-more i [] m = refl
place_of-more i (k ∷ ms) m = ap (λ o. if has_index i k then Some k.place else o) (place_of-more i ms m) ∙ sym (or_later_if (has_index i k) k.place (place_of i ms) _)

pub first_bad-more : (n : ℕ) (ms : List Mark) (m : Mark) → first_bad n (ms ++ m ∷ []) ≡ or_later (first_bad n ms) (if is_bad n m then Some m.place else None)
first_bad-more n [] m = refl
first_bad-more n (k ∷ ms) m = ap (λ o. if is_bad n k then Some k.place else o) (first_bad-more n ms m) ∙ sym (or_later_if (is_bad n k) k.place (first_bad n ms) _)

-- the marks up to the first bad one
pub first_bad-front : (n : ℕ) (ms : List Mark) (m : Mark) (more : List Mark) → first_bad n ms ≡ None → is_bad n m ≡ true → first_bad n (ms ++ m ∷ more) ≡ Some m.place
first_bad-front n [] m more e bad = ap (λ b. if b then Some m.place else first_bad n more) bad
first_bad-front n (k ∷ ms) m more e bad = by (is_bad n k) e (first_bad-front n ms m more)
  where
    by : (b : Bool) → (if b then Some k.place else first_bad n ms) ≡ None → (first_bad n ms ≡ None → is_bad n m ≡ true → first_bad n (ms ++ m ∷ more) ≡ Some m.place)
        → (if b then Some k.place else first_bad n (ms ++ m ∷ more)) ≡ Some m.place
    by true d h = cc
    by false d h = h d bad

any_swap : (i x : ℕ) (xs ys : List ℕ) → list_any (λ j. i == j) (xs ++ x ∷ ys) ≡ list_any (λ j. i == j) (x ∷ xs ++ ys)
any_swap i x [] ys = refl
any_swap i x (y ∷ xs) ys = ap (λ b. (i == y) || b) (any_swap i x xs ys) ∙ by (i == y) (i == x) (list_any (λ j. i == j) (xs ++ ys))
  where
    by : (a b c : Bool) → (a || (b || c)) ≡ (b || (a || c))
    by true true c = refl
    by true false c = refl
    by false true c = refl
    by false false c = refl

first_twice-more : (seen is : List ℕ) (i : ℕ) → first_twice seen (is ++ i ∷ []) ≡ or_later (first_twice seen is) (if list_any (λ j. i == j) (is ++ seen) then Some i else None)
first_twice-more seen [] i = refl
first_twice-more seen (k ∷ is) i =
    ap (λ o. if list_any (λ j. k == j) seen then Some k else o)
    (first_twice-more (k ∷ seen) is i ∙ ap (λ b. or_later (first_twice (k ∷ seen) is) (if b then Some i else None)) (any_swap i k is seen))
    ∙ sym (or_later_if (list_any (λ j. k == j) seen) k (first_twice (k ∷ seen) is) _)

-- an index is among those of the marks where it has a place
any_index : (i : ℕ) (ms : List Mark) → list_any (λ j. i == j) (indexes ms) ≡ is_some (place_of i ms)
any_index i [] = refl
any_index i (m ∷ ms) = by m.index (any_index i ms)
  where
    by : (o : Option ℕ) → list_any (λ j. i == j) (indexes ms) ≡ is_some (place_of i ms) → list_any (λ j. i == j) (cons_option o (indexes ms)) ≡ is_some (if is_some_index i o then Some m.place else place_of i ms)
    by None h = h
    by (Some k) h = later (i == k) h
      where
        later : (b : Bool) → list_any (λ j. i == j) (indexes ms) ≡ is_some (place_of i ms) → (b || list_any (λ j. i == j) (indexes ms)) ≡ is_some (if b then Some m.place else place_of i ms)
        later true d = refl
        later false d = d

pub twice-more : (ms : List Mark) (m : Mark) (i : ℕ) → m.index ≡ Some i → first_twice [] (indexes (ms ++ m ∷ [])) ≡ or_later (first_twice [] (indexes ms)) (if is_some (place_of i ms) then Some i else None)
twice-more ms m i e =
    ap (first_twice []) (indexes-append ms (m ∷ []) ∙ ap (λ o. indexes ms ++ cons_option o []) e)
    ∙ first_twice-more [] (indexes ms) i
    ∙ ap (λ b. or_later (first_twice [] (indexes ms)) (if b then Some i else None)) (ap (list_any (λ j. i == j)) (append-nil (indexes ms)) ∙ any_index i ms)

-- ---- the places in order

-- so many places are gathered, and what is left
pub gathered-step : (ms : List Mark) (n i : ℕ) (p : HolePlace) (ps : List HolePlace) (r : Result (List HolePlace) HoleFault) → place_of i ms ≡ Some p
    → (gathered ms (suc n) i >>= λ qs. Ok (ps ++ qs)) ≡ r → (gathered ms n (suc i) >>= λ qs. Ok ((ps ++ p ∷ []) ++ qs)) ≡ r
gathered-step ms n i p ps r here whole = by (gathered ms n (suc i)) ∙ ap (λ o. (found_place i o >>= λ q. gathered ms n (suc i) >>= λ qs. Ok (q ∷ qs)) >>= λ qs. Ok (ps ++ qs)) (sym here) ∙ whole
  where
    by : (g : Result (List HolePlace) HoleFault) → (g >>= λ qs. Ok ((ps ++ p ∷ []) ++ qs)) ≡ ((g >>= λ qs. Ok (p ∷ qs)) >>= λ qs. Ok (ps ++ qs))
    by (Ok qs) = ap Ok (append_assoc ps (p ∷ []) qs)
    by (Err e) = refl

pub gathered-missing : (ms : List Mark) (n i : ℕ) (ps : List HolePlace) (r : Result (List HolePlace) HoleFault) → place_of i ms ≡ None
    → (gathered ms (suc n) i >>= λ qs. Ok (ps ++ qs)) ≡ r → r ≡ Err (missing i)
gathered-missing ms n i ps r here whole = sym whole ∙ ap (λ o. (found_place i o >>= λ q. gathered ms n (suc i) >>= λ qs. Ok (q ∷ qs)) >>= λ qs. Ok (ps ++ qs)) here

-- ---- the order of faults

pub places-bad : (ms : List Mark) (n : ℕ) (p : HolePlace) → first_bad n ms ≡ Some p → places_of_marks ms n ≡ Err (bad_hole p)
places-bad ms n p e = ap (λ o. unless_some o bad_hole (unless_some (first_twice [] (indexes ms)) twice (gathered ms n 0))) e

-- ---- the table

abbrev pub entered : ℕ → HolePlace → Mark
entered k p = record { place = p; index = Some k }

kept : (o later : Option HolePlace) → is_some o ≡ true → or_later o later ≡ o
kept None later e = cc
kept (Some p) later e = refl

or_none : (o : Option HolePlace) → or_later o None ≡ o
or_none None = refl
or_none (Some p) = refl

none : {X : Type 0} (o : Option X) → is_some o ≡ false → o ≡ None
none None e = refl
none (Some x) e = cc

-- another index keeps its place
other_place : (i k : ℕ) (p : HolePlace) (ms : List Mark) → (i ≡ k → ⊥) → place_of i (ms ++ entered k p ∷ []) ≡ place_of i ms
other_place i k p ms ne = place_of-more i ms (entered k p) ∙ ap (λ b. or_later (place_of i ms) (if b then Some p else None)) (ne_eqb i k ne) ∙ or_none (place_of i ms)

-- an index that has a place keeps it
pub seen_place : (i k : ℕ) (p : HolePlace) (ms : List Mark) → is_some (place_of k ms) ≡ true → place_of i (ms ++ entered k p ∷ []) ≡ place_of i ms
seen_place i k p ms seen = by (cases_eq i k)
  where
    by : (i ≡ k) ⊎ (i ≡ k → ⊥) → place_of i (ms ++ entered k p ∷ []) ≡ place_of i ms
    by (inl e) = place_of-more i ms (entered k p) ∙ kept (place_of i ms) _ (ap (λ n. is_some (place_of n ms)) e ∙ seen)
    by (inr ne) = other_place i k p ms ne

new_place : (k : ℕ) (p : HolePlace) (ms : List Mark) → is_some (place_of k ms) ≡ false → place_of k (ms ++ entered k p ∷ []) ≡ Some p
new_place k p ms new = place_of-more k ms (entered k p) ∙ ap (λ o. or_later o (if k == k then Some p else None)) (none (place_of k ms) new) ∙ ap (λ b. if b then Some p else None) (eq-eqb k k refl)

is_placed : (o : Option Place) → is_some (option_map place_view o) ≡ is_some o
is_placed None = refl
is_placed (Some p) = refl

-- whether the table has an index
pub has_place : (m : BTreeMap ℕ Place) (ms : List Mark) (k : ℕ) (b : Bool) → HasFirst m ms → b ≡ is_some (get nat_cmp m k) → is_some (place_of k ms) ≡ b
has_place m ms k b held told = ap is_some (sym (held k)) ∙ is_placed (get nat_cmp m k) ∙ sym told

pub twice_seen : (ms : List Mark) (k : ℕ) (p : HolePlace) (o : Option ℕ) → o ≡ first_twice [] (indexes ms) → is_some (place_of k ms) ≡ true → option_or o (Some k) ≡ first_twice [] (indexes (ms ++ entered k p ∷ []))
twice_seen ms k p o told seen = by o ∙ ap (λ f. or_later f (Some k)) told ∙ ap (λ b. or_later (first_twice [] (indexes ms)) (if b then Some k else None)) (sym seen) ∙ sym (twice-more ms (entered k p) k refl)
  where
    by : (o : Option ℕ) → option_or o (Some k) ≡ or_later o (Some k)
    by None = refl
    by (Some i) = refl

pub twice_new : (ms : List Mark) (k : ℕ) (p : HolePlace) → is_some (place_of k ms) ≡ false → first_twice [] (indexes ms) ≡ first_twice [] (indexes (ms ++ entered k p ∷ []))
twice_new ms k p new = sym (by (first_twice [] (indexes ms))) ∙ ap (λ b. or_later (first_twice [] (indexes ms)) (if b then Some k else None)) (sym new) ∙ sym (twice-more ms (entered k p) k refl)
  where
    by : (o : Option ℕ) → or_later o None ≡ o
    by None = refl
    by (Some i) = refl

not_at : (k q : ℕ) → (q ≡ k → ⊥) → is_at (nat_cmp k) q ≡ false
not_at k q ne = by (nat_lt k q) (k == q) (ne_eqb k q (λ e. ne (sym e)))
  where
    by : (a b : Bool) → b ≡ false → is_eq (cond a Less (cond b Equal Greater)) ≡ false
    by true b e = refl
    by false true e = cc
    by false false e = refl

pub first_new : (m n : BTreeMap ℕ Place) (ms : List Mark) (k : ℕ) (p : Place) → HasFirst m ms → is_some (place_of k ms) ≡ false → Updates nat_cmp m n k (Some p) → HasFirst n (ms ++ entered k (place_view p) ∷ [])
first_new m n ms k p held new changed q = by (cases_eq q k)
  where
    by : (q ≡ k) ⊎ (q ≡ k → ⊥) → option_map place_view (get nat_cmp n q) ≡ place_of q (ms ++ entered k (place_view p) ∷ [])
    by (inl e) =
        ap (λ i. option_map place_view (get nat_cmp n i)) e ∙ ap (option_map place_view) changed.1 ∙ sym (new_place k (place_view p) ms new)
        ∙ ap (λ i. place_of i (ms ++ entered k (place_view p) ∷ [])) (sym e)
    by (inr ne) = ap (option_map place_view) (changed.2 q (not_at k q ne)) ∙ held q ∙ sym (other_place q k (place_view p) ms ne)

-- what is left after a removal
pub left_after : (m n : BTreeMap ℕ Place) (ms : List Mark) (k q : ℕ) → UpdatesBy nat_cmp (nat_cmp k) m n None → k < q → option_map place_view (get nat_cmp m q) ≡ place_of q ms → option_map place_view (get nat_cmp n q) ≡ place_of q ms
left_after m n ms k q changed lt held = ap (option_map place_view) (changed.2 q (not_at k q (λ e. absurd (omega arith)))) ∙ held

-- ---- a mark that is told at once

pub good-more : (n : ℕ) (ms : List Mark) (m : Mark) → first_bad n ms ≡ None → is_bad n m ≡ false → first_bad n (ms ++ m ∷ []) ≡ None
good-more n ms m good fine = first_bad-more n ms m ∙ ap (λ o. or_later o (if is_bad n m then Some m.place else None)) good ∙ ap (λ b. if b then Some m.place else None) fine

-- ---- the places gathered so far

pub count_more : (new old : List Place) (p : Place) (i : ℕ) → new ≡ old ++ p ∷ [] → length old ≡ i → length new ≡ i + 1
count_more new old p i grown count = ap length grown ∙ length-append old (p ∷ []) ∙ ap (λ n. n + 1) count

pub gathered-more : (ms : List Mark) (count i : ℕ) (p : Place) (old new : List Place) → i < count → new ≡ old ++ p ∷ [] → place_of i ms ≡ Some (place_view p)
    → (gathered ms (count - i) i >>= λ qs. Ok (map place_view old ++ qs)) ≡ gathered ms count 0
    → (gathered ms (count - (i + 1)) (i + 1) >>= λ qs. Ok (map place_view new ++ qs)) ≡ gathered ms count 0
gathered-more ms count i p old new lt grown here whole =
    let more : count - i ≡ suc (count - (i + 1)) = omega arith in
    let shown : map place_view new ≡ map place_view old ++ place_view p ∷ [] = ap (map place_view) grown ∙ map-append place_view old (p ∷ []) in
    ap (λ ps. gathered ms (count - (i + 1)) (i + 1) >>= λ qs. Ok (ps ++ qs)) shown
    ∙ ap (λ n. gathered ms (count - (i + 1)) n >>= λ qs. Ok ((map place_view old ++ place_view p ∷ []) ++ qs)) (add-one i)
    ∙ gathered-step ms (count - (i + 1)) i (place_view p) (map place_view old) (gathered ms count 0) here
    (ap (λ n. gathered ms n i >>= λ qs. Ok (map place_view old ++ qs)) (sym more) ∙ whole)
