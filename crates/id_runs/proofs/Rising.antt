-- Runs in rising order: what one of them tells of those before it and behind it.
use Rattle.std.proofs.Common.{◌≡◌, ◌≢◌, ◌∙◌, ℕ, ◌+◌, ◌-◌, ◌<◌, ◌≤◌, zero, suc, Bool, true, false, ◌||◌, nat_le, List, [], ◌∷◌, ◌++◌, take, drop, slice_get, Some, refl, ap, sym, subst, arith}
use Rattle.std.proofs.lemmas.Bool.Decides.{nat_tests}
use Rattle.std.proofs.lemmas.Bool.{lt-leb, and_left, and_right}
use Rattle.std.proofs.lemmas.List.{take-append-drop}
use Rattle.std.proofs.lemmas.List.Folds.{list_any-append}
use Rattle.id_runs.specs.Runs.{AreApart, IsBelow, IsAbove, end_of, has_run, is_in}
use Rattle.id_runs.specs.declared.run_list.Run.{Run}

-- ---- order

pub apart_from : (a b : ℕ) (rs : List Run) → a ≤ b → AreApart b rs → AreApart a rs
apart_from a b [] le h = tt
apart_from a b (r ∷ rs) le h = (omega (arith, h.0, le), h.1, h.2)

last_above : (low i : ℕ) (rs : List Run) (r : Run) → AreApart low rs → slice_get rs i ≡ Some r → low ≤ r.last
last_above low i [] r h e = cc
last_above low zero (q ∷ rs) r h e = let same : q ≡ r = cc in subst (λ z. low ≤ z.last) same (omega (arith, h.0, h.1))
last_above low (suc i) (q ∷ rs) r h e = omega (arith, h.0, h.1, last_above (q.last + 2) i rs r h.2 e)

below_suc : (low id i : ℕ) (rs : List Run) (r : Run) → AreApart low rs → slice_get rs i ≡ Some r → r.last < id → IsBelow id (take (suc i) rs)
below_suc low id i [] r h e lt = cc
below_suc low id zero (q ∷ rs) r h e lt = let same : r ≡ q = cc in (subst (λ z. z.last < id) same lt, tt)
below_suc low id (suc i) (q ∷ rs) r h e lt = (omega (arith, lt, last_above (q.last + 2) i rs r h.2 e), below_suc (q.last + 2) id i rs r h.2 e lt)

pub below_take : (low id i : ℕ) (rs : List Run) (r : Run) → AreApart low rs → slice_get rs i ≡ Some r → r.last < id → IsBelow id (take (i + 1) rs)
below_take low id i rs r h e lt = let next : suc i ≡ i + 1 = omega arith in subst (λ n. IsBelow id (take n rs)) next (below_suc low id i rs r h e lt)

above_from : (low id : ℕ) (rs : List Run) → AreApart low rs → id < low → IsAbove id rs
above_from low id [] h lt = tt
above_from low id (r ∷ rs) h lt = (omega (arith, h.0, lt), above_from (r.last + 2) id rs h.2 (omega (arith, h.0, h.1, lt)))

pub above_drop : (low id i : ℕ) (rs : List Run) (r : Run) → AreApart low rs → slice_get rs i ≡ Some r → id < r.first → IsAbove id (drop i rs)
above_drop low id i [] r h e lt = cc
above_drop low id zero (q ∷ rs) r h e lt =
    let same : r ≡ q = cc in
    let under : id < q.first = subst (λ z. id < z.first) same lt in
    (under, above_from (q.last + 2) id rs h.2 (omega (arith, under, h.1)))
above_drop low id (suc i) (q ∷ rs) r h e lt = above_drop (q.last + 2) id i rs r h.2 e lt

-- ---- whether an id is in one of the runs

pub none_below : (id : ℕ) (rs : List Run) → IsBelow id rs → has_run id rs ≡ false
none_below id [] h = refl
none_below id (r ∷ rs) h = rw (and_right (nat_le r.first id) (nat_le id r.last) (lt-leb id r.last h.0)) (none_below id rs h.1)

pub none_above : (id : ℕ) (rs : List Run) → IsAbove id rs → has_run id rs ≡ false
none_above id [] h = refl
none_above id (r ∷ rs) h = rw (and_left (nat_le r.first id) (nat_le id r.last) (lt-leb r.first id h.0)) (none_above id rs h.1)

-- the id is in no run, where those before a place are below it and the others above it
pub none_in : (id i : ℕ) (rs : List Run) → IsBelow id (take i rs) → IsAbove id (drop i rs) → has_run id rs ≡ false
none_in id i rs below above =
    ap (has_run id) (sym (take-append-drop i rs)) ∙ list_any-append (is_in id) (take i rs) (drop i rs)
    ∙ ap (λ b. b || has_run id (drop i rs)) (none_below id (take i rs) below) ∙ none_above id (drop i rs) above

-- an id that is in no run isn't in this one
pub not_in : (id i : ℕ) (rs : List Run) (r : Run) → has_run id rs ≡ false → slice_get rs i ≡ Some r → is_in id r ≡ false
not_in id i [] r h e = cc
not_in id zero (q ∷ rs) r h e = let same : q ≡ r = cc in subst (λ z. is_in id z ≡ false) same (left (is_in id q) (has_run id rs) h)
  where
    left : (a b : Bool) → (a || b) ≡ false → a ≡ false
    left true b h = cc
    left false b h = refl
not_in id (suc i) (q ∷ rs) r h e = not_in id i rs r (right (is_in id q) (has_run id rs) h) e
  where
    right : (a b : Bool) → (a || b) ≡ false → b ≡ false
    right true b h = cc
    right false b h = h

-- ---- runs in two parts

pub apart_both : (low : ℕ) (xs ys : List Run) → AreApart low xs → AreApart (end_of low xs) ys → AreApart low (xs ++ ys)
apart_both low [] ys h k = k
apart_both low (r ∷ xs) ys h k = (h.0, h.1, apart_both (r.last + 2) xs ys h.2 k)

pub apart_front : (low i : ℕ) (rs : List Run) → AreApart low rs → AreApart low (take i rs)
apart_front low zero rs h = tt
apart_front low (suc i) [] h = tt
apart_front low (suc i) (r ∷ rs) h = (h.0, h.1, apart_front (r.last + 2) i rs h.2)

pub apart_back : (low i : ℕ) (rs : List Run) → AreApart low rs → AreApart (end_of low (take i rs)) (drop i rs)
apart_back low zero rs h = h
apart_back low (suc i) [] h = tt
apart_back low (suc i) (r ∷ rs) h = apart_back (r.last + 2) i rs h.2

end_suc : (low i : ℕ) (rs : List Run) (r : Run) → slice_get rs i ≡ Some r → end_of low (take (suc i) rs) ≡ r.last + 2
end_suc low i [] r e = cc
end_suc low zero (q ∷ rs) r e = let same : q ≡ r = cc in ap (λ z. z.last + 2) same
end_suc low (suc i) (q ∷ rs) r e = end_suc (q.last + 2) i rs r e

pub end_take : (low i : ℕ) (rs : List Run) (r : Run) → slice_get rs i ≡ Some r → end_of low (take (i + 1) rs) ≡ r.last + 2
end_take low i rs r e = let next : suc i ≡ i + 1 = omega arith in subst (λ n. end_of low (take n rs) ≡ r.last + 2) next (end_suc low i rs r e)

-- a run stands behind those before it, and in order
pub record Stands (low : ℕ) (i : ℕ) (rs : List Run) (r : Run) : Type 0 where
  pub behind : end_of low (take i rs) ≤ r.first
  pub order : r.first ≤ r.last

pub stands : (low i : ℕ) (rs : List Run) (r : Run) → AreApart low rs → slice_get rs i ≡ Some r → Stands low i rs r
stands low i [] r h e = cc
stands low zero (q ∷ rs) r h e = let same : q ≡ r = cc in subst (λ z. Stands low 0 (q ∷ rs) z) same (record { behind = h.0; order = h.1 })
stands low (suc i) (q ∷ rs) r h e = let s = stands (q.last + 2) i rs r h.2 e in record { behind = s.behind; order = s.order }

-- what stands behind a run begins behind its end
pub apart_behind : (low i : ℕ) (rs : List Run) (r : Run) → AreApart low rs → slice_get rs i ≡ Some r → AreApart (r.last + 2) (drop (i + 1) rs)
apart_behind low i rs r h e = subst (λ n. AreApart n (drop (i + 1) rs)) (end_take low i rs r e) (apart_back low (i + 1) rs h)

-- ---- what is known of the runs on both sides of a place

pub above_at : (id i : ℕ) (rs : List Run) (r : Run) → IsAbove id (drop i rs) → slice_get rs i ≡ Some r → id < r.first
above_at id i [] r h e = cc
above_at id zero (q ∷ rs) r h e = let same : q ≡ r = cc in subst (λ z. id < z.first) same h.0
above_at id (suc i) (q ∷ rs) r h e = above_at id i rs r h e

pub below_at : (id i : ℕ) (rs : List Run) (r : Run) → IsBelow id (take (suc i) rs) → slice_get rs i ≡ Some r → r.last < id
below_at id i [] r h e = cc
below_at id zero (q ∷ rs) r h e = let same : q ≡ r = cc in subst (λ z. z.last < id) same h.0
below_at id (suc i) (q ∷ rs) r h e = below_at id i rs r h.1 e

-- a run that doesn't touch the id stands apart from it, and so do those behind it
pub apart_next : (low id i : ℕ) (rs : List Run) (r : Run) → AreApart low rs → slice_get rs i ≡ Some r → id < r.first → r.first - 1 ≢ id → AreApart (id + 2) (drop i rs)
apart_next low id i [] r h e lt ne = cc
apart_next low id zero (q ∷ rs) r h e lt ne =
    let same : r ≡ q = cc in
    let under : id < q.first = subst (λ z. id < z.first) same lt in
    let other : q.first - 1 ≢ id = subst (λ z. z.first - 1 ≢ id) same ne in
    (omega (arith, under, other), h.1, h.2)
apart_next low id (suc i) (q ∷ rs) r h e lt ne = apart_next (q.last + 2) id i rs r h.2 e lt ne

pub has_at : (id i : ℕ) (rs : List Run) (r : Run) → slice_get rs i ≡ Some r → is_in id r ≡ true → has_run id rs ≡ true
has_at id i [] r e is = cc
has_at id zero (q ∷ rs) r e is = let same : r ≡ q = cc in rw (subst (λ z. is_in id z ≡ true) same is) refl
has_at id (suc i) (q ∷ rs) r e is = rw (has_at id i rs r e is) (or_true (is_in id q))
  where
    or_true : (a : Bool) → (a || true) ≡ true
    or_true true = refl
    or_true false = refl

-- an id that is in no run of those, and not past one, is before it
pub before_it : (id : ℕ) (r : Run) → is_in id r ≡ false → id ≤ r.last → id < r.first
before_it id r h le = grind (arith, nat_tests)
