-- A run is put in the place of some: the others stay apart from it, and it has their ids and one more.
use Rattle.std.proofs.Common.{◌≡◌, ◌∙◌, ℕ, ◌+◌, ◌≤◌, zero, suc, Bool, true, false, ◌&&◌, ◌||◌, ◌==◌, nat_le, List, [], ◌∷◌, ◌++◌, take, drop, length, slice_get, slice_set, Some, refl, ap, sym, subst, arith}
use Rattle.std.proofs.lemmas.Bool.Decides.{nat_tests}
use Rattle.std.proofs.lemmas.List.{take-append-drop}
use Rattle.std.proofs.lemmas.List.Folds.{list_any-append}
use Rattle.std.specs.List.{remove}
use Rattle.id_runs.specs.Runs.{AreApart, end_of, has_run, is_in, run}
use Rattle.id_runs.specs.declared.run_list.Run.{Run}
use Rattle.id_runs.proofs.Rising.{apart_both, apart_front}

-- ---- lists

-- where one of two neighbours is removed and the other is written over
removed_suc : (rs : List Run) (i : ℕ) (r : Run) → i + 2 ≤ length rs → slice_set (remove rs (suc i)) i r ≡ take i rs ++ r ∷ drop (suc (suc i)) rs
removed_suc [] i r le = absurd (omega (arith, le))
removed_suc (a ∷ []) i r le = absurd (omega (arith, le))
removed_suc (a ∷ b ∷ rs) zero r le = refl
removed_suc (a ∷ b ∷ rs) (suc i) r le = ap (λ z. a ∷ z) (removed_suc (b ∷ rs) i r (omega (arith, le)))

pub set_removed : (rs : List Run) (i j : ℕ) (r : Run) → j ≡ i + 2 → j ≤ length rs → slice_set (remove rs (i + 1)) i r ≡ take i rs ++ r ∷ drop j rs
set_removed rs i j r e le =
    let one : suc i ≡ i + 1 = omega arith in
    let two : suc (suc i) ≡ j = omega (arith, e) in
    subst (λ n. slice_set (remove rs n) i r ≡ take i rs ++ r ∷ drop j rs) one
    (subst (λ n. slice_set (remove rs (suc i)) i r ≡ take i rs ++ r ∷ drop n rs) two (removed_suc rs i r (omega (arith, e, le))))

-- ---- the ids of a run

pub in_one : (x id : ℕ) → is_in x (run id id) ≡ (x == id)
in_one x id = grind (arith, nat_tests)

pub in_from : (x a b id : ℕ) → a ≤ b → b + 1 ≡ id → ((nat_le a x && nat_le x b) || (nat_le id x && nat_le x id)) ≡ (nat_le a x && nat_le x id)
in_from x a b id le e = grind (arith, nat_tests)

pub in_to : (x a b id : ℕ) → a ≤ b → a ≡ id + 1 → ((nat_le id x && nat_le x id) || (nat_le a x && nat_le x b)) ≡ (nat_le id x && nat_le x b)
in_to x a b id le e = grind (arith, nat_tests)

in_whole : (x first last id : ℕ) → first ≤ id → id ≤ last → ((nat_le first x && nat_le x id) || (nat_le id x && nat_le x last)) ≡ (nat_le first x && nat_le x last)
in_whole x first last id a b = grind (arith, nat_tests)

-- ---- one more run taken

has_suc : (x i : ℕ) (rs : List Run) (r : Run) → slice_get rs i ≡ Some r → has_run x (take (suc i) rs) ≡ (has_run x (take i rs) || is_in x r)
has_suc x i [] r e = cc
has_suc x zero (q ∷ rs) r e = let same : q ≡ r = cc in subst (λ z. has_run x (q ∷ []) ≡ is_in x z) same (or_false (is_in x q))
  where
    or_false : (a : Bool) → (a || false) ≡ a
    or_false true = refl
    or_false false = refl
has_suc x (suc i) (q ∷ rs) r e = ap (λ b. is_in x q || b) (has_suc x i rs r e) ∙ back (is_in x q) (has_run x (take i rs)) (is_in x r)
  where
    back : (a b c : Bool) → (a || (b || c)) ≡ ((a || b) || c)
    back true b c = refl
    back false b c = refl

pub has_take : (x i : ℕ) (rs : List Run) (r : Run) → slice_get rs i ≡ Some r → has_run x (take (i + 1) rs) ≡ (has_run x (take i rs) || is_in x r)
has_take x i rs r e = let next : suc i ≡ i + 1 = omega arith in subst (λ n. has_run x (take n rs) ≡ (has_run x (take i rs) || is_in x r)) next (has_suc x i rs r e)

behind_suc : (x i : ℕ) (rs : List Run) (r : Run) → slice_get rs i ≡ Some r → has_run x (drop i rs) ≡ (is_in x r || has_run x (drop (suc i) rs))
behind_suc x i [] r e = cc
behind_suc x zero (q ∷ rs) r e = let same : q ≡ r = cc in subst (λ z. has_run x (q ∷ rs) ≡ (is_in x z || has_run x rs)) same refl
behind_suc x (suc i) (q ∷ rs) r e = behind_suc x i rs r e

pub has_drop : (x i : ℕ) (rs : List Run) (r : Run) → slice_get rs i ≡ Some r → has_run x (drop i rs) ≡ (is_in x r || has_run x (drop (i + 1) rs))
has_drop x i rs r e = let next : suc i ≡ i + 1 = omega arith in subst (λ n. has_run x (drop i rs) ≡ (is_in x r || has_run x (drop n rs))) next (behind_suc x i rs r e)

-- the run before a place is joined with the id
pub joined_to : (x id i : ℕ) (rs : List Run) (r : Run) → slice_get rs i ≡ Some r → r.first ≤ r.last → r.last + 1 ≡ id
    → (has_run x (take (i + 1) rs) || is_in x (run id id)) ≡ (has_run x (take i rs) || is_in x (run r.first id))
joined_to x id i rs r e le next =
    ap (λ b. b || is_in x (run id id)) (has_take x i rs r e)
    ∙ grouped (has_run x (take i rs)) (is_in x r) (is_in x (run id id)) (is_in x (run r.first id)) (in_from x r.first r.last id le next)
  where
    grouped : (a b c d : Bool) → (b || c) ≡ d → ((a || b) || c) ≡ (a || d)
    grouped true b c d h = refl
    grouped false b c d h = h

-- the run at a place is joined with the id
pub joined_with : (x id i : ℕ) (rs : List Run) (r : Run) → slice_get rs i ≡ Some r → r.first ≤ r.last → r.first ≡ id + 1
    → (is_in x (run id id) || has_run x (drop i rs)) ≡ (is_in x (run id r.last) || has_run x (drop (i + 1) rs))
joined_with x id i rs r e le next =
    ap (λ b. is_in x (run id id) || b) (has_drop x i rs r e)
    ∙ grouped (is_in x (run id id)) (is_in x r) (is_in x (run id r.last)) (has_run x (drop (i + 1) rs)) (in_to x r.first r.last id le next)
  where
    grouped : (a b c d : Bool) → (a || b) ≡ c → (a || (b || d)) ≡ (c || d)
    grouped true true c d h = ap (λ z. z || d) h
    grouped true false c d h = ap (λ z. z || d) h
    grouped false b c d h = ap (λ z. z || d) h

-- ---- the whole

pub put_apart : (i j : ℕ) (rs : List Run) (first last : ℕ) → AreApart 0 rs → end_of 0 (take i rs) ≤ first → first ≤ last → AreApart (last + 2) (drop j rs) → AreApart 0 (take i rs ++ run first last ∷ drop j rs)
put_apart i j rs first last h behind order rest = apart_both 0 (take i rs) (run first last ∷ drop j rs) (apart_front 0 i rs h) (behind, order, rest)

-- the five tests in the middle
middle : (a b c d e f g : Bool) → (a || b) ≡ (c || d) → (b || e) ≡ (f || g) → b ≡ true → (c || ((d || f) || g)) ≡ true
middle a true true d e f g h k is = refl
middle a true false true e f g h k is = refl
middle true true false false e f g h k is = cc
middle false true false false e f g h k is = cc
middle a false c d e f g h k is = cc

sides : (a b c d e f g : Bool) → (a || b) ≡ (c || d) → (b || e) ≡ (f || g) → (c || ((d || f) || g)) ≡ ((a || e) || b)
sides a true c d e f g h k = middle a true c d e f g h k refl ∙ sym (last (a || e))
  where
    last : (z : Bool) → (z || true) ≡ true
    last true = refl
    last false = refl
sides true false true d e f g h k = refl
sides true false false true e f g h k = refl
sides true false false false e f g h k = cc
sides false false true d e f g h k = cc
sides false false false true e f g h k = cc
sides false false false false e f g h k = sym k ∙ same e
  where
    same : (z : Bool) → z ≡ (z || false)
    same true = refl
    same false = refl

pub put_has : (x id place i j : ℕ) (rs : List Run) (first last : ℕ) → first ≤ id → id ≤ last
    → (has_run x (take place rs) || is_in x (run id id)) ≡ (has_run x (take i rs) || is_in x (run first id))
    → (is_in x (run id id) || has_run x (drop place rs)) ≡ (is_in x (run id last) || has_run x (drop j rs))
    → has_run x (take i rs ++ run first last ∷ drop j rs) ≡ (has_run x rs || (x == id))
put_has x id place i j rs first last a b before behind =
    list_any-append (is_in x) (take i rs) (run first last ∷ drop j rs)
    ∙ ap (λ z. has_run x (take i rs) || (z || has_run x (drop j rs))) (sym (in_whole x first last id a b))
    ∙ sides (has_run x (take place rs)) (is_in x (run id id)) (has_run x (take i rs)) (is_in x (run first id)) (has_run x (drop place rs)) (is_in x (run id last)) (has_run x (drop j rs)) before behind
    ∙ ap (λ z. z || is_in x (run id id)) (sym (list_any-append (is_in x) (take place rs) (drop place rs)) ∙ ap (has_run x) (take-append-drop place rs))
    ∙ ap (λ z. has_run x rs || z) (in_one x id)
