-- The starts that wait: the first that passes, those that stay, and what all pass.
use Rattle.std.proofs.Common.{◌≡◌, ℕ, suc, zero, ◌+◌, ◌<◌, Bool, true, false, List, [], ◌∷◌, ◌++◌, length, map, take, drop, Option, None, Some, slice_get, slice_set, find, filter, refl, sym, ap, ◌∙◌, add-one, IsTrue, arith, get_or, subst, IfSome}
use Rattle.std.specs.List.{remove, list_all}
use Rattle.std.proofs.lemmas.Bool.{and_parts, and_from}
use Rattle.std.proofs.lemmas.List.{length-map}
use Rattle.spec_handshake.specs.Starts.{Start}
use Rattle.n32c_handshake.specs.Waiting.{IsFirst}

-- ---- the first that passes

later : (p : Start → Bool) (y : Start) (ys : List Start) (i : ℕ) → p y ≡ false → IsFirst p ys i → IsFirst p (y ∷ ys) (suc i)
later p y ys i fail h = record {
  start = h.start;
  there = h.there;
  found = rw fail h.found;
  without = rw fail (ap (λ z. y ∷ z) h.without);
  going_on = rw fail (ap (λ z. y ∷ z) h.going_on);
}

here : (p : Start → Bool) (y : Start) (ys : List Start) (s : Start) → y ≡ s → p s ≡ true → IsFirst p (y ∷ ys) zero
here p y ys s same pass = let first : p y ≡ true = cc in record {
  start = y;
  there = refl;
  found = rw first refl;
  without = rw first refl;
  going_on = rw first refl;
}

split : (p : Start → Bool) (y : Start) (ys : List Start) (i : ℕ) (s : Start) (b : Bool) → p y ≡ b → slice_get ys i ≡ Some s → p s ≡ true → find p (y ∷ take i ys) ≡ None
    → (find p (take i ys) ≡ None → IsFirst p ys i) → IsFirst p (y ∷ ys) (suc i)
split p y ys i s true is there pass none more = let clash : Some y ≡ None = rw is at none in cc
split p y ys i s false is there pass none more = later p y ys i is (more (rw is at none))

pub first_at : (p : Start → Bool) (xs : List Start) (i : ℕ) (s : Start) → slice_get xs i ≡ Some s → p s ≡ true → find p (take i xs) ≡ None → IsFirst p xs i
first_at p [] i s there pass none = cc
first_at p (y ∷ ys) zero s there pass none = here p y ys s (let same : y ≡ s = cc in same) pass
first_at p (y ∷ ys) (suc i) s there pass none = split p y ys i s (p y) refl there pass none (first_at p ys i s there pass)

-- none of the first so many passes, nor does the next
none_split : {A : Type 0} (p : A → Bool) (y : A) (ys zs : List A) (b : Bool) → p y ≡ b → find p (y ∷ ys) ≡ None → (find p ys ≡ None → find p zs ≡ None) → find p (y ∷ zs) ≡ None
none_split p y ys zs true is none more = let clash : Some y ≡ None = rw is at none in cc
none_split p y ys zs false is none more = rw is (more (rw is at none))

none_on : {A : Type 0} (p : A → Bool) (xs : List A) (i : ℕ) (s : A) → slice_get xs i ≡ Some s → p s ≡ false → find p (take i xs) ≡ None → find p (take (suc i) xs) ≡ None
none_on p [] i s there fail none = cc
none_on p (y ∷ ys) zero s there fail none = let is : p y ≡ false = cc in rw is refl
none_on p (y ∷ ys) (suc i) s there fail none = none_split p y (take i ys) (take (suc i) ys) (p y) refl none (none_on p ys i s there fail)

pub none_more : {A : Type 0} (p : A → Bool) (xs : List A) (i : ℕ) (s : A) → slice_get xs i ≡ Some s → p s ≡ false → find p (take i xs) ≡ None → find p (take (i + 1) xs) ≡ None
none_more p xs i s there fail none = rw add-one (none_on p xs i s there fail none)

-- ---- those that stay

gone_on : {A : Type 0} (p : A → Bool) (xs : List A) (i : ℕ) (s : A) → slice_get xs i ≡ Some s → p s ≡ false → take i (remove xs i) ++ filter p (drop i (remove xs i)) ≡ take i xs ++ filter p (drop i xs)
gone_on p [] i s there fail = cc
gone_on p (y ∷ ys) zero s there fail = let is : p y ≡ false = cc in rw is refl
gone_on p (y ∷ ys) (suc i) s there fail = ap (λ z. y ∷ z) (gone_on p ys i s there fail)

stays_on : {A : Type 0} (p : A → Bool) (xs : List A) (i : ℕ) (s : A) → slice_get xs i ≡ Some s → p s ≡ true → take (suc i) xs ++ filter p (drop (suc i) xs) ≡ take i xs ++ filter p (drop i xs)
stays_on p [] i s there pass = cc
stays_on p (y ∷ ys) zero s there pass = let is : p y ≡ true = cc in rw is refl
stays_on p (y ∷ ys) (suc i) s there pass = ap (λ z. y ∷ z) (stays_on p ys i s there pass)

-- ---- what all pass

pub all_removed : {A : Type 0} (p : A → Bool) (xs : List A) (i : ℕ) → IsTrue (list_all p xs) → IsTrue (list_all p (remove xs i))
all_removed p [] zero h = h
all_removed p [] (suc i) h = h
all_removed p (y ∷ ys) zero h = (and_parts (p y) (list_all p ys) h).1
all_removed p (y ∷ ys) (suc i) h = let parts = and_parts (p y) (list_all p ys) h in and_from _ _ parts.0 (all_removed p ys i parts.1)

pub all_taken : {A : Type 0} (p : A → Bool) (xs : List A) (i : ℕ) → IsTrue (list_all p xs) → IsTrue (list_all p (take i xs))
all_taken p xs zero h = refl
all_taken p [] (suc i) h = h
all_taken p (y ∷ ys) (suc i) h = let parts = and_parts (p y) (list_all p ys) h in and_from _ _ parts.0 (all_taken p ys i parts.1)

by_test : {A : Type 0} (p q : A → Bool) (y : A) (ys : List A) (b : Bool) → q y ≡ b → IsTrue (p y) → IsTrue (list_all p (filter q ys)) → IsTrue (list_all p (filter q (y ∷ ys)))
by_test p q y ys true is first rest = rw is (and_from _ _ first rest)
by_test p q y ys false is first rest = rw is rest

pub all_filtered : {A : Type 0} (p q : A → Bool) (xs : List A) → IsTrue (list_all p xs) → IsTrue (list_all p (filter q xs))
all_filtered p q [] h = h
all_filtered p q (y ∷ ys) h = let parts = and_parts (p y) (list_all p ys) h in by_test p q y ys (q y) refl parts.0 (all_filtered p q ys parts.1)

pub all_set : {A : Type 0} (p : A → Bool) (xs : List A) (i : ℕ) (s : A) → IsTrue (p s) → IsTrue (list_all p xs) → IsTrue (list_all p (slice_set xs i s))
all_set p [] i s is h = h
all_set p (y ∷ ys) zero s is h = and_from _ _ is (and_parts (p y) (list_all p ys) h).1
all_set p (y ∷ ys) (suc i) s is h = let parts = and_parts (p y) (list_all p ys) h in and_from _ _ parts.0 (all_set p ys i s is parts.1)

-- ---- as a list of values is seen

-- what stands at a place, as it is seen
pub seen_at : {X A : Type 0} (view : X → A) (xs : List X) (i : ℕ) (x : X) → x ≡ get_or xs i x → i < length xs → slice_get (map view xs) i ≡ Some (view x)
seen_at view [] i x is lt = absurd (omega (arith, lt))
seen_at view (y ∷ ys) zero x is lt = ap (λ z. Some (view z)) (sym is)
seen_at view (y ∷ ys) (suc i) x is lt = seen_at view ys i x is (omega (arith, lt))

pub seen_taken : {X A : Type 0} (view : X → A) (xs : List X) (i : ℕ) → map view (take i xs) ≡ take i (map view xs)
seen_taken view xs zero = refl
seen_taken view [] (suc i) = refl
seen_taken view (y ∷ ys) (suc i) = ap (λ z. view y ∷ z) (seen_taken view ys i)

pub seen_removed : {X A : Type 0} (view : X → A) (xs : List X) (i : ℕ) → map view (remove xs i) ≡ remove (map view xs) i
seen_removed view [] zero = refl
seen_removed view [] (suc i) = refl
seen_removed view (y ∷ ys) zero = refl
seen_removed view (y ∷ ys) (suc i) = ap (λ z. view y ∷ z) (seen_removed view ys i)

-- an item goes that does not pass
pub gone_at : {X A : Type 0} (view : X → A) (p : A → Bool) (xs ys : List X) (i : ℕ) (x : X) (all : List A) → slice_get (map view xs) i ≡ Some (view x) → p (view x) ≡ false → ys ≡ remove xs i
    → take i (map view xs) ++ filter p (drop i (map view xs)) ≡ all → take i (map view ys) ++ filter p (drop i (map view ys)) ≡ all
gone_at view p xs ys i x all there fails is h =
    ap (λ zs. take i (map view zs) ++ filter p (drop i (map view zs))) is
    ∙ (ap (λ zs. take i zs ++ filter p (drop i zs)) (seen_removed view xs i)
    ∙ (gone_on p (map view xs) i (view x) there fails ∙ h))

-- an item stays that passes
pub stays_at : {X A : Type 0} (view : X → A) (p : A → Bool) (xs : List X) (i : ℕ) (x : X) (all : List A) → slice_get (map view xs) i ≡ Some (view x) → p (view x) ≡ true
    → take i (map view xs) ++ filter p (drop i (map view xs)) ≡ all → take (i + 1) (map view xs) ++ filter p (drop (i + 1) (map view xs)) ≡ all
stays_at view p xs i x all there passes h = rw add-one (stays_on p (map view xs) i (view x) there passes ∙ h)

pub seen_set : {X A : Type 0} (view : X → A) (xs : List X) (i : ℕ) (x : X) → map view (slice_set xs i x) ≡ slice_set (map view xs) i (view x)
seen_set view [] i x = refl
seen_set view (y ∷ ys) zero x = refl
seen_set view (y ∷ ys) (suc i) x = ap (λ z. view y ∷ z) (seen_set view ys i x)

-- what all pass, the one at a place passes
pub all_at : {A : Type 0} (p : A → Bool) (xs : List A) (i : ℕ) (s : A) → slice_get xs i ≡ Some s → IsTrue (list_all p xs) → IsTrue (p s)
all_at p [] i s there h = cc
all_at p (y ∷ ys) zero s there h = let same : y ≡ s = cc in subst (λ z. IsTrue (p z)) same (and_parts (p y) (list_all p ys) h).0
all_at p (y ∷ ys) (suc i) s there h = all_at p ys i s there (and_parts (p y) (list_all p ys) h).1

pub some_at : {A : Type 0} (P : A → Type 0) (o : Option A) (s : A) → o ≡ Some s → P s → IfSome o P
some_at P o s is h = subst (λ z. IfSome z P) (sym is) h

pub seen_within : {X A : Type 0} (view : X → A) (xs : List X) (ys : List A) (i : ℕ) → map view xs ≡ ys → i < length ys → i < length xs
seen_within view xs ys i e lt = omega (arith, lt, ap length e, length-map xs view)
