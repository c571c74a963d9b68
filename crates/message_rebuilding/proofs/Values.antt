-- The values of holes, and lists whose items are filled one by one.
use Rattle.std.proofs.Common.{◌≡◌, ℕ, zero, suc, ◌+◌, ◌≤◌, min, List, [], ◌∷◌, ◌++◌, map, length, take, drop, Option, Some, None, slice_get, refl, sym, ap, ap₂, ◌∙◌, arith}
use Rattle.std.proofs.lemmas.List.{map-append, take_all}
use Rattle.spec_documents.specs.Tree.{Tree, null}
use Rattle.spec_documents.specs.Hole.{value_at}
use Rattle.spec_messages.specs.Rebuilt.{lesser, least}
use Rattle.n32_values.proofs.Trees.{take_at, drop_at}

pub value_none : (vs : List Tree) (i : ℕ) → None ≡ slice_get vs i → value_at vs i ≡ null
value_none [] i e = refl
value_none (v ∷ vs) zero e = cc
value_none (v ∷ vs) (suc i) e = value_none vs i e

-- ---- lists

pub one_filled : {X Y : Type 0} (view : X → Y) (f : Y → Y) (xs : List X) (i : ℕ) (x y : X) (out grown : List X) → slice_get xs i ≡ Some x → view y ≡ f (view x) → grown ≡ out ++ y ∷ []
    → map view out ≡ map f (map view (take i xs)) → map view grown ≡ map f (map view (take (i + 1) xs))
one_filled view f xs i x y out grown here is added so_far =
    ap (map view) added ∙ map-append view out (y ∷ []) ∙ ap₂ (λ zs z. zs ++ z ∷ []) so_far is
    ∙ sym (map-append f (map view (take i xs)) (view x ∷ [])) ∙ ap (map f) (sym (map-append view (take i xs) (x ∷ [])) ∙ ap (map view) (sym (take_at xs i x here)))

pub all_filled : {X Y : Type 0} (view : X → Y) (f : Y → Y) (xs : List X) (i : ℕ) (out : List X) → length xs ≤ i → map view out ≡ map f (map view (take i xs)) → map view out ≡ map f (map view xs)
all_filled view f xs i out le so_far = so_far ∙ ap (λ zs. map f (map view zs)) (take_all i xs le)

-- ---- the least of some numbers, from the front

lesser_on : (a b c : Option ℕ) → lesser (lesser a b) c ≡ lesser a (lesser b c)
lesser_on None b c = refl
lesser_on (Some m) None c = refl
lesser_on (Some m) (Some n) None = refl
lesser_on (Some m) (Some n) (Some k) = let same : min (min m n) k ≡ min m (min n k) = omega arith in ap Some same

lesser_none : (a : Option ℕ) → lesser a None ≡ a
lesser_none None = refl
lesser_none (Some m) = refl

pub one_less : {X Y : Type 0} (view : X → Y) (f : Y → Option ℕ) (xs : List X) (i : ℕ) (x : X) (o p found : Option ℕ) → slice_get xs i ≡ Some x → p ≡ f (view x) → found ≡ lesser o p
    → lesser o (least (map f (map view (drop i xs)))) ≡ least (map f (map view xs)) → lesser found (least (map f (map view (drop (i + 1) xs)))) ≡ least (map f (map view xs))
one_less view f xs i x o p found here is less so_far =
    ap (λ a. lesser a (least (map f (map view (drop (i + 1) xs))))) (less ∙ ap (lesser o) is) ∙ lesser_on o (f (view x)) _
    ∙ ap (λ zs. lesser o (least (map f (map view zs)))) (sym (drop_at xs i x here)) ∙ so_far

pub all_less : {X Y : Type 0} (view : X → Y) (f : Y → Option ℕ) (xs : List X) (i : ℕ) (o : Option ℕ) → length xs ≤ i → lesser o (least (map f (map view (drop i xs)))) ≡ least (map f (map view xs)) → o ≡ least (map f (map view xs))
all_less view f xs i o le so_far = sym (lesser_none o) ∙ ap (λ zs. lesser o (least (map f (map view zs)))) (sym (none_left xs i le)) ∙ so_far
  where
    none_left : {X : Type 0} (xs : List X) (i : ℕ) → length xs ≤ i → drop i xs ≡ []
    none_left [] zero le = refl
    none_left [] (suc i) le = refl
    none_left (x ∷ xs) zero le = absurd (omega arith)
    none_left (x ∷ xs) (suc i) le = none_left xs i (omega arith)
