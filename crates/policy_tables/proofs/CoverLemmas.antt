-- Elements that cover an address, one by one.
use Rattle.std.proofs.Common.{◌≡◌, ℕ, List, ◌∷◌, map, filter, drop, ◌+◌, slice_get, Option, Some, None, option_map, Bool, true, false, ◌&&◌, ◌||◌, refl, sym, ap, ◌∙◌, if◌then◌else◌, ◌<◌, ◌-◌, arith}
use Rattle.std.specs.List.{list_any}
use Rattle.n32_values.proofs.Trees.{drop_at}
use Rattle.spec_documents.specs.Place.{Pointer, pointer_text}
use Rattle.spec_documents.proofs.PointerLemmas.{read_pointer-text}
use Rattle.spec_messages.specs.Message.{Kind}
use Rattle.spec_messages.specs.Policy.{pointer_of, result_ok, Address, covers, deciding, heavier}
use Rattle.policy_documents.specs.View.{element_view}
use Rattle.policy_documents.specs.declared.policy.Element.{Element}

-- the pointer of an element is that of its text
pub kept_pointer : (o : Option Pointer) → pointer_of (option_map pointer_text o) ≡ o
kept_pointer None = refl
kept_pointer (Some p) = ap result_ok (read_pointer-text p)

-- an element that isn't sensitive, or doesn't cover
step_by : {A : Type 0} (f g : A → Bool) (x : A) (xs : List A) (t : Bool) → g x ≡ t → list_any f (filter g (x ∷ xs)) ≡ (t && f x) || list_any f (filter g xs)
step_by f g x xs true e = rw e refl
step_by f g x xs false e = rw e refl

pub cover_here : {A B : Type 0} (view : A → B) (f g : B → Bool) (xs : List A) (i : ℕ) (x : A) (all : Bool) → slice_get xs i ≡ Some x → list_any f (filter g (map view (drop i xs))) ≡ all → (g (view x) && f (view x)) ≡ true → true ≡ all
cover_here view f g xs i x all is h e =
    sym (step_by f g (view x) (map view (drop (i + 1) xs)) (g (view x)) refl ∙ ap (λ t. t || list_any f (filter g (map view (drop (i + 1) xs)))) e) ∙ (rw (drop_at xs i x is) at h)

pub cover_later : {A B : Type 0} (view : A → B) (f g : B → Bool) (xs : List A) (i : ℕ) (x : A) (all : Bool) → slice_get xs i ≡ Some x → list_any f (filter g (map view (drop i xs))) ≡ all → (g (view x) && f (view x)) ≡ false → list_any f (filter g (map view (drop (i + 1) xs))) ≡ all
cover_later view f g xs i x all is h e =
    sym (step_by f g (view x) (map view (drop (i + 1) xs)) (g (view x)) refl ∙ ap (λ t. t || list_any f (filter g (map view (drop (i + 1) xs)))) e) ∙ (rw (drop_at xs i x is) at h)

-- ---- the deciding element, from the end

back_one : {A : Type 0} (xs : List A) (i : ℕ) (x : A) → 0 < i → slice_get xs (i - 1) ≡ Some x → drop (i - 1) xs ≡ x ∷ drop i xs
back_one xs i x h is = let same : i - 1 + 1 ≡ i = omega arith in drop_at xs (i - 1) x is ∙ ap (λ n. x ∷ drop n xs) same

pub decides_here : (kind : Kind) (es : List Element) (i : ℕ) (e : Element) (a : Address) → 0 < i → slice_get es (i - 1) ≡ Some e → covers kind a (element_view e) ≡ true
    → deciding kind (map element_view (drop (i - 1) es)) a ≡ heavier kind (element_view e) (deciding kind (map element_view (drop i es)) a)
decides_here kind es i e a h is c =
    ap (λ ys. deciding kind (map element_view ys) a) (back_one es i e h is)
    ∙ ap (λ t. if t then heavier kind (element_view e) (deciding kind (map element_view (drop i es)) a) else deciding kind (map element_view (drop i es)) a) c

pub decides_later : (kind : Kind) (es : List Element) (i : ℕ) (e : Element) (a : Address) → 0 < i → slice_get es (i - 1) ≡ Some e → covers kind a (element_view e) ≡ false
    → deciding kind (map element_view (drop (i - 1) es)) a ≡ deciding kind (map element_view (drop i es)) a
decides_later kind es i e a h is c =
    ap (λ ys. deciding kind (map element_view ys) a) (back_one es i e h is)
    ∙ ap (λ t. if t then heavier kind (element_view e) (deciding kind (map element_view (drop i es)) a) else deciding kind (map element_view (drop i es)) a) c
