-- The first of two lists, and of a list's images; lists item by item.
use Rattle.std.proofs.Common.{◌≡◌, ℕ, ◌+◌, ◌<◌, ◌≤◌, zero, suc, List, [], ◌∷◌, ◌++◌, map, take, length, get_or, slice_get, Bool, Option, Some, None, option_map, Result, Ok, Err, refl, sym, ap, ap₂, ◌∙◌, append_assoc, arith}
use Rattle.std.specs.Option.{option_copied}
use Rattle.std.specs.Borrow.{Bor}
use Rattle.spec_messages.specs.Policy.{Address}
use Rattle.n32_values.specs.declared.memory.NoMemory.{NoMemory}
use Rattle.n32_values.proofs.Trees.{take_at}
use Rattle.policy_tables.specs.declared.address.Address.{Address as Answer}
use Rattle.message_differences.specs.declared.change.Change.{Change}
use Rattle.message_differences.specs.Fixed.{fixed_by, FirstFixed}
use Rattle.std.specs.List.{find}
use Rattle.std.specs.Option.{option_or}
use Rattle.std.proofs.lemmas.List.Folds.{find-append}
use Rattle.std.proofs.lemmas.List.{map-append}

pub found_first : {X : Type 0} (p : X → Bool) (xs ys : List X) (x : X) → find p xs ≡ Some x → find p (xs ++ ys) ≡ Some x
found_first p xs ys x e = find-append p xs ys ∙ ap (λ o. option_or o (find p ys)) e

pub found_later : {X : Type 0} (p : X → Bool) (xs ys : List X) → find p xs ≡ None → find p (xs ++ ys) ≡ find p ys
found_later p xs ys e = find-append p xs ys ∙ ap (λ o. option_or o (find p ys)) e

pub map_first : {X Y : Type 0} (f : X → Y) (p : Y → Bool) (xs ys : List X) (y : Y) → find p (map f xs) ≡ Some y → find p (map f (xs ++ ys)) ≡ Some y
map_first f p xs ys y e = ap (find p) (map-append f xs ys) ∙ found_first p (map f xs) (map f ys) y e

pub map_later : {X Y : Type 0} (f : X → Y) (p : Y → Bool) (xs ys : List X) → find p (map f xs) ≡ None → find p (map f (xs ++ ys)) ≡ find p (map f ys)
map_later f p xs ys e = ap (find p) (map-append f xs ys) ∙ found_later p (map f xs) (map f ys) e

-- the first of the head, of the middle, and of the rest of three lists
pub found_left : {X : Type 0} (p : X → Bool) (xs ys zs : List X) (x : X) → find p xs ≡ Some x → find p ((xs ++ ys) ++ zs) ≡ Some x
found_left p xs ys zs x e = found_first p (xs ++ ys) zs x (found_first p xs ys x e)

pub found_past : {X : Type 0} (p : X → Bool) (xs ys zs : List X) → find p xs ≡ None → find p ((xs ++ ys) ++ zs) ≡ find p (ys ++ zs)
found_past p xs ys zs e = ap (find p) (append_assoc xs ys zs) ∙ found_later p xs (ys ++ zs) e

-- lists with the same first
pub fixed_same : (c : Change) (r : Result (Option Answer) NoMemory) (xs ys : List Address) → find (fixed_by c) xs ≡ find (fixed_by c) ys → FirstFixed c r xs → FirstFixed c r ys
fixed_same c (Ok found) xs ys e h = h ∙ e
fixed_same c (Err why) xs ys e h = h

-- ---- lists item by item

pub get_at : {X : Type 0} (xs : List X) (i : ℕ) (x : X) → i < length xs → x ≡ get_or xs i x → slice_get xs i ≡ Some x
get_at [] i x h e = absurd (omega arith)
get_at (y ∷ xs) zero x h e = ap Some (sym e)
get_at (y ∷ xs) (suc i) x h e = get_at xs i x (omega arith) e

pub take_end : {X : Type 0} (xs : List X) (i : ℕ) → length xs ≤ i → take i xs ≡ xs
take_end [] zero h = refl
take_end [] (suc i) h = refl
take_end (x ∷ xs) zero h = absurd (omega arith)
take_end (x ∷ xs) (suc i) h = ap (λ more. x ∷ more) (take_end xs i (omega arith))

pub get_view : {A B : Type 0} (view : A → B) (xs : List A) (i : ℕ) → slice_get (map view xs) i ≡ option_map view (slice_get xs i)
get_view view [] zero = refl
get_view view [] (suc i) = refl
get_view view (x ∷ xs) zero = refl
get_view view (x ∷ xs) (suc i) = get_view view xs i

pub view_at : {A B : Type 0} (view : A → B) (xs : List A) (i : ℕ) (x : A) → slice_get xs i ≡ Some x → slice_get (map view xs) i ≡ Some (view x)
view_at view xs i x is = get_view view xs i ∙ ap (option_map view) is

pub copied_view : {A B : Type 0} (view : A → B) (xs : List A) (i : ℕ) (r : Option (Bor A)) → option_copied r ≡ slice_get xs i → option_map (λ p. view p.now) r ≡ slice_get (map view xs) i
copied_view view xs i None e = ap (option_map view) e ∙ sym (get_view view xs i)
copied_view view xs i (Some b) e = ap (option_map view) e ∙ sym (get_view view xs i)

-- one more item on both sides
pub view_more : {A B C D : Type 0} (f : A → C) (h : B → D) (g : D → C) (xs : List A) (ys : List B) (i : ℕ) (x : A) (y : B) → map f xs ≡ map g (map h (take i ys)) → slice_get ys i ≡ Some y → f x ≡ g (h y)
    → map f (xs ++ x ∷ []) ≡ map g (map h (take (i + 1) ys))
view_more f h g xs ys i x y same is e =
    map-append f xs (x ∷ []) ∙ ap₂ (λ a b. a ++ b ∷ []) same e
    ∙ sym (ap (λ zs. map g (map h zs)) (take_at ys i y is) ∙ ap (map g) (map-append h (take i ys) (y ∷ [])) ∙ map-append g (map h (take i ys)) (h y ∷ []))
