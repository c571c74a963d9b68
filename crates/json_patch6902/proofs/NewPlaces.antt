-- Where an item stands or goes in, and what can be added beneath the parent of a place.
use Rattle.std.proofs.Common.{◌≡◌, ℕ, zero, suc, ◌+◌, ◌-◌, ◌<◌, ◌≤◌, min, List, [], ◌∷◌, length, drop, slice_get, Bool, true, false, ◌&&◌, ◌||◌, Some, Result, Ok, Err, refl, sym, ap, ◌∙◌, subst, if◌then◌else◌, arith}
use Rattle.std.proofs.lemmas.Bool.{le-leb, lt-leb}
use Rattle.std.specs.Prelude.{nat_le}
use Rattle.std.specs.List.{insert}
use Rattle.spec_documents.specs.Tree.{Tree, items, trees, insert_item, count_items}
use Rattle.spec_documents.specs.Place.{Pointer, Cause, no_place, bad_index, found, ◌>>=◌, is_index, index_number, is_dash, no_item, child, at, with, front, last}
use Rattle.spec_documents.specs.Patch.{child_added, added}
use Rattle.spec_documents.proofs.FieldLemmas.{count_items-trees, get_item-trees, insert_item-trees}
use Rattle.n32_values.proofs.Trees.{drop_at}
use Rattle.json_ptr.proofs.Walks.{find_step}
use Rattle.json_patch6902.specs.declared.fault.EditFault.{EditFault}
use Rattle.json_patch6902.specs.declared.fault.EditFault.TheVariants.{Cause as because, NoMemory}
use Rattle.json_patch6902.specs.Faults.{cause_view}
use Rattle.json_patch6902.specs.Edits.{IsItemAt, GoesInAt, Takes}
use Rattle.json_patch6902.proofs.PutBack.{chosen_item}

chosen : (b : Bool) (r s : Result Tree Cause) → b ≡ true → (if b then r else s) ≡ r
chosen true r s e = refl
chosen false r s e = cc

-- ---- items

pub stands_at : (x : List ℕ) (ts : List Tree) (i top : ℕ) → is_index x ≡ true → i ≡ min (index_number x) top → i < length ts → i < top → IsItemAt x ts i
stands_at x ts i top on num low fits = record { index = on; number = omega arith; within = low }

pub item_child : (x : List ℕ) (ts : List Tree) (i : ℕ) (u : Tree) → IsItemAt x ts i → slice_get ts i ≡ Some u → child x (items (trees ts)) ≡ Ok u
item_child x ts i u h there =
    chosen (is_index x) _ _ h.index ∙ ap (λ o. found o no_place) (get_item-trees (index_number x) ts ∙ ap (slice_get ts) h.number ∙ there)

pub dash_place : (x : List ℕ) (ts : List Tree) → is_dash x ≡ true → GoesInAt x ts (length ts)
dash_place x ts d = record {
  within = omega arith;
  becomes = λ v. chosen (is_dash x) _ _ d ∙ ap (λ us. Ok (items us)) (ap (λ n. insert_item n v (trees ts)) (count_items-trees ts) ∙ insert_item-trees (length ts) v ts);
}

number_is : (n i top len : ℕ) → i ≡ min n top → i ≤ len → len < top → n ≡ i
number_is n i top len num low fits = omega arith

pub index_place : (x : List ℕ) (ts : List Tree) (i top : ℕ) → is_dash x ≡ false → is_index x ≡ true → i ≡ min (index_number x) top → i ≤ length ts → length ts < top → GoesInAt x ts i
index_place x ts i top other on num low fits =
    let same = number_is (index_number x) i top (length ts) num low fits in
    let room : nat_le (index_number x) (count_items (trees ts)) ≡ true = le-leb (index_number x) (count_items (trees ts)) (omega (arith, count_items-trees ts)) in record {
      within = low;
      becomes = λ v. chosen_item (is_dash x) (is_index x) (nat_le (index_number x) (count_items (trees ts))) _ _ _ other on room
          ∙ ap (λ us. Ok (items us)) (ap (λ n. insert_item n v (trees ts)) same ∙ insert_item-trees i v ts);
    }

other_item : (d b c : Bool) (r s e : Result Tree Cause) → d ≡ false → (b && c) ≡ false → (if d then r else (if b && c then s else e)) ≡ e
other_item false true false r s e p q = refl
other_item false true true r s e p q = cc
other_item false false c r s e p q = refl
other_item true b c r s e p q = cc

and_false : (b c : Bool) → c ≡ false → (b && c) ≡ false
and_false true c e = e
and_false false c e = refl

cause_index : (b d : Bool) → b ≡ true → ◌≡◌ {A = Cause} (if b || d then no_place else bad_index) no_place
cause_index true d e = refl
cause_index false d e = cc

cause_other : (b d : Bool) → b ≡ false → d ≡ false → ◌≡◌ {A = Cause} (if b || d then no_place else bad_index) bad_index
cause_other false false e f = refl
cause_other true d e f = cc
cause_other false true e f = cc

pub past_place : (x : List ℕ) (ts : List Tree) (i top : ℕ) → is_dash x ≡ false → is_index x ≡ true → i ≡ min (index_number x) top → length ts < i → (v : Tree) → child_added x v (items (trees ts)) ≡ Err no_place
past_place x ts i top other on num high = λ v.
    let past : nat_le (index_number x) (count_items (trees ts)) ≡ false = lt-leb (index_number x) (count_items (trees ts)) (omega (arith, count_items-trees ts)) in
    other_item (is_dash x) (is_index x) (nat_le (index_number x) (count_items (trees ts))) _ _ _ other (and_false (is_index x) _ past)
    ∙ ap (λ why. Err why) (cause_index (is_index x) (is_dash x) on)

first_false : (b c : Bool) → b ≡ false → (b && c) ≡ false
first_false false c e = refl
first_false true c e = cc

pub other_place : (x : List ℕ) (ts : List Tree) → is_dash x ≡ false → is_index x ≡ false → (v : Tree) → child_added x v (items (trees ts)) ≡ Err bad_index
other_place x ts other off = λ v.
    other_item (is_dash x) (is_index x) (nat_le (index_number x) (count_items (trees ts))) _ _ _ other (first_false (is_index x) _ off)
    ∙ ap (λ why. Err why) (cause_other (is_index x) (is_dash x) off other)

pub place_takes : (x : List ℕ) (ts : List Tree) (i : ℕ) → GoesInAt x ts i → (v : Tree) → (w : Tree) × (child_added x v (items (trees ts)) ≡ Ok w)
place_takes x ts i h = λ v. (items (trees (insert ts i v)), h.becomes v)

-- ---- the parent

pub length-front : (p : Pointer) → length (front p) ≡ length p - 1
length-front [] = refl
length-front (x ∷ []) = refl
length-front (x ∷ y ∷ p) = omega (arith, length-front (y ∷ p))

pub get_front : (p : Pointer) (i : ℕ) (x : List ℕ) → slice_get p i ≡ Some x → i + 1 < length p → slice_get (front p) i ≡ Some x
get_front [] i x e h = cc
get_front (z ∷ []) i x e h = absurd (omega arith)
get_front (z ∷ y ∷ p) zero x e h = e
get_front (z ∷ y ∷ p) (suc i) x e h = get_front (y ∷ p) i x e (omega arith)

pub get_last : (p : Pointer) (i : ℕ) (x : List ℕ) → slice_get p i ≡ Some x → i + 1 ≡ length p → last p ≡ x
get_last [] i x e h = cc
get_last (z ∷ []) zero x e h = cc
get_last (z ∷ []) (suc i) x e h = absurd (omega arith)
get_last (z ∷ y ∷ p) zero x e h = absurd (omega arith)
get_last (z ∷ y ∷ p) (suc i) x e h = get_last (y ∷ p) i x e (omega arith)

drop_past : {X : Type 0} (xs : List X) (i : ℕ) → length xs ≤ i → drop i xs ≡ []
drop_past [] zero le = refl
drop_past [] (suc i) le = refl
drop_past (x ∷ xs) zero le = absurd (omega arith)
drop_past (x ∷ xs) (suc i) le = drop_past xs i (omega arith)

-- the walk, one token further
pub front_step : (t c : Tree) (p : Pointer) (i : ℕ) (x : List ℕ) (out : Result Tree Cause) → slice_get p i ≡ Some x → i + 1 < length p → child x t ≡ Ok c → at t (drop i (front p)) ≡ out → at c (drop (i + 1) (front p)) ≡ out
front_step t c p i x out is h there e = find_step t c (front p) i x out (get_front p i x is h) there e

pub front_refused : (t : Tree) (p : Pointer) (i : ℕ) (x : List ℕ) (why : Cause) (out : Result Tree Cause) → slice_get p i ≡ Some x → i + 1 < length p → child x t ≡ Err why → at t (drop i (front p)) ≡ out → out ≡ Err why
front_refused t p i x why out is h none e = sym e ∙ ap (at t) (drop_at (front p) i x (get_front p i x is h)) ∙ rw none refl

-- the walk's end
pub parent_done : (p : Pointer) (i : ℕ) (u : Tree) (out : Result Tree Cause) → length p - 1 ≤ i → at u (drop i (front p)) ≡ out → out ≡ Ok u
parent_done p i u out le h = sym (sym (ap (at u) (drop_past (front p) i (omega (arith, length-front p)))) ∙ h)

added_by : (p : Pointer) (v t u : Tree) (x : List ℕ) → 0 < length p → at t (front p) ≡ Ok u → last p ≡ x → added p v t ≡ (child_added x v u >>= λ w. Ok (with t (front p) w))
added_by [] v t u x some a l = absurd (omega arith)
added_by (y ∷ p) v t u x some a l = rw (a, l) refl

pub takes_under : {A : Type 0} (p : Pointer) (t u : Tree) (x : List ℕ) (r : Result A EditFault) → 0 < length p → at t (front p) ≡ Ok u → last p ≡ x → Takes (λ v. child_added x v u) r → Takes (λ v. added p v t) r
takes_under p t u x (Ok z) some a l h = λ v. (with t (front p) (h v).0, added_by p v t u x some a l ∙ ap (λ r. r >>= λ w. Ok (with t (front p) w)) (h v).1)
takes_under p t u x (Err (because why)) some a l h = λ v. added_by p v t u x some a l ∙ ap (λ r. r >>= λ w. Ok (with t (front p) w)) (h v)
takes_under p t u x (Err NoMemory) some a l h = tt
