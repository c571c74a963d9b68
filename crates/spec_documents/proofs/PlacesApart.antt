-- What is put at a place leaves what stands at places apart from it.
use Rattle.std.proofs.Common.{◌≡◌, ℕ, zero, suc, List, [], ◌∷◌, Bool, true, false, ◌&&◌, Option, Result, Ok, Err, refl, sym, ap, subst, ◌∙◌, if◌then◌else◌}
use Rattle.std.proofs.lemmas.Slice.Eq.{bytes_eq-Decides}
use Rattle.std.specs.Prelude.{bytes_eq}
use Rattle.spec_documents.specs.Tree.{Tree, null, truth, whole, words, items, members, Trees, no_items, item, get_item, set_item}
use Rattle.spec_documents.specs.Place.{Pointer, Cause, no_place, found, no_item, ◌>>=◌, or_same, is_index, index_number, child, at, with, put_child, is_prefix}
use Rattle.spec_documents.specs.Text.{index_text}
use Rattle.spec_documents.proofs.TreeLemmas.{same_name, chosen_ok, child-put_child}
use Rattle.spec_documents.proofs.ApartLemmas.{get_set_other}
use Rattle.spec_documents.proofs.Digits.{index_text-index_number}

get_set_other_item : (m n : ℕ) (u : Tree) (ts : Trees) → (m ≡ n → ⊥) → get_item m (set_item n u ts) ≡ get_item m ts
get_set_other_item m n u no_items ne = refl
get_set_other_item zero zero u (item t ts) ne = absurd (ne refl)
get_set_other_item zero (suc n) u (item t ts) ne = refl
get_set_other_item (suc m) zero u (item t ts) ne = refl
get_set_other_item (suc m) (suc n) u (item t ts) ne = get_set_other_item m n u ts (λ e. ne (ap suc e))

tokens_differ : (x y : List ℕ) → bytes_eq x y ≡ false → x ≡ y → ⊥
tokens_differ x y e is = let no : true ≡ false = sym ((bytes_eq-Decides x y).1 is) ∙ e in cc

-- two indexes with one number are one token
same_index : (x y : List ℕ) → is_index x ≡ true → is_index y ≡ true → index_number y ≡ index_number x → x ≡ y
same_index x y i j e = sym (index_text-index_number x i) ∙ ap index_text (sym e) ∙ index_text-index_number y j

item_by : (x y : List ℕ) (u : Tree) (ts : Trees) (b : Bool) → is_index y ≡ b → is_index x ≡ true → bytes_eq x y ≡ false
    → ◌≡◌ {A = Result Tree Cause} (if b then found (get_item (index_number y) (set_item (index_number x) u ts)) no_place else Err (no_item y)) (if b then found (get_item (index_number y) ts) no_place else Err (no_item y))
item_by x y u ts true j i e = ap (λ (o : Option Tree). found o no_place) (get_set_other_item (index_number y) (index_number x) u ts (λ same. tokens_differ x y e (same_index x y i j same)))
item_by x y u ts false j i e = refl

child_apart : (x y : List ℕ) (c u t : Tree) → child x t ≡ Ok c → bytes_eq x y ≡ false → child y (put_child x u t) ≡ child y t
child_apart x y c u null h e = refl
child_apart x y c u (truth b) h e = refl
child_apart x y c u (whole z) h e = refl
child_apart x y c u (words s) h e = refl
child_apart x y c u (items ts) h e = item_by x y u ts (is_index y) refl (chosen_ok (is_index x) (found (get_item (index_number x) ts) no_place) _ c _ refl h).0 e
child_apart x y c u (members ms) h e = ap (λ (o : Option Tree). found o no_place) (get_set_other y x u ms (λ same. tokens_differ x y e (sym (same_name y x same))))

at_child : (y : List ℕ) (q : Pointer) (t c : Tree) → child y t ≡ Ok c → at t (y ∷ q) ≡ at c q
at_child y q t c e = rw e

at_same : (y : List ℕ) (q : Pointer) (t s : Tree) → child y s ≡ child y t → at s (y ∷ q) ≡ at t (y ∷ q)
at_same y q t s e = ap (λ (r : Result Tree Cause). r >>= λ u. at u q) e

-- by whether the first tokens are the same
put_apart : (x y : List ℕ) (p q : Pointer) (t w c : Tree) (b : Bool) → bytes_eq x y ≡ b → child x t ≡ Ok c → (b && is_prefix p q) ≡ false
    → (is_prefix p q ≡ false → (x ≡ y) → at (with c p w) q ≡ at c q) → at (put_child x (with c p w) t) (y ∷ q) ≡ at t (y ∷ q)
put_apart x y p q t w c true d h e step =
    let is = (bytes_eq-Decides x y).0 d in
    let there : child y (put_child x (with c p w) t) ≡ Ok (with c p w) = subst (λ z. child z (put_child x (with c p w) t) ≡ Ok (with c p w)) is (child-put_child x (with c p w) c t h) in
    let old : child y t ≡ Ok c = subst (λ z. child z t ≡ Ok c) is h in
    at_child y q (put_child x (with c p w) t) (with c p w) there ∙ step e is ∙ sym (at_child y q t c old)
put_apart x y p q t w c false d h e step = at_same y q t (put_child x (with c p w) t) (child_apart x y c (with c p w) t h d)

prefix_back : (x y : List ℕ) (p q : Pointer) → x ≡ y → is_prefix (y ∷ q) (x ∷ p) ≡ false → is_prefix q p ≡ false
prefix_back x y p q is e = rw ((bytes_eq-Decides y x).1 (sym is)) at (e)

with_apart : (x y : List ℕ) (p q : Pointer) (t w : Tree) (r : Result Tree Cause) → child x t ≡ r → is_prefix (x ∷ p) (y ∷ q) ≡ false → is_prefix (y ∷ q) (x ∷ p) ≡ false
    → ((c : Tree) → is_prefix p q ≡ false → is_prefix q p ≡ false → at (with c p w) q ≡ at c q)
    → at (or_same (r >>= λ c. Ok (put_child x (with c p w) t)) t) (y ∷ q) ≡ at t (y ∷ q)
with_apart x y p q t w (Err why) h e d step = refl
with_apart x y p q t w (Ok c) h e d step = put_apart x y p q t w c (bytes_eq x y) refl h e (λ a is. step c a (prefix_back x y p q is d))

-- neither place is at or beneath the other
pub at-with_apart : (t w : Tree) (p q : Pointer) → is_prefix p q ≡ false → is_prefix q p ≡ false → at (with t p w) q ≡ at t q
at-with_apart t w [] q e d = cc
at-with_apart t w (x ∷ p) [] e d = cc
at-with_apart t w (x ∷ p) (y ∷ q) e d = with_apart x y p q t w (child x t) refl e d (λ c a b. at-with_apart c w p q a b)
