-- The body that filled items make is the body of the items, filled.
use Rattle.std.proofs.Common.{◌≡◌, ℕ, List, [], ◌∷◌, map, Bool, true, false, ◌&&◌, ◌||◌, Option, Some, None, option_map, Ordering, Less, Equal, Greater, refl, sym, ap, ap₂, ◌∙◌, subst, is_some, bytes_eq}
use Rattle.std.proofs.lemmas.Bool.{or_parts}
use Rattle.std.specs.List.{list_any}
use Rattle.std.specs.Ordering.{match_ordering}
use Rattle.spec_documents.specs.Tree.{Tree, null, truth, whole, words, items, members, Members, no_members, member, name_cmp, get_member, put_member}
use Rattle.spec_documents.specs.Place.{Pointer, is_prefix}
use Rattle.spec_documents.specs.Hole.{mark, is_marked, has_mark, fill, fill_members}
use Rattle.spec_messages.specs.Block.{Items, members_of, is_apart, or_empty_object, grafted, all_grafted, body_of}
use Rattle.spec_documents.proofs.TreeLemmas.{get_put_same, get_put_other}
use Rattle.spec_documents.proofs.FillLemmas.{fill-unmarked, fill-put_member}
use Rattle.spec_messages.proofs.GrownLemmas.{is_name, name_is, no_name, Each, crosses, apart_parts}

-- ---- no object on the way to a place has the mark

abbrev pub Open : Pointer → Tree → Type 0
Open [] t = Unit {0}
Open (x ∷ p) t = (is_marked t ≡ false) × ((u : Tree) → get_member x (members_of t) ≡ Some u → Open p u)

pub open_empty : (p : Pointer) → Open p (members no_members)
open_empty [] = tt
open_empty (x ∷ p) = (refl, λ u e. absurd (clash u e))
  where
    clash : (u : Tree) → get_member x no_members ≡ Some u → ⊥
    clash u e = let no_way : None ≡ Some u = e in cc

marked_members : (t : Tree) → has_mark (members_of t) ≡ is_marked t
marked_members null = refl
marked_members (truth b) = refl
marked_members (whole z) = refl
marked_members (words s) = refl
marked_members (items ts) = refl
marked_members (members ms) = refl

filled_members : (vs : List Tree) (t : Tree) → is_marked t ≡ false → members_of (fill vs t) ≡ fill_members vs (members_of t)
filled_members vs null e = refl
filled_members vs (truth b) e = refl
filled_members vs (whole z) e = refl
filled_members vs (words s) e = refl
filled_members vs (items ts) e = refl
filled_members vs (members ms) e = ap members_of (fill-unmarked vs ms e)

chosen : (vs : List Tree) (o : Ordering) (t : Tree) (m n : Option Tree) → n ≡ option_map (fill vs) m → match_ordering o n (Some (fill vs t)) n ≡ option_map (fill vs) (match_ordering o m (Some t) m)
chosen vs Less t m n e = e
chosen vs Equal t m n e = refl
chosen vs Greater t m n e = e

filled_get : (vs : List Tree) (k : List ℕ) (ms : Members) → get_member k (fill_members vs ms) ≡ option_map (fill vs) (get_member k ms)
filled_get vs k no_members = refl
filled_get vs k (member l t ms) = chosen vs (name_cmp k l) t (get_member k ms) (get_member k (fill_members vs ms)) (filled_get vs k ms)

filled_empty : (vs : List Tree) (o : Option Tree) → fill vs (or_empty_object o) ≡ or_empty_object (option_map (fill vs) o)
filled_empty vs None = refl
filled_empty vs (Some t) = refl

token_other : (x : List ℕ) (p : Pointer) → list_any (bytes_eq mark) (x ∷ p) ≡ false → (bytes_eq mark x ≡ false) × (list_any (bytes_eq mark) p ≡ false)
token_other x p e = or_parts (bytes_eq mark x) (list_any (bytes_eq mark) p) e

put_unmarked : (x : List ℕ) (u t : Tree) → bytes_eq mark x ≡ false → is_marked t ≡ false → has_mark (put_member x u (members_of t)) ≡ false
put_unmarked x u t e m = ap is_some (get_put_other mark x u (members_of t) (no_name mark x e)) ∙ marked_members t ∙ m

open_or_empty : (p : Pointer) (o : Option Tree) → ((u : Tree) → o ≡ Some u → Open p u) → Open p (or_empty_object o)
open_or_empty p None h = open_empty p
open_or_empty p (Some u) h = h u refl

pub fill-grafted : (vs : List Tree) (p : Pointer) (v t : Tree) → list_any (bytes_eq mark) p ≡ false → Open p t → fill vs (grafted p v t) ≡ grafted p (fill vs v) (fill vs t)
fill-grafted vs [] v t e o = refl
fill-grafted vs (x ∷ p) v t e o =
    let n = token_other x p e in
    let below = or_empty_object (get_member x (members_of t)) in
    let down = fill-grafted vs p v below n.1 (open_or_empty p (get_member x (members_of t)) o.1) in
    let start : fill vs below ≡ or_empty_object (get_member x (members_of (fill vs t))) =
    filled_empty vs (get_member x (members_of t)) ∙ ap or_empty_object (sym (filled_get vs x (members_of t)) ∙ ap (get_member x) (sym (filled_members vs t o.0))) in
    fill-unmarked vs (put_member x (grafted p v below) (members_of t)) (put_unmarked x (grafted p v below) t n.0 o.0)
    ∙ ap members (fill-put_member vs x (grafted p v below) (members_of t)
    ∙ ap₂ (put_member x) (down ∙ ap (grafted p (fill vs v)) start) (sym (filled_members vs t o.0)))

crosses_down : (x y : List ℕ) (p q : Pointer) → bytes_eq x y ≡ true → crosses (x ∷ p) (y ∷ q) ≡ false → crosses p q ≡ false
crosses_down x y p q e h = by (bytes_eq x y) (bytes_eq y x) e (ap (λ z. bytes_eq y z) (is_name x y e) ∙ name_is y) h
  where
    by : (a b : Bool) → a ≡ true → b ≡ true → ((a && is_prefix p q) || (b && is_prefix q p)) ≡ false → crosses p q ≡ false
    by true true d c h = h
    by true false d c h = cc
    by false b d c h = cc

open-grafted : (p q : Pointer) (v t : Tree) → crosses p q ≡ false → list_any (bytes_eq mark) p ≡ false → Open p t → Open q t → Open q (grafted p v t)
open-grafted p [] v t c e o h = tt
open-grafted [] (y ∷ q) v t c e o h = cc
open-grafted (x ∷ p) (y ∷ q) v t c e o h =
    let n = token_other x p e in
    let below = or_empty_object (get_member x (members_of t)) in (
      put_unmarked x (grafted p v below) t n.0 o.0,
      step (bytes_eq x y) refl (λ a b. open-grafted p q v below a n.1 (open_or_empty p (get_member x (members_of t)) o.1) b),
    )
  where
    below : Tree
    below = or_empty_object (get_member x (members_of t))

    step : (b : Bool) → bytes_eq x y ≡ b → (crosses p q ≡ false → Open q below → Open q (grafted p v below)) → (u : Tree) → get_member y (put_member x (grafted p v below) (members_of t)) ≡ Some u → Open q u
    step true b more u g =
        let same = is_name x y b in
        let there : get_member y (put_member x (grafted p v below) (members_of t)) ≡ Some (grafted p v below) = ap (λ z. get_member z (put_member x (grafted p v below) (members_of t))) (sym same) ∙ get_put_same x (grafted p v below) (members_of t) in
        let is : grafted p v below ≡ u = some_same (grafted p v below) u (sym there ∙ g) in
        subst (Open q) is (more (crosses_down x y p q b c) (open_or_empty q (get_member x (members_of t)) (λ w f. h.1 w (ap (λ z. get_member z (members_of t)) (sym same) ∙ f))))
      where
        some_same : (a b : Tree) → Some a ≡ Some b → a ≡ b
        some_same a b e = cc
    step false b more u g = h.1 u (sym (get_put_other y x (grafted p v below) (members_of t) (no_name y x (other (bytes_eq y x) refl))) ∙ g)
      where
        other : (d : Bool) → bytes_eq y x ≡ d → bytes_eq y x ≡ false
        other true d = let yes : bytes_eq x y ≡ true = ap (λ z. bytes_eq z y) (sym (is_name y x d)) ∙ name_is y in let no_way : true ≡ false = sym yes ∙ b in cc
        other false d = d

each_open : (p : Pointer) (v t : Tree) (is : Items) → list_any (λ k. crosses p k.0) is ≡ false → list_any (bytes_eq mark) p ≡ false → Open p t → Each (λ q w. Open q t) is → Each (λ q w. Open q (grafted p v t)) is
each_open p v t [] c e o h = tt
each_open p v t (i ∷ is) c e o h = let d = or_parts (crosses p i.0) _ c in (open-grafted p i.0 v t d.0 e o h.0, each_open p v t is d.1 e o h.1)

abbrev pub filled_items : List Tree → Items → Items
filled_items vs is = map (λ i. (i.0, fill vs i.1)) is

fill-all : (vs : List Tree) (is : Items) (t : Tree) → is_apart is ≡ true → Each (λ p v. Open p t) is → fill vs (all_grafted is t) ≡ all_grafted (filled_items vs is) (fill vs t)
fill-all vs [] t a h = refl
fill-all vs (i ∷ is) t a h =
    let p = apart_parts i.0 i.1 is a in
    fill-all vs is (grafted i.0 i.1 t) p.2 (each_open i.0 i.1 t is p.1 p.0 h.0 h.1)
    ∙ ap (all_grafted (filled_items vs is)) (fill-grafted vs i.0 i.1 t p.0 h.0)

all_open : (is : Items) → Each (λ p v. Open p (members no_members)) is
all_open [] = tt
all_open (i ∷ is) = (open_empty i.0, all_open is)

pub fill-body : (vs : List Tree) (is : Items) → is_apart is ≡ true → body_of (filled_items vs is) ≡ option_map (fill vs) (body_of is)
fill-body vs [] a = refl
fill-body vs (i ∷ is) a = ap Some (sym (fill-all vs (i ∷ is) (members no_members) a (all_open (i ∷ is))))
