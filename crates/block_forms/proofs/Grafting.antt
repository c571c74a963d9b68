-- Values put at their paths.
use Rattle.std.proofs.Common.{◌≡◌, ℕ, zero, suc, ◌+◌, ◌≤◌, max, List, [], ◌∷◌, length, drop, slice_get, codes, Option, Some, None, Ordering, Less, Equal, Greater, refl, sym, ap, ◌∙◌, arith}
use Rattle.std.specs.Ordering.{match_ordering}
use Rattle.spec_documents.specs.Tree.{Tree, null, truth, whole, words, items, members, Members, no_members, member, name_cmp, get_member, put_member, depth, members_depth}
use Rattle.spec_documents.specs.Place.{Pointer}
use Rattle.spec_documents.proofs.TreeLemmas.{name_self, got_low}
use Rattle.spec_messages.specs.Message.{body_depth}
use Rattle.spec_messages.specs.Block.{Items, members_of, or_empty_object, grafted, all_grafted, body_of}
use Rattle.spec_messages.proofs.GrownLemmas.{Each}
use Rattle.n32_values.proofs.Trees.{drop_at}
use Rattle.spec_messages.specs.Fault.{member_or_null}
use Rattle.block_forms.specs.Paths.{paths_of}
use Rattle.block_forms.specs.Kept.{items_with}

-- ---- of two values that a name takes the later stands

put_put_step : (k l : List ℕ) (u v w : Tree) (ms : Members) (o : Ordering) → name_cmp k l ≡ o → put_member k u (put_member k v ms) ≡ put_member k u ms
    → put_member k u (match_ordering o (member k v (member l w ms)) (member l v ms) (member l w (put_member k v ms))) ≡ put_member k u (member l w ms)
put_put_step k l u v w ms Less e h = rw (name_self k, e) refl
put_put_step k l u v w ms Equal e h = rw e refl
put_put_step k l u v w ms Greater e h = rw e (ap (member l w) h)

put_put : (k : List ℕ) (u v : Tree) (ms : Members) → put_member k u (put_member k v ms) ≡ put_member k u ms
put_put k u v no_members = rw (name_self k) refl
put_put k u v (member l w ms) = put_put_step k l u v w ms (name_cmp k l) refl (put_put k u v ms)

-- one step down a path
pub graft_step : (k : List ℕ) (p : Pointer) (v t m n : Tree) (ms held new : Members) → ms ≡ members_of t → m ≡ or_empty_object (get_member k ms) → held ≡ put_member k null ms → n ≡ grafted p v m → new ≡ put_member k n held → members new ≡ grafted (k ∷ p) v t
graft_step k p v t m n ms held new is lifted left made put =
    ap members (put ∙ ap (put_member k n) left ∙ put_put k n null ms ∙ ap (λ x. put_member k x ms) (made ∙ ap (grafted p v) lifted)
    ∙ ap (λ xs. put_member k (grafted p v (or_empty_object (get_member k xs))) xs) is)

no_values : (ps : List Pointer) → items_with ps [] ≡ []
no_values [] = refl
no_values (p ∷ ps) = refl

-- one more item
pub graft_at : (ps : List Pointer) (ts : List Tree) (i : ℕ) (p : Pointer) (t v n m all : Tree) → slice_get ps i ≡ Some p → slice_get ts i ≡ Some t → v ≡ member_or_null (codes "value") (members_of t) → m ≡ grafted p v n
    → all_grafted (items_with (drop i ps) (drop i ts)) n ≡ all → all_grafted (items_with (drop (i + 1) ps) (drop (i + 1) ts)) m ≡ all
graft_at ps ts i p t v n m all a b value made h =
    ap (all_grafted (items_with (drop (i + 1) ps) (drop (i + 1) ts))) (made ∙ ap (λ w. grafted p w n) value) ∙ (rw (drop_at ps i p a, drop_at ts i t b) at h)

-- no item is left
pub graft_done : (ps : List Pointer) (ts : List Tree) (i : ℕ) (n all : Tree) → drop i ts ≡ [] → all_grafted (items_with (drop i ps) (drop i ts)) n ≡ all → n ≡ all
graft_done ps ts i n all e h = ap (λ is. all_grafted is n) (sym (ap (items_with (drop i ps)) e ∙ no_values (drop i ps))) ∙ h

pub body_grafted : (ps : List Pointer) (ts : List Tree) (n : Tree) → ps ≡ paths_of ts → (length ts ≡ 0 → ⊥) → n ≡ all_grafted (items_with ps ts) (members no_members) → Some n ≡ body_of (items_with ps ts)
body_grafted ps [] n e some h = absurd (some refl)
body_grafted [] (t ∷ ts) n e some h = cc
body_grafted (p ∷ ps) (t ∷ ts) n e some h = ap Some h

-- ---- how deep it gets

put_low_step : (k l : List ℕ) (u w : Tree) (ms : Members) (o : Ordering) → members_depth (put_member k u ms) ≤ max (depth u) (members_depth ms)
    → members_depth (match_ordering o (member k u (member l w ms)) (member l u ms) (member l w (put_member k u ms))) ≤ max (depth u) (members_depth (member l w ms))
put_low_step k l u w ms Less h = omega arith
put_low_step k l u w ms Equal h = omega arith
put_low_step k l u w ms Greater h = omega arith

put_low : (k : List ℕ) (u : Tree) (ms : Members) → members_depth (put_member k u ms) ≤ max (depth u) (members_depth ms)
put_low k u no_members = omega arith
put_low k u (member l w ms) = put_low_step k l u w ms (name_cmp k l) (put_low k u ms)

object_low : (t : Tree) → suc (members_depth (members_of t)) ≤ max 1 (depth t)
object_low null = omega arith
object_low (truth b) = omega arith
object_low (whole z) = omega arith
object_low (words s) = omega arith
object_low (items ts) = omega arith
object_low (members ms) = omega arith

made_low : (o : Option Tree) (n d : ℕ) → 1 ≤ n → d ≤ n → ((u : Tree) → o ≡ Some u → depth u ≤ d) → depth (or_empty_object o) ≤ n
made_low None n d one le h = omega arith
made_low (Some u) n d one le h = let low = h u refl in omega arith

step_low : (k : List ℕ) (m t : Tree) (n : ℕ) → suc (depth m) ≤ n → depth t ≤ n → depth (members (put_member k m (members_of t))) ≤ n
step_low k m t n h d = let p = put_low k m (members_of t) in let o = object_low t in omega arith

below : (t : Tree) (n : ℕ) → depth t ≤ suc n → members_depth (members_of t) ≤ n
below t n d = let o = object_low t in omega arith

low_grafted : (p : Pointer) (v t : Tree) (n : ℕ) → length p + depth v ≤ n → depth t ≤ n → depth (grafted p v t) ≤ n
low_grafted [] v t n h d = omega arith
low_grafted (k ∷ []) v t n h d = step_low k v t n (omega arith) d
low_grafted (k ∷ x ∷ q) v t zero h d = absurd (omega arith)
low_grafted (k ∷ x ∷ q) v t (suc n) h d =
    let inner = low_grafted (x ∷ q) v (or_empty_object (get_member k (members_of t))) n (omega arith)
    (made_low (get_member k (members_of t)) n (members_depth (members_of t)) (omega arith) (below t n d) (λ u e. got_low k u (members_of t) e)) in
    step_low k (grafted (x ∷ q) v (or_empty_object (get_member k (members_of t)))) t (suc n) (omega arith) d

low_all : (is : Items) (t : Tree) (n : ℕ) → Each (λ p v. length p + depth v ≤ n) is → depth t ≤ n → depth (all_grafted is t) ≤ n
low_all [] t n h d = d
low_all (i ∷ is) t n h d = low_all is (grafted i.0 i.1 t) n h.1 (low_grafted i.0 i.1 t n h.0 d)

pub low_body : (is : Items) → Each (λ p v. length p + depth v ≤ 65) is → body_depth (body_of is) ≤ 65
low_body [] h = omega arith
low_body (i ∷ is) h = low_all (i ∷ is) (members no_members) 65 h (omega arith)
