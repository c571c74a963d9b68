-- What a tree of pointers covers.
use Rattle.std.proofs.Common.{◌≡◌, ℕ, ◌+◌, List, [], ◌∷◌, ◌++◌, map, filter, drop, slice_get, Bool, true, false, ◌&&◌, ◌||◌, Option, Some, None, Ordering, Less, Equal, Greater, refl, sym, ap, ◌∙◌, if◌then◌else◌}
use Rattle.std.specs.Prelude.{bytes_eq}
use Rattle.std.specs.List.{list_any}
use Rattle.std.specs.Ordering.{match_ordering}
use Rattle.spec_documents.specs.Tree.{Tree, null, truth, whole, words, items, members, Members, no_members, member, get_member, put_member, name_cmp}
use Rattle.spec_documents.specs.Place.{Pointer, is_prefix}
use Rattle.spec_documents.proofs.TreeLemmas.{name_self, get_put_same, get_put_other}
use Rattle.spec_messages.specs.Block.{members_of, or_empty_object}
use Rattle.spec_documents.proofs.EditLemmas.{apart_names}
use Rattle.spec_messages.proofs.GrownLemmas.{is_name}
use Rattle.spec_messages.specs.Message.{Kind}
use Rattle.spec_messages.specs.Policy.{Element, Location, uri_param, header, body, multipart_binary, body_at, counted, is_above, covers_body, covers, sensitive, is_covered}
use Rattle.n32_values.proofs.Trees.{drop_at}
use Rattle.policy_tables.specs.Covered.{is_end, is_end_there, entered, descended, covered, with_pointer, body_pointer_by, body_pointer, with_pointer_if, with_elements, Asked, sensitive_tree, covering_view, Leads}
use Rattle.policy_tables.specs.declared.rules.Covering.{Covering}

pub step : (q : Pointer) (x : List ℕ) (o : Option Tree) → descended (q ++ x ∷ []) o ≡ entered x (descended q o)
step [] x o = refl
step (y ∷ q) x o = step q x (entered y o)

nothing : (q : Pointer) → covered q None ≡ false
nothing [] = refl
nothing (x ∷ q) = nothing q

end_stays : (q : Pointer) (t : Tree) → is_end t ≡ true → covered q (Some t) ≡ true
end_stays [] t e = e
end_stays (x ∷ q) t e = rw e (end_stays q t e)

empty : (q : Pointer) → covered q (Some (members no_members)) ≡ false
empty [] = refl
empty (x ∷ q) = nothing q

or_empty : (q : Pointer) (o : Option Tree) → covered q (Some (or_empty_object o)) ≡ covered q o
or_empty q None = empty q ∙ sym (nothing q)
or_empty q (Some t) = refl

next : (x : List ℕ) (q : Pointer) (t : Tree) → is_end t ≡ false → covered (x ∷ q) (Some t) ≡ covered q (get_member x (members_of t))
next x q t e = rw e refl

beneath : (x y : List ℕ) (r : Tree) (ms : Members) (p q : Pointer) (b : Bool) → bytes_eq x y ≡ b → covered q (Some r) ≡ is_prefix p q || covered q (get_member x ms)
    → covered q (get_member y (put_member x r ms)) ≡ (b && is_prefix p q) || covered q (get_member y ms)
beneath x y r ms p q true e h =
    let same = is_name x y e in
    ap (λ z. covered q (get_member z (put_member x r ms))) (sym same) ∙ ap (covered q) (get_put_same x r ms) ∙ h ∙ ap (λ z. is_prefix p q || covered q (get_member z ms)) same
beneath x y r ms p q false e h = ap (covered q) (get_put_other y x r ms (apart_names x y e))

or_last : (b : Bool) → true ≡ b || true
or_last true = refl
or_last false = refl

pub one_more : (p q : Pointer) (t : Tree) → covered q (Some (with_pointer p t)) ≡ is_prefix p q || covered q (Some t)
one_more [] q t = end_stays q (truth true) refl
one_more (x ∷ p) q t = by (is_end t) refl q (λ r. one_more p r (or_empty_object (get_member x (members_of t))))
  where
    by : (b : Bool) → is_end t ≡ b → (q : Pointer)
        → ((r : Pointer) → covered r (Some (with_pointer p (or_empty_object (get_member x (members_of t))))) ≡ is_prefix p r || covered r (Some (or_empty_object (get_member x (members_of t)))))
        → covered q (Some (if b then t else members (put_member x (with_pointer p (or_empty_object (get_member x (members_of t)))) (members_of t)))) ≡ is_prefix (x ∷ p) q || covered q (Some t)
    by true e q below = end_stays q t e ∙ or_last (is_prefix (x ∷ p) q) ∙ ap (λ b. is_prefix (x ∷ p) q || b) (sym (end_stays q t e))
    by false e [] below = sym e
    by false e (y ∷ q) below =
        beneath x y _ (members_of t) p q (bytes_eq x y) refl (below q ∙ ap (λ b. is_prefix p q || b) (or_empty q (get_member x (members_of t))))
        ∙ ap (λ b. is_prefix (x ∷ p) (y ∷ q) || b) (sym (next y q t e))

or_swap : (a b c : Bool) → a || (b || c) ≡ (b || a) || c
or_swap true true c = refl
or_swap true false c = refl
or_swap false true c = refl
or_swap false false c = refl

or_none : (b : Bool) → b || false ≡ b
or_none true = refl
or_none false = refl

-- one more element
pointer_more : (o : Option Pointer) (q : Pointer) (t : Tree) → covered q (Some (with_pointer_if o t)) ≡ is_above o q || covered q (Some t)
pointer_more None q t = refl
pointer_more (Some p) q t = one_more p q t

above_by : (l : Location) (n : Option (List ℕ)) (q : Pointer) → is_above (body_pointer_by l n) q ≡ covers_body l n q
above_by uri_param n q = refl
above_by header n q = refl
above_by body n q = refl
above_by multipart_binary n q = refl

elements_more : (kind : Kind) (es : List Element) (q : Pointer) (t : Tree) → covered q (Some (with_elements kind es t)) ≡ list_any (covers kind (body_at q)) es || covered q (Some t)
elements_more kind [] q t = refl
elements_more kind (e ∷ es) q t =
    elements_more kind es q (with_pointer_if (body_pointer kind e) t)
    ∙ ap (λ b. list_any (covers kind (body_at q)) es || b) (pointer_more (body_pointer kind e) q t ∙ ap (λ b. b || covered q (Some t)) (above_by e.place (counted kind e) q))
    ∙ or_swap (list_any (covers kind (body_at q)) es) (covers kind (body_at q) e) (covered q (Some t))

-- the tree of the sensitive elements covers what they cover
pub tree_covers : (a : Asked) (q : Pointer) → covered q (Some (sensitive_tree a)) ≡ is_covered a.policy a.mapping a.kind (body_at q)
tree_covers a q = elements_more a.kind (sensitive a.policy a.mapping) q (members no_members) ∙ ap (λ b. is_covered a.policy a.mapping a.kind (body_at q) || b) (empty q) ∙ or_none (is_covered a.policy a.mapping a.kind (body_at q))

-- what is covered where the walk stands
pub covered_there : (a : Asked) (q : Pointer) (c : Covering) → Leads a q c → is_end_there (covering_view c) ≡ is_covered a.policy a.mapping a.kind (body_at q)
covered_there a q c leads = ap is_end_there leads ∙ tree_covers a q

-- one token on
pub leads_on : (a : Asked) (q p : Pointer) (x : List ℕ) (c d : Covering) → Leads a q c → covering_view d ≡ entered x (covering_view c) → p ≡ q ++ x ∷ [] → Leads a p d
leads_on a q p x c d leads on is = on ∙ ap (entered x) leads ∙ sym (step q x (Some (sensitive_tree a))) ∙ ap (λ r. descended r (Some (sensitive_tree a))) (sym is)

-- an element of the list is gone through
element_gone : (kind : Kind) (g : Element → Bool) (e : Element) (es : List Element) (t : Tree) (b : Bool) → g e ≡ b → with_elements kind (filter g (e ∷ es)) t ≡ with_elements kind (filter g es) (if b then with_pointer_if (body_pointer kind e) t else t)
element_gone kind g e es t true h = rw h refl
element_gone kind g e es t false h = rw h refl

pub element_at : {A : Type 0} (view : A → Element) (kind : Kind) (g : Element → Bool) (xs : List A) (i : ℕ) (x : A) (t u all : Tree) → slice_get xs i ≡ Some x → u ≡ (if g (view x) then with_pointer_if (body_pointer kind (view x)) t else t)
    → with_elements kind (filter g (map view (drop i xs))) t ≡ all → with_elements kind (filter g (map view (drop (i + 1) xs))) u ≡ all
element_at view kind g xs i x t u all is made h =
    ap (with_elements kind (filter g (map view (drop (i + 1) xs)))) made
    ∙ sym (element_gone kind g (view x) (map view (drop (i + 1) xs)) t (g (view x)) refl) ∙ (rw (drop_at xs i x is) at h)

-- one step down a pointer
put_put_step : (k l : List ℕ) (u v w : Tree) (ms : Members) (o : Ordering) → name_cmp k l ≡ o → put_member k u (put_member k v ms) ≡ put_member k u ms
    → put_member k u (match_ordering o (member k v (member l w ms)) (member l v ms) (member l w (put_member k v ms))) ≡ put_member k u (member l w ms)
put_put_step k l u v w ms Less e h = rw (name_self k, e) refl
put_put_step k l u v w ms Equal e h = rw e refl
put_put_step k l u v w ms Greater e h = rw e (ap (member l w) h)

put_put : (k : List ℕ) (u v : Tree) (ms : Members) → put_member k u (put_member k v ms) ≡ put_member k u ms
put_put k u v no_members = rw (name_self k) refl
put_put k u v (member l w ms) = put_put_step k l u v w ms (name_cmp k l) refl (put_put k u v ms)

pub pointer_step : (k : List ℕ) (p : Pointer) (t m n : Tree) (ms held new : Members) → is_end t ≡ false → ms ≡ members_of t → m ≡ or_empty_object (get_member k ms) → held ≡ put_member k null ms → n ≡ with_pointer p m → new ≡ put_member k n held
    → members new ≡ with_pointer (k ∷ p) t
pointer_step k p t m n ms held new further is lifted left made put =
    rw further (ap members (put ∙ ap (put_member k n) left ∙ put_put k n null ms ∙ ap (λ x. put_member k x ms) (made ∙ ap (with_pointer p) lifted)
    ∙ ap (λ xs. put_member k (with_pointer p (or_empty_object (get_member k xs))) xs) is))

pub pointer_stays : (k : List ℕ) (p : Pointer) (t : Tree) → is_end t ≡ true → t ≡ with_pointer (k ∷ p) t
pointer_stays k p t end = rw end refl
