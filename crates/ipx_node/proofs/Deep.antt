-- How deep a document is with an entry more.
use Rattle.std.proofs.Common.{◌≡◌, ℕ, suc, ◌≤◌, List, [], ◌∷◌, ◌++◌, Option, Some, None, Ordering, Less, Equal, Greater, max, refl, ap, subst, sym, ◌∙◌, codes, arith}
use Rattle.std.specs.Prelude.{unwrap_or}
use Rattle.std.specs.Ordering.{match_ordering}
use Rattle.spec_documents.specs.Tree.{Tree, null, truth, whole, words, items, members, Members, no_members, member, trees, tree_list, items_in, name_cmp, get_member, put_member, depth, items_depth, members_depth}
use Rattle.spec_documents.proofs.FieldLemmas.{trees-list}
use Rattle.spec_documents.proofs.TreeLemmas.{got_low}
use Rattle.spec_messages.specs.Block.{members_of}
use Rattle.n32_values.proofs.Trees.{items_depth-push}
use Rattle.n32_outside.specs.declared.algorithm.JwsAlg.{JwsAlg}
use Rattle.prins_document.specs.View.{entries_of}
use Rattle.spec_sealing.specs.Passing.{with_entry}
use Rattle.jws_flat.specs.Signing.{IsSigned}

put_step : (k l : List ℕ) (u w : Tree) (ms : Members) (o : Ordering) → members_depth (put_member k u ms) ≤ max (depth u) (members_depth ms)
    → members_depth (match_ordering o (member k u (member l w ms)) (member l u ms) (member l w (put_member k u ms))) ≤ max (depth u) (members_depth (member l w ms))
put_step k l u w ms Less h = omega arith
put_step k l u w ms Equal h = omega arith
put_step k l u w ms Greater h = omega (arith, h)

put_depth : (k : List ℕ) (u : Tree) (ms : Members) → members_depth (put_member k u ms) ≤ max (depth u) (members_depth ms)
put_depth k u no_members = omega arith
put_depth k u (member l w ms) = put_step k l u w ms (name_cmp k l) (put_depth k u ms)

-- the items at a name of an object
items_step : (k : List ℕ) (ms : Members) (o : Option Tree) → get_member k ms ≡ o → suc (items_depth (trees (unwrap_or (items_in o) []))) ≤ max (members_depth ms) 1
items_step k ms None e = omega arith
items_step k ms (Some null) e = omega arith
items_step k ms (Some (truth b)) e = omega arith
items_step k ms (Some (whole z)) e = omega arith
items_step k ms (Some (words s)) e = omega arith
items_step k ms (Some (items ts)) e =
    let low : depth (items ts) ≤ members_depth ms = got_low k (items ts) ms e in
    let same : items_depth (trees (tree_list ts)) ≡ items_depth ts = ap items_depth (trees-list ts) in
    omega arith
items_step k ms (Some (members ns)) e = omega arith

members_step : (t : Tree) → suc (members_depth (members_of t)) ≤ max (depth t) 1
members_step null = omega arith
members_step (truth b) = omega arith
members_step (whole z) = omega arith
members_step (words s) = omega arith
members_step (items ts) = omega arith
members_step (members ms) = omega arith

deep_step : (k : List ℕ) (ms : Members) (xs : List Tree) (e : Tree) (d : ℕ) → depth e ≤ 1 → suc (members_depth ms) ≤ max d 1 → suc (items_depth (trees xs)) ≤ max (members_depth ms) 1
    → suc (members_depth (put_member k (items (trees (xs ++ e ∷ []))) ms)) ≤ max d 3
deep_step k ms xs e d shallow root low =
    let push : items_depth (trees (xs ++ e ∷ [])) ≡ max (items_depth (trees xs)) (depth e) = items_depth-push xs e in
    let put : members_depth (put_member k (items (trees (xs ++ e ∷ []))) ms) ≤ max (suc (items_depth (trees (xs ++ e ∷ [])))) (members_depth ms) = put_depth k (items (trees (xs ++ e ∷ []))) ms in
    omega arith

pub entry_depth : (t e : Tree) → depth e ≤ 1 → depth (with_entry t (unwrap_or (entries_of t) []) e) ≤ max (depth t) 3
entry_depth t e shallow =
    deep_step (codes "modificationsBlock") (members_of t) (unwrap_or (entries_of t) []) e (depth t) shallow (members_step t)
    (items_step (codes "modificationsBlock") (members_of t) (get_member (codes "modificationsBlock") (members_of t)) refl)

le_both : (a b c : ℕ) → a ≤ b → b ≤ c → a ≤ c
le_both a b c f g = omega arith

-- the same of the members in their map
pub fits : (t e : Tree) (old new : Members) → depth t ≤ 127 → depth e ≤ 1 → old ≡ members_of t
    → new ≡ put_member (codes "modificationsBlock") (items (trees (unwrap_or (items_in (get_member (codes "modificationsBlock") old)) [] ++ e ∷ []))) old → suc (members_depth new) ≤ 127
fits t e old new low shallow is_old is_new =
    let is : members new ≡ with_entry t (unwrap_or (entries_of t) []) e =
    ap members (is_new ∙ ap (λ ms. put_member (codes "modificationsBlock") (items (trees (unwrap_or (items_in (get_member (codes "modificationsBlock") ms)) [] ++ e ∷ []))) ms) is_old) in
    let deep : depth (with_entry t (unwrap_or (entries_of t) []) e) ≤ max (depth t) 3 = entry_depth t e shallow in
    let within : max (depth t) 3 ≤ 127 = omega (arith, low) in
    subst (λ n. depth n ≤ 127) (sym is) (le_both _ _ 127 deep within)

pub signed_depth : (meaning : Option (JwsAlg → List ℕ → List ℕ → List ℕ)) (alg : JwsAlg) (identity : List ℕ) (operations : Tree) (tag : List ℕ) (e : Tree) → IsSigned meaning alg identity operations tag e → depth e ≤ 1
signed_depth meaning alg identity operations tag e signed = subst (λ n. depth n ≤ 1) (sym signed.entry) (omega arith)
