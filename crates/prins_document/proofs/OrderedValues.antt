-- The values of a plaintext whose names are in order have theirs in order.
use Rattle.std.proofs.Common.{◌≡◌, List, true, Option, Some, None, refl, sym, subst, codes}
use Rattle.std.specs.Prelude.{IsTrue}
use Rattle.std.specs.List.{list_all}
use Rattle.std.proofs.lemmas.Bool.{and_parts, and_from}
use Rattle.spec_documents.specs.Tree.{Tree, null, truth, whole, words, items, members, Trees, no_items, item, get_member, tree_list, items_in, is_tree, is_ordered, are_ordered}
use Rattle.spec_messages.specs.Steps.{InOrder}
use Rattle.spec_messages.proofs.Alike.{ordered_values, ordered_get}
use Rattle.spec_sealing.specs.Plaintext.{values_in}

listed_ordered : (ts : Trees) → are_ordered ts ≡ true → InOrder (tree_list ts)
listed_ordered no_items e = refl
listed_ordered (item t ts) e =
    let p = and_parts (is_ordered t) (are_ordered ts) e in
    and_from (is_ordered t) (list_all is_ordered (tree_list ts)) p.0 (listed_ordered ts p.1)

items_ordered : (o : Option Tree) (vs : List Tree) → ((t : Tree) → o ≡ Some t → is_ordered t ≡ true) → Some vs ≡ items_in o → InOrder vs
items_ordered None vs h e = cc
items_ordered (Some null) vs h e = cc
items_ordered (Some (truth b)) vs h e = cc
items_ordered (Some (whole z)) vs h e = cc
items_ordered (Some (words s)) vs h e = cc
items_ordered (Some (items ts)) vs h e =
    let same : vs ≡ tree_list ts = cc in
    subst InOrder (sym same) (listed_ordered ts (h (items ts) refl))
items_ordered (Some (members ms)) vs h e = cc

ordered_in : (t : Tree) (vs : List Tree) → is_ordered t ≡ true → Some vs ≡ values_in t → InOrder vs
ordered_in null vs o e = cc
ordered_in (truth b) vs o e = cc
ordered_in (whole z) vs o e = cc
ordered_in (words s) vs o e = cc
ordered_in (items ts) vs o e = items_ordered (Some (items ts)) vs (λ t is. let same : items ts ≡ t = cc in subst (λ u. is_ordered u ≡ true) same o) e
ordered_in (members ms) vs o e = items_ordered (get_member (codes "dataToEncrypt") ms) vs (λ t is. ordered_get (codes "dataToEncrypt") ms t (ordered_values ms o) is) e

pub values_ordered : (t : Tree) (vs : List Tree) → IsTrue (is_tree t) → Some vs ≡ values_in t → InOrder vs
values_ordered t vs h e = ordered_in t vs (and_parts (is_ordered t) _ h).0 e
