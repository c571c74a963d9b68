-- The first difference of two policies, in the words of their lists.
use Rattle.std.proofs.Common.{◌≡◌, ℕ, zero, suc, ◌+◌, Bool, true, false, List, [], ◌∷◌, map, take, slice_get, length, Option, option_map, Some, None, Ok, refl, sym, ap, ◌∙◌, cond, arith}
use Rattle.std.specs.Option.{option_or}
use Rattle.std.specs.Prelude.{nat_le}
use Rattle.std.proofs.lemmas.Bool.{and_from, false_from_ne_true}
use Rattle.std.proofs.lemmas.Bool.Decides.{Decides-int_eq}
use Rattle.std.proofs.lemmas.Slice.Eq.{bytes_eq-Decides}
use Rattle.spec_documents.specs.Tree.{Tree, null, truth, whole, words, items, members, Trees, no_items, item, Members, no_members, member, trees, tree_list, same_truth, same_tree, same_items, same_members}
use Rattle.spec_documents.proofs.TreeLemmas.{bind_ok}
use Rattle.spec_documents.proofs.SameTree.{same_tree-is}
use Rattle.spec_documents.proofs.FieldLemmas.{list-trees}
use Rattle.spec_messages.specs.Message.{wanted}
use Rattle.spec_messages.specs.Policy.{Policy, Mapping, Sort, ueid, location, key_material, authentication_material, authorization_token, other, nonsensitive, same_sort, same_list}
use Rattle.spec_messages.specs.PolicyDocument.{mapping_of, mappings_from, most_mappings, mapping_tree, list_of, sort_tree, sorts_in, if_few, ReadsBack}
use Rattle.spec_handshake.specs.Differences.{AtMapping, InTypes, first_unlike, unlike_types, difference}
use Rattle.spec_handshake.proofs.PolicyLemmas.{types_none}

-- ---- equal trees and types pass the test

same_truth-self : (b : Bool) → same_truth b b ≡ true
same_truth-self true = refl
same_truth-self false = refl

mutual
  same_tree-self : (t : Tree) → same_tree t t ≡ true
  same_tree-self null = refl
  same_tree-self (truth b) = same_truth-self b
  same_tree-self (whole z) = (Decides-int_eq z z).1 refl
  same_tree-self (words s) = (bytes_eq-Decides s s).1 refl
  same_tree-self (items ts) = same_items-self ts
  same_tree-self (members ms) = same_members-self ms

  same_items-self : (ts : Trees) → same_items ts ts ≡ true
  same_items-self no_items = refl
  same_items-self (item t ts) = and_from (same_tree t t) _ (same_tree-self t) (same_items-self ts)

  same_members-self : (ms : Members) → same_members ms ms ≡ true
  same_members-self no_members = refl
  same_members-self (member k t ms) = and_from _ _ ((bytes_eq-Decides k k).1 refl) (and_from (same_tree t t) _ (same_tree-self t) (same_members-self ms))

sort-self : (a : Sort) → same_sort a a ≡ true
sort-self ueid = refl
sort-self location = refl
sort-self key_material = refl
sort-self authentication_material = refl
sort-self authorization_token = refl
sort-self other = refl
sort-self nonsensitive = refl

sorts-self : (ss : List Sort) → same_list same_sort ss ss ≡ true
sorts-self [] = refl
sorts-self (s ∷ ss) = and_from _ _ (sort-self s) (sorts-self ss)

-- ---- no difference

alike-none : (k : ℕ) (ts : List Tree) → first_unlike k ts ts ≡ None
alike-none k [] = refl
alike-none k (t ∷ ts) = rw (same_tree-self t) (alike-none (k + 1) ts)

types-none : (ss : List Sort) → unlike_types ss ss ≡ None
types-none ss = rw (sorts-self ss)

pub no_difference : (p : Policy) → difference p p ≡ None
no_difference p = rw (alike-none 0 (map mapping_tree p.mappings), types-none p.sorts) refl

-- ---- in the types

pub differ_in_types : (p q : Policy) → p.mappings ≡ q.mappings → (p.sorts ≡ q.sorts → ⊥) → difference p q ≡ Some InTypes
differ_in_types p q same apart =
    ap (λ gs. option_or (first_unlike 0 (map mapping_tree p.mappings) (map mapping_tree gs)) (unlike_types p.sorts q.sorts)) (sym same)
    ∙ (ap (λ o. option_or o (unlike_types p.sorts q.sorts)) (alike-none 0 (map mapping_tree p.mappings))
    ∙ by (same_list same_sort p.sorts q.sorts) refl)
  where
    by : (b : Bool) → same_list same_sort p.sorts q.sorts ≡ b → unlike_types p.sorts q.sorts ≡ Some InTypes
    by true is = absurd (apart (types_none p.sorts q.sorts (rw is)))
    by false is = rw is

-- ---- at a mapping

-- each mapping of the list is what its document is read to
abbrev AreRead : ℕ → List Mapping → Type 0
AreRead k gs = mappings_from k (map mapping_tree gs) ≡ Ok gs

record IsRead (k : ℕ) (g : Mapping) (gs : List Mapping) : Type 0 where
  one : mapping_of k (mapping_tree g) ≡ Ok g
  rest : AreRead (suc k) gs

is_read : (k : ℕ) (g : Mapping) (gs : List Mapping) → AreRead k (g ∷ gs) → IsRead k g gs
is_read k g gs h =
    let a = bind_ok (mapping_of k (mapping_tree g)) _ (g ∷ gs) h in
    let b = bind_ok (mappings_from (suc k) (map mapping_tree gs)) _ (g ∷ gs) a.2 in
    let here : a.0 ≡ g = cc in
    let there : b.0 ≡ gs = cc in
    record { one = a.1 ∙ ap Ok here; rest = b.1 ∙ ap Ok there }

-- mappings that are printed alike are equal
printed : (k : ℕ) (g h : Mapping) → mapping_of k (mapping_tree g) ≡ Ok g → mapping_of k (mapping_tree h) ≡ Ok h → mapping_tree g ≡ mapping_tree h → g ≡ h
printed k g h a b e = let same : g ≡ h = cc (sym a ∙ (ap (mapping_of k) e ∙ b)) in same

-- a list of mappings read from number k on, with the differences numbered from j on
unlike_at : (k j i : ℕ) (gs hs : List Mapping) → AreRead k gs → AreRead k hs → take i gs ≡ take i hs → (slice_get gs i ≡ slice_get hs i → ⊥)
    → first_unlike j (map mapping_tree gs) (map mapping_tree hs) ≡ Some (AtMapping (j + i) (option_map mapping_tree (slice_get gs i)) (option_map mapping_tree (slice_get hs i)))
unlike_at k j zero [] [] rg rh e apart = absurd (apart refl)
unlike_at k j (suc i) [] [] rg rh e apart = absurd (apart refl)
unlike_at k j zero (g ∷ gs) [] rg rh e apart = let n : j ≡ j + 0 = omega arith in ap (λ m. Some (AtMapping m (Some (mapping_tree g)) None)) n
unlike_at k j (suc i) (g ∷ gs) [] rg rh e apart = cc
unlike_at k j zero [] (h ∷ hs) rg rh e apart = let n : j ≡ j + 0 = omega arith in ap (λ m. Some (AtMapping m None (Some (mapping_tree h)))) n
unlike_at k j (suc i) [] (h ∷ hs) rg rh e apart = cc
unlike_at k j zero (g ∷ gs) (h ∷ hs) rg rh e apart =
    let n : j ≡ j + 0 = omega arith in
    let unlike : same_tree (mapping_tree g) (mapping_tree h) ≡ false =
    false_from_ne_true _ (λ t. apart (ap Some (printed k g h (is_read k g gs rg).one (is_read k h hs rh).one (same_tree-is (mapping_tree g) (mapping_tree h) t)))) in
    rw unlike (ap (λ m. Some (AtMapping m (Some (mapping_tree g)) (Some (mapping_tree h)))) n)
unlike_at k j (suc i) (g ∷ gs) (h ∷ hs) rg rh e apart =
    let here : g ≡ h = cc in
    let rest : take i gs ≡ take i hs = cc in
    let n : (j + 1) + i ≡ j + suc i = omega arith in
    let alike : same_tree (mapping_tree g) (mapping_tree h) ≡ true = ap (λ z. same_tree (mapping_tree g) (mapping_tree z)) (sym here) ∙ same_tree-self (mapping_tree g) in
    rw alike (unlike_at (suc k) (j + 1) i gs hs (is_read k g gs rg).rest (is_read k h hs rh).rest rest apart
    ∙ ap (λ m. Some (AtMapping m (option_map mapping_tree (slice_get gs i)) (option_map mapping_tree (slice_get hs i)))) n)

few_is : (o : Option (List Tree)) (ts us : List Tree) → o ≡ Some us → wanted {E = ℕ} (if_few o) 0 ≡ Ok ts → ts ≡ us
few_is None ts us e h = cc
few_is (Some vs) ts us e h = by (nat_le (length vs) most_mappings) h
  where
    by : (b : Bool) → wanted {E = ℕ} (cond b (Some vs) None) 0 ≡ Ok ts → ts ≡ us
    by true g = cc
    by false g = cc

-- the mappings of a policy that has a document
are_read : (p : Policy) → ReadsBack p → AreRead 1 p.mappings
are_read p h =
    let l = bind_ok (wanted (if_few (Some (tree_list (trees (map mapping_tree p.mappings))))) 0) _ p h in
    let s = bind_ok (wanted (sorts_in (Some (list_of sort_tree p.sorts))) 0) _ p l.2 in
    let g = bind_ok (mappings_from 1 l.0) _ p s.2 in
    let here : g.0 ≡ p.mappings = cc in
    let ts : l.0 ≡ map mapping_tree p.mappings = few_is (Some (tree_list (trees (map mapping_tree p.mappings)))) l.0 _ (ap Some (list-trees (map mapping_tree p.mappings))) l.1 in
    ap (mappings_from 1) (sym ts) ∙ (g.1 ∙ ap Ok here)

pub differ_at_mapping : (p q : Policy) (i : ℕ) → ReadsBack p → ReadsBack q → take i p.mappings ≡ take i q.mappings → (slice_get p.mappings i ≡ slice_get q.mappings i → ⊥)
    → difference p q ≡ Some (AtMapping i (option_map mapping_tree (slice_get p.mappings i)) (option_map mapping_tree (slice_get q.mappings i)))
differ_at_mapping p q i hp hq e apart =
    let n : 0 + i ≡ i = omega arith in
    ap (λ o. option_or o (unlike_types p.sorts q.sorts)) (unlike_at 1 0 i p.mappings q.mappings (are_read p hp) (are_read q hq) e apart)
    ∙ ap (λ m. Some (AtMapping m (option_map mapping_tree (slice_get p.mappings i)) (option_map mapping_tree (slice_get q.mappings i)))) n
