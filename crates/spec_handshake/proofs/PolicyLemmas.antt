-- Two policies without a difference are equal.
use Rattle.std.proofs.Common.{◌≡◌, ℕ, ◌+◌, Bool, true, false, List, [], ◌∷◌, map, Option, Some, None, refl, sym, ap, ap₂, ◌∙◌, cond}
use Rattle.std.specs.Option.{option_or}
use Rattle.spec_documents.specs.Tree.{Tree, items, members, no_members, trees, put_member, same_tree}
use Rattle.spec_documents.proofs.SameTree.{same_tree-is}
use Rattle.spec_messages.specs.Policy.{Policy, Sort, ueid, location, key_material, authentication_material, authorization_token, other, nonsensitive, same_sort, same_list}
use Rattle.spec_messages.specs.PolicyDocument.{policy_of, policy_tree, mapping_tree, list_of, sort_tree, ReadsBack}
use Rattle.spec_messages.proofs.OutsideLemmas.{same_list-is}
use Rattle.std.specs.Prelude.{codes}
use Rattle.spec_handshake.specs.Differences.{AtMapping, InTypes, first_unlike, unlike_types, difference}

none_left : {X : Type 0} (o p : Option X) → option_or o p ≡ None → (o ≡ None) × (p ≡ None)
none_left None p e = (refl, e)
none_left (Some x) p e = cc

unlike_none : (k : ℕ) (ts us : List Tree) → first_unlike k ts us ≡ None → ts ≡ us
unlike_none k [] [] e = refl
unlike_none k (t ∷ ts) [] e = cc
unlike_none k [] (u ∷ us) e = cc
unlike_none k (t ∷ ts) (u ∷ us) e = by (same_tree t u) refl e (λ z. unlike_none (k + 1) ts us z)
  where
    by : (b : Bool) → same_tree t u ≡ b → cond b (first_unlike (k + 1) ts us) (Some (AtMapping k (Some t) (Some u))) ≡ None → (first_unlike (k + 1) ts us ≡ None → ts ≡ us) → t ∷ ts ≡ u ∷ us
    by true same e ih = ap₂ ◌∷◌ (same_tree-is t u same) (ih e)
    by false same e ih = cc

sort-is : (a b : Sort) → same_sort a b ≡ true → a ≡ b
sort-is ueid ueid e = refl
sort-is location location e = refl
sort-is key_material key_material e = refl
sort-is authentication_material authentication_material e = refl
sort-is authorization_token authorization_token e = refl
sort-is other other e = refl
sort-is nonsensitive nonsensitive e = refl
sort-is _ _ e = cc

pub types_none : (ss rs : List Sort) → unlike_types ss rs ≡ None → ss ≡ rs
types_none ss rs e = by (same_list same_sort ss rs) refl e
  where
    by : (b : Bool) → same_list same_sort ss rs ≡ b → cond b None (Some InTypes) ≡ None → ss ≡ rs
    by true same e = same_list-is same_sort sort-is ss rs same
    by false same e = cc

-- what is printed alike is one policy
printed_alike : (p q : Policy) → ReadsBack p → ReadsBack q → policy_tree p ≡ policy_tree q → p ≡ q
printed_alike p q hp hq e = let same : p ≡ q = cc (sym hp ∙ (ap policy_of e ∙ hq)) in same

pub same_policies : (p q : Policy) → ReadsBack p → ReadsBack q → difference p q ≡ None → p ≡ q
same_policies p q hp hq e =
    let none = none_left (first_unlike 0 (map mapping_tree p.mappings) (map mapping_tree q.mappings)) (unlike_types p.sorts q.sorts) e in
    let mappings : map mapping_tree p.mappings ≡ map mapping_tree q.mappings = unlike_none 0 _ _ none.0 in
    let sorts : p.sorts ≡ q.sorts = types_none p.sorts q.sorts none.1 in
    printed_alike p q hp hq (λ i. members (put_member (codes "dataTypeEncPolicy") (list_of sort_tree (sorts i)) (put_member (codes "apiIeMappingList") (items (trees (mappings i))) no_members)))
