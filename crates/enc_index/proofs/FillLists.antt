-- Lists and objects filled, one item and one member at a time.
use Rattle.std.proofs.Common.{◌≡◌, ℕ, zero, suc, ◌+◌, List, [], ◌∷◌, ◌++◌, map, take, Some, slice_get, refl, sym, ap, ap₂, ◌∙◌, subst}
use Rattle.spec_documents.specs.Tree.{Tree, trees, Trees, Members, no_members, member, name_cmp}
use Rattle.spec_documents.specs.Fields.{Field, field_list, AllAfter, AreAscending}
use Rattle.spec_documents.proofs.FieldLemmas.{same_fields}
use Rattle.n32_values.proofs.Trees.{take_at}
use Rattle.enc_index.specs.declared.site.Site.{Site}
use Rattle.enc_index.specs.Sites.{member_site, filled_at, filled_items, filled_members}
use Rattle.enc_index.proofs.MarkLists.{map-append}

pub items-filled : (site : Site) (vs ts : List Tree) → filled_items site vs (trees ts) ≡ trees (map (filled_at site vs) ts)
items-filled site vs [] = refl
items-filled site vs (t ∷ ts) = ap (Rattle.spec_documents.specs.Tree.item (filled_at site vs t)) (items-filled site vs ts)

pub item_filled : (site : Site) (vs ts : List Tree) (i : ℕ) (t u : Tree) (out grown : List Tree) → slice_get ts i ≡ Some t → u ≡ filled_at site vs t → grown ≡ out ++ u ∷ []
    → out ≡ map (filled_at site vs) (take i ts) → grown ≡ map (filled_at site vs) (take (i + 1) ts)
item_filled site vs ts i t u out grown here is added so_far =
    added ∙ ap₂ (λ xs y. xs ++ y ∷ []) so_far is ∙ sym (map-append (filled_at site vs) (take i ts) (t ∷ [])) ∙ ap (map (filled_at site vs)) (sym (take_at ts i t here))

-- ---- members

abbrev pub field_filled : Site → List Tree → Field → Field
field_filled site vs e = (e.0, filled_at (member_site site e.0) vs e.1)

pub members-filled : (site : Site) (vs : List Tree) (ms : Members) → field_list (filled_members site vs ms) ≡ map (field_filled site vs) (field_list ms)
members-filled site vs no_members = refl
members-filled site vs (member k t ms) = ap (λ es. (k, filled_at (member_site site k) vs t) ∷ es) (members-filled site vs ms)

pub all_filled : (site : Site) (vs : List Tree) (out ms : Members) → field_list out ≡ map (field_filled site vs) (field_list ms) → out ≡ filled_members site vs ms
all_filled site vs out ms e = same_fields out (filled_members site vs ms) (e ∙ sym (members-filled site vs ms))

after_filled : (site : Site) (vs : List Tree) (k : List ℕ) (es : List Field) → AllAfter k es → AllAfter k (map (field_filled site vs) es)
after_filled site vs k [] h = tt
after_filled site vs k (e ∷ es) h = (h.0, after_filled site vs k es h.1)

after_taken : (k : List ℕ) (es : List Field) (n : ℕ) → AllAfter k es → AllAfter k (take n es)
after_taken k es zero h = tt
after_taken k [] (suc n) h = tt
after_taken k (e ∷ es) (suc n) h = (h.0, after_taken k es n h.1)

ascending_filled : (site : Site) (vs : List Tree) (es : List Field) → AreAscending es → AreAscending (map (field_filled site vs) es)
ascending_filled site vs [] h = tt
ascending_filled site vs (e ∷ es) h = (after_filled site vs e.0 es h.0, ascending_filled site vs es h.1)

ascending_taken : (es : List Field) (n : ℕ) → AreAscending es → AreAscending (take n es)
ascending_taken es zero h = tt
ascending_taken [] (suc n) h = tt
ascending_taken (e ∷ es) (suc n) h = (after_taken e.0 es n h.0, ascending_taken es n h.1)

pub field_more : (site : Site) (vs : List Tree) (es : List Field) (i : ℕ) (k l : List ℕ) (t u : Tree) (out : List Field) → slice_get es i ≡ Some (k, t) → l ≡ k → u ≡ filled_at (member_site site k) vs t
    → out ≡ map (field_filled site vs) (take i es) → out ++ (l, u) ∷ [] ≡ map (field_filled site vs) (take (i + 1) es)
field_more site vs es i k l t u out here name is so_far =
    let same : ◌≡◌ {A = Field} (l, u) (field_filled site vs (k, t)) = λ j. (name j, is j) in
    ap₂ (λ (xs : List Field) (e : Field). xs ++ e ∷ []) so_far same ∙ sym (map-append (field_filled site vs) (take i es) ((k, t) ∷ [])) ∙ ap (map (field_filled site vs)) (sym (take_at es i (k, t) here))

pub still_ascending : (site : Site) (vs : List Tree) (es : List Field) (n : ℕ) (out : List Field) → AreAscending es → out ≡ map (field_filled site vs) (take n es) → AreAscending out
still_ascending site vs es n out up is = subst (λ (xs : List Field). AreAscending xs) (sym is) (ascending_filled site vs (take n es) (ascending_taken es n up))
