-- Whether a message has a fill, and the trees that are filled.
use Rattle.std.proofs.Common.{◌≡◌, ℕ, zero, suc, ◌+◌, ◌≤◌, ◌<◌, List, [], ◌∷◌, ◌++◌, map, take, Option, Some, None, option_map, slice_get, refl, sym, ap, ap₂, ◌∙◌, subst}
use Rattle.std.specs.Prelude.{nat_lt}
use Rattle.std.proofs.lemmas.Bool.{lt-ltb, le-ltb}
use Rattle.std.proofs.lemmas.List.{map-append}
use Rattle.spec_documents.specs.Tree.{Tree, trees, item, Members, no_members, member}
use Rattle.spec_documents.specs.Fields.{Field, field_list, AllAfter, AreAscending}
use Rattle.spec_documents.specs.Hole.{fill, fill_items, fill_members}
use Rattle.spec_documents.proofs.FieldLemmas.{same_fields}
use Rattle.spec_messages.specs.Message.{Message, body_depth}
use Rattle.spec_messages.specs.Split.{fill_whole, filled}
use Rattle.spec_messages.specs.Fault.{first_of, when}
use Rattle.spec_messages.specs.Rebuilt.{FillFault, not_text, too_deep, text_misfit, as_not_text, fill_fault}
use Rattle.spec_messages.proofs.RebuiltLemmas.{faultless_filled, faulty_unfilled}
use Rattle.n32_values.proofs.Trees.{take_at}

-- ---- the first cause

deep_if : (o : Option ℕ) (d : ℕ) → o ≡ None → first_of (as_not_text o) (when (nat_lt 64 d) too_deep) ≡ when (nat_lt 64 d) too_deep
deep_if o d e = ap (λ x. first_of (as_not_text x) (when (nat_lt 64 d) too_deep)) e

pub no_fault : (vs : List Tree) (m : Message) → text_misfit vs m ≡ None → body_depth (option_map (fill vs) m.body) ≤ 64 → fill_fault vs m ≡ None
no_fault vs m e low = deep_if (text_misfit vs m) (body_depth (option_map (fill vs) m.body)) e ∙ ap (λ b. when b too_deep) (le-ltb 64 (body_depth (option_map (fill vs) m.body)) low)

pub deep_fault : (vs : List Tree) (m : Message) → text_misfit vs m ≡ None → 64 < body_depth (option_map (fill vs) m.body) → fill_fault vs m ≡ Some too_deep
deep_fault vs m e high = deep_if (text_misfit vs m) (body_depth (option_map (fill vs) m.body)) e ∙ ap (λ b. when b too_deep) (lt-ltb 64 (body_depth (option_map (fill vs) m.body)) high)

pub text_fault : (vs : List Tree) (m : Message) (n : ℕ) → text_misfit vs m ≡ Some n → fill_fault vs m ≡ Some (not_text n)
text_fault vs m n e = ap (λ o. first_of (as_not_text o) (when (nat_lt 64 (body_depth (fill_whole vs m).body)) too_deep)) e

-- what is filled has no fault
pub filled_back : (vs : List Tree) (c m : Message) → filled vs c ≡ Some m → (fill_fault vs c ≡ None) × (fill_whole vs c ≡ m)
filled_back vs c m e = by (fill_fault vs c) refl
  where
    by : (o : Option FillFault) → fill_fault vs c ≡ o → (fill_fault vs c ≡ None) × (fill_whole vs c ≡ m)
    by None f = (f, let is : Some (fill_whole vs c) ≡ Some m = sym (faultless_filled vs c f) ∙ e in let same : fill_whole vs c ≡ m = cc in same)
    by (Some why) f = let clash : None ≡ Some m = sym (faulty_unfilled vs c why f) ∙ e in cc

-- ---- lists and objects, one item and one member at a time

pub items-filled : (vs ts : List Tree) → fill_items vs (trees ts) ≡ trees (map (fill vs) ts)
items-filled vs [] = refl
items-filled vs (t ∷ ts) = ap (item (fill vs t)) (items-filled vs ts)

pub item_filled : (vs ts : List Tree) (i : ℕ) (t u : Tree) (out grown : List Tree) → slice_get ts i ≡ Some t → u ≡ fill vs t → grown ≡ out ++ u ∷ [] → out ≡ map (fill vs) (take i ts) → grown ≡ map (fill vs) (take (i + 1) ts)
item_filled vs ts i t u out grown here is added so_far =
    added ∙ ap₂ (λ xs y. xs ++ y ∷ []) so_far is ∙ sym (map-append (fill vs) (take i ts) (t ∷ [])) ∙ ap (map (fill vs)) (sym (take_at ts i t here))

abbrev pub field_filled : List Tree → Field → Field
field_filled vs e = (e.0, fill vs e.1)

members-filled : (vs : List Tree) (ms : Members) → field_list (fill_members vs ms) ≡ map (field_filled vs) (field_list ms)
members-filled vs no_members = refl
members-filled vs (member k t ms) = ap (λ es. (k, fill vs t) ∷ es) (members-filled vs ms)

pub all_filled : (vs : List Tree) (out ms : Members) → field_list out ≡ map (field_filled vs) (field_list ms) → out ≡ fill_members vs ms
all_filled vs out ms e = same_fields out (fill_members vs ms) (e ∙ sym (members-filled vs ms))

after_filled : (vs : List Tree) (k : List ℕ) (es : List Field) → AllAfter k es → AllAfter k (map (field_filled vs) es)
after_filled vs k [] h = tt
after_filled vs k (e ∷ es) h = (h.0, after_filled vs k es h.1)

after_taken : (k : List ℕ) (es : List Field) (n : ℕ) → AllAfter k es → AllAfter k (take n es)
after_taken k es zero h = tt
after_taken k [] (suc n) h = tt
after_taken k (e ∷ es) (suc n) h = (h.0, after_taken k es n h.1)

ascending_filled : (vs : List Tree) (es : List Field) → AreAscending es → AreAscending (map (field_filled vs) es)
ascending_filled vs [] h = tt
ascending_filled vs (e ∷ es) h = (after_filled vs e.0 es h.0, ascending_filled vs es h.1)

ascending_taken : (es : List Field) (n : ℕ) → AreAscending es → AreAscending (take n es)
ascending_taken es zero h = tt
ascending_taken [] (suc n) h = tt
ascending_taken (e ∷ es) (suc n) h = (after_taken e.0 es n h.0, ascending_taken es n h.1)

pub field_more : (vs : List Tree) (es : List Field) (i : ℕ) (k l : List ℕ) (t u : Tree) (out : List Field) → slice_get es i ≡ Some (k, t) → l ≡ k → u ≡ fill vs t → out ≡ map (field_filled vs) (take i es) → out ++ (l, u) ∷ [] ≡ map (field_filled vs) (take (i + 1) es)
field_more vs es i k l t u out here name is so_far =
    let same : ◌≡◌ {A = Field} (l, u) (field_filled vs (k, t)) = λ j. (name j, is j) in
    ap₂ (λ (xs : List Field) (e : Field). xs ++ e ∷ []) so_far same ∙ sym (map-append (field_filled vs) (take i es) ((k, t) ∷ [])) ∙ ap (map (field_filled vs)) (sym (take_at es i (k, t) here))

pub still_ascending : (vs : List Tree) (es : List Field) (n : ℕ) (out : List Field) → AreAscending es → out ≡ map (field_filled vs) (take n es) → AreAscending out
still_ascending vs es n out up is = subst (λ (xs : List Field). AreAscending xs) (sym is) (ascending_filled vs (take n es) (ascending_taken es n up))
