-- The pointers of an element, and the types of a policy.
use Rattle.std.proofs.Common.{append-nil, ◌≡◌, ℕ, List, [], ◌∷◌, ◌++◌, map, filter, take, ◌+◌, slice_get, Some, None, Result, Ok, Err, Bool, true, false, if◌then◌else◌, is_ok, refl, sym, ap, ◌∙◌}
use Rattle.std.specs.List.{list_any}
use Rattle.std.proofs.lemmas.List.{map-append}
use Rattle.n32_values.proofs.Trees.{take_at}
use Rattle.spec_documents.specs.Place.{Pointer, read_pointer, pointer_text}
use Rattle.spec_documents.proofs.PointerLemmas.{pointer_text-read}
use Rattle.spec_messages.specs.Policy as spec
use Rattle.spec_messages.specs.PolicyDocument.{if_passes}
use Rattle.spec_messages.proofs.OutsideLemmas.{any_map}
use Rattle.policy_documents.specs.Words.{sort_view}
use Rattle.policy_documents.specs.declared.words.IeType.{IeType}

passes_by : (s : List ℕ) (r : Result Pointer ℕ) (p : Pointer) → r ≡ Ok p → (if is_ok r then Some s else None) ≡ Some s
passes_by s (Ok q) p e = refl
passes_by s (Err k) p e = cc

-- a text that is read to a pointer is kept as the pointer
pub pointer_kept : (s : List ℕ) (p : Pointer) → read_pointer s ≡ Ok p → if_passes (λ r. is_ok (read_pointer r)) s ≡ Some (pointer_text p)
pointer_kept s p e = passes_by s (read_pointer s) p e ∙ ap Some (sym (pointer_text-read s p e))

filter_step : (f : spec.Sort → Bool) (x : spec.Sort) (xs ys : List spec.Sort) (t : Bool) → f x ≡ t → filter f (xs ++ ys) ≡ filter f xs ++ filter f ys → filter f ((x ∷ xs) ++ ys) ≡ filter f (x ∷ xs) ++ filter f ys
filter_step f x xs ys true e h = rw e (ap (λ zs. x ∷ zs) h)
filter_step f x xs ys false e h = rw e h

filter_both : (f : spec.Sort → Bool) (xs ys : List spec.Sort) → filter f (xs ++ ys) ≡ filter f xs ++ filter f ys
filter_both f [] ys = refl
filter_both f (x ∷ xs) ys = filter_step f x xs ys (f x) refl (filter_both f xs ys)

sorts_at : (ts : List IeType) (i : ℕ) (t : IeType) → slice_get ts i ≡ Some t → map sort_view (take (i + 1) ts) ≡ map sort_view (take i ts) ++ sort_view t ∷ []
sorts_at ts i t is = ap (map sort_view) (take_at ts i t is) ∙ map-append sort_view (take i ts) (t ∷ [])

-- a type was kept, or passed over
pub type_kept : (f : spec.Sort → Bool) (ts kept : List IeType) (i : ℕ) (t : IeType) → slice_get ts i ≡ Some t → map sort_view kept ≡ filter f (map sort_view (take i ts)) → f (sort_view t) ≡ true
    → map sort_view (kept ++ t ∷ []) ≡ filter f (map sort_view (take (i + 1) ts))
type_kept f ts kept i t is h e =
    map-append sort_view kept (t ∷ []) ∙ ap (λ xs. xs ++ sort_view t ∷ []) h
    ∙ sym (ap (filter f) (sorts_at ts i t is) ∙ filter_both f (map sort_view (take i ts)) (sort_view t ∷ []) ∙ ap (λ b. filter f (map sort_view (take i ts)) ++ (if b then sort_view t ∷ [] else [])) e)

pub type_passed : (f : spec.Sort → Bool) (ts kept : List IeType) (i : ℕ) (t : IeType) → slice_get ts i ≡ Some t → map sort_view kept ≡ filter f (map sort_view (take i ts)) → f (sort_view t) ≡ false
    → map sort_view kept ≡ filter f (map sort_view (take (i + 1) ts))
type_passed f ts kept i t is h e =
    h ∙ sym (ap (filter f) (sorts_at ts i t is) ∙ filter_both f (map sort_view (take i ts)) (sort_view t ∷ []) ∙ ap (λ b. filter f (map sort_view (take i ts)) ++ (if b then sort_view t ∷ [] else [])) e ∙ append-nil (filter f (map sort_view (take i ts))))
