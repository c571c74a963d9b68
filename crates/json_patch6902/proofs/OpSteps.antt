-- An operation in place, by what its parts do.
use Rattle.std.proofs.Common.{◌≡◌, ◌+◌, ◌≤◌, length, Bool, true, false, Result, Ok, Err, refl, sym, ap, ◌∙◌, if◌then◌else◌}
use Rattle.spec_documents.specs.Tree.{Tree, depth, same_tree}
use Rattle.spec_documents.specs.Place.{Pointer, Cause, test_failed, ◌>>=◌, at, with, is_beneath}
use Rattle.spec_documents.specs.Patch as spec
use Rattle.spec_documents.specs.Patch.{added, removed, edited, within_depth, patched}
use Rattle.spec_documents.proofs.SameTree.{same_tree-is}
use Rattle.json_patch6902.specs.declared.fault.EditFault.{EditFault}
use Rattle.json_patch6902.specs.declared.fault.EditFault.TheVariants.{Cause as because, NoMemory}
use Rattle.json_patch6902.specs.Faults.{cause_view}
use Rattle.json_patch6902.specs.Edits.{Refuses, Edits, CanBeAdded, IsDoc, replaced}
use Rattle.json_patch6902.proofs.OpLaws.{within_ok, added_fits, fits_not, refused_first, replaced_fits, moved, no_move, removed_doc, back_not, back_is, same_tree-self}

-- ---- what was found to fit is added

pub added_edits : {A : Type 0} (p : Pointer) (v t u : Tree) (r : Result A EditFault) → IsDoc t → CanBeAdded p v t → Edits t u (added p v t) r → Edits t u (added p v t >>= within_depth) r
added_edits p v t u (Ok x) doc can h = added_fits p v t u doc can h
added_edits p v t u (Err (because why)) doc can h = absurd (fits_not p v t (cause_view why) can h.0)
added_edits p v t u (Err NoMemory) doc can h = tt

pub copied_edits : {A : Type 0} (from p : Pointer) (v t u : Tree) (r : Result A EditFault) → IsDoc t → at t from ≡ Ok v → CanBeAdded p v t → Edits t u (added p v t) r → Edits t u (edited (spec.copy from p) t >>= within_depth) r
copied_edits from p v t u (Ok x) doc a can h = rw a (added_fits p v t u doc can h)
copied_edits from p v t u (Err (because why)) doc a can h = absurd (fits_not p v t (cause_view why) can h.0)
copied_edits from p v t u (Err NoMemory) doc a can h = tt

pub replaced_edits : {A : Type 0} (p : Pointer) (v t u s : Tree) (r : Result A EditFault) → IsDoc t → length p + depth v ≤ 127 → at t p ≡ Ok s → Edits t u (replaced p v t) r → Edits t u (replaced p v t >>= within_depth) r
replaced_edits p v t u s (Ok x) doc low a h = replaced_fits p v t u doc low h
replaced_edits p v t u s (Err (because why)) doc low a h = (refused_first (replaced p v t) (cause_view why) within_depth h.0, h.1)
replaced_edits p v t u s (Err NoMemory) doc low a h = tt

-- ---- what is refused before anything is done

-- ---- moves

pub no_move_edits : (from p : Pointer) (t u : Tree) (e : EditFault) → is_beneath from p ≡ false → Refuses t u (removed from t) e → Refuses t u (patched t (spec.move from p)) e
no_move_edits from p t u (because why) o h = (refused_first (edited (spec.move from p) t) (cause_view why) within_depth (no_move from p t (cause_view why) o h.0), h.1)
no_move_edits from p t u NoMemory o h = tt

module _ (from p : Pointer) (t n w : Tree) (doc : IsDoc t) (apart : is_beneath from p ≡ false) (there : at t from ≡ Ok n) (without : removed from t ≡ Ok w) where
  move_is : (edited (spec.move from p) t >>= within_depth) ≡ (added p n w >>= within_depth)
  move_is = ap (λ r. r >>= within_depth) (moved from p t n w apart there without)

  pub moved_edits : {A : Type 0} (u : Tree) (r : Result A EditFault) → CanBeAdded p n w → Edits w u (added p n w) r → Edits t u (edited (spec.move from p) t >>= within_depth) r
  moved_edits u (Ok x) can h = move_is ∙ added_fits p n w u (removed_doc from t w doc without) can h
  moved_edits u (Err (because why)) can h = absurd (fits_not p n w (cause_view why) can h.0)
  moved_edits u (Err NoMemory) can h = tt

  -- it was put back
  pub back_edits : (u : Tree) (e : EditFault) → Refuses w w (patched w (spec.add p n)) e → added from n w ≡ Ok u → Refuses t u (patched t (spec.move from p)) e
  back_edits u (because why) h back = (move_is ∙ h.0, back_is from t w n u doc there without back)
  back_edits u NoMemory h back = tt

  -- memory was refused for putting it back
  pub lost_edits : (u : Tree) (e : EditFault) → Refuses w u (added from n w) e → Refuses t u (patched t (spec.move from p)) e
  lost_edits u (because why) h = absurd (back_not from t w n (cause_view why) doc there without h.0)
  lost_edits u NoMemory h = tt

-- ---- tests

pub test_holds : (p : Pointer) (v t u : Tree) → IsDoc t → at t p ≡ Ok u → u ≡ v → (edited (spec.test p v) t >>= within_depth) ≡ Ok t
test_holds p v t u doc a same =
    let on : same_tree u v ≡ true = ap (same_tree u) (sym same) ∙ same_tree-self u in
    rw (a, on) (within_ok t doc.shallow)

only_false : (b : Bool) → (b ≡ true → ⊥) → b ≡ false
only_false true h = absurd (h refl)
only_false false h = refl

pub test_fails : (p : Pointer) (v t u : Tree) → at t p ≡ Ok u → (u ≡ v → ⊥) → (edited (spec.test p v) t >>= within_depth) ≡ Err test_failed
test_fails p v t u a other =
    let off : same_tree u v ≡ false = only_false (same_tree u v) (λ e. other (same_tree-is u v e)) in rw (a, off) refl
