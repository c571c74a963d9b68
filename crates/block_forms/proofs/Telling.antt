-- The first fault of the paths of items.
use Rattle.std.proofs.Common.{◌≡◌, ℕ, suc, List, [], ◌∷◌, Option, Some, None, if◌then◌else◌, refl, ap, sym, ◌∙◌}
use Rattle.spec_documents.specs.Tree.{Tree}
use Rattle.spec_documents.specs.Place.{Pointer}
use Rattle.spec_messages.specs.Fault.{overlap, first_pathless, first_overlap, path_of, or_root}
use Rattle.block_forms.specs.Paths.{paths_of, overlaps, overlap_from}
use Rattle.block_forms.specs.Faults.{paths_fault}

overlap_same : (k : ℕ) (seen : List Pointer) (ts : List Tree) → first_overlap k seen ts ≡ overlap_from k seen (paths_of ts)
overlap_same k seen [] = refl
overlap_same k seen (t ∷ ts) = ap (λ o. if overlaps (or_root (path_of t)) seen then Some k else o) (overlap_same (suc k) (or_root (path_of t) ∷ seen) ts)

pub apart_right : (ts : List Tree) (ps : List Pointer) → first_pathless 1 ts ≡ None → ps ≡ paths_of ts → overlap_from 1 [] ps ≡ None → paths_fault ts ≡ None
apart_right ts ps e p o = rw (e, overlap_same 1 [] ts ∙ ap (overlap_from 1 []) (sym p) ∙ o) refl

pub apart_overlap : (ts : List Tree) (ps : List Pointer) (k : ℕ) → first_pathless 1 ts ≡ None → ps ≡ paths_of ts → overlap_from 1 [] ps ≡ Some k → paths_fault ts ≡ Some (overlap k)
apart_overlap ts ps k e p o = rw (e, overlap_same 1 [] ts ∙ ap (overlap_from 1 []) (sym p) ∙ o) refl
