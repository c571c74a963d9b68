-- A step of reading the paths of items.
use Rattle.std.proofs.Common.{◌≡◌, ℕ, suc, ◌+◌, List, [], ◌∷◌, ◌++◌, Some, None, refl, sym, ap, ◌∙◌, take, drop, slice_get, arith}
use Rattle.std.proofs.lemmas.List.{map-append}
use Rattle.spec_documents.specs.Tree.{Tree}
use Rattle.spec_documents.specs.Place.{Pointer}
use Rattle.spec_messages.specs.Fault.{path_of, or_root, first_pathless}
use Rattle.n32_values.proofs.Trees.{drop_at, take_at}
use Rattle.block_forms.specs.Paths.{paths_of}

pub path_more : (ts : List Tree) (i : ℕ) (t : Tree) (p : Pointer) (ps : List Pointer) → slice_get ts i ≡ Some t → path_of t ≡ Some p → ps ≡ paths_of (take i ts) → ps ++ p ∷ [] ≡ paths_of (take (i + 1) ts)
path_more ts i t p ps e f g =
    ap (λ qs. qs ++ p ∷ []) g ∙ ap (λ o. paths_of (take i ts) ++ or_root o ∷ []) (sym f)
    ∙ sym (ap paths_of (take_at ts i t e) ∙ map-append (λ u. or_root (path_of u)) (take i ts) (t ∷ []))

pub path_passed : (ts : List Tree) (i k : ℕ) (t : Tree) (p : Pointer) → slice_get ts i ≡ Some t → path_of t ≡ Some p → first_pathless k (drop i ts) ≡ first_pathless (k + 1) (drop (i + 1) ts)
path_passed ts i k t p e f =
    let next : suc k ≡ k + 1 = omega arith in
    rw (drop_at ts i t e) (rw f (ap (λ n. first_pathless n (drop (i + 1) ts)) next))

pub pathless_met : (ts : List Tree) (i k : ℕ) (t : Tree) → slice_get ts i ≡ Some t → path_of t ≡ None → first_pathless k (drop i ts) ≡ Some k
pathless_met ts i k t e f = rw (drop_at ts i t e) (rw f refl)
