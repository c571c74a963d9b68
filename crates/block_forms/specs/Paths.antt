-- The paths of a block's items, and which of them overlap.
use Rattle.std.specs.Prelude.{◌≡◌, ⊤, ℕ, suc, List, [], ◌∷◌, map, Bool, ◌||◌, Option, Some, None, if◌then◌else◌}
use Rattle.std.specs.declared.cmp.Ordering.{Ordering}
use Rattle.std.specs.Cmp.Lexicographic.{slice_cmp}
use Rattle.std.specs.List.{list_any}
use Rattle.spec_documents.specs.Tree.{Tree, name_cmp}
use Rattle.spec_documents.specs.Place.{Pointer, is_prefix}
use Rattle.spec_messages.specs.Fault.{path_of, or_root}
use Rattle.block_forms.specs.declared.paths.PathsRead.{PathsRead}
use Rattle.block_forms.specs.declared.paths.PathsRead.TheVariants.{Pathless, NoMemory}

abbrev pub paths_of : List Tree → List Pointer
paths_of ts = map (λ t. or_root (path_of t)) ts

abbrev pub RefusesPaths : PathsRead → Option ℕ → Type 0
RefusesPaths (Pathless k) first = first ≡ Some k
RefusesPaths NoMemory first = ⊤

-- one of the paths is above or beneath p, or is p
abbrev pub overlaps : Pointer → List Pointer → Bool
overlaps p seen = list_any (λ q. is_prefix p q || is_prefix q p) seen

-- the first path, from number k on, that overlaps one that was seen
abbrev pub overlap_from : ℕ → List Pointer → List Pointer → Option ℕ
overlap_from k seen [] = None
overlap_from k seen (p ∷ ps) = if overlaps p seen then Some k else overlap_from (suc k) (p ∷ seen) ps

-- the order of paths: by their first tokens that differ
abbrev pub path_cmp : Pointer → Pointer → Ordering
path_cmp = slice_cmp name_cmp
