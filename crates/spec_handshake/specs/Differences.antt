-- How two policies differ first (TS 29.573 clause 5.2.3.3 in outline; that both sides must have the same policy is this project's own).
use Rattle.std.specs.Prelude.{ℕ, ◌+◌, List, [], ◌∷◌, ◌++◌, map, Option, Some, None, if◌then◌else◌, codes}
use Rattle.std.specs.Option.{option_or}
use Rattle.std.specs.Fmt.{decimal}
use Rattle.spec_documents.specs.Tree.{Tree, same_tree}
use Rattle.spec_documents.specs.Compact.{compact_text}
use Rattle.spec_messages.specs.Policy.{Policy, Sort, same_list, same_sort}
use Rattle.spec_messages.specs.PolicyDocument.{mapping_tree}

pub data Difference : Type 0 where
  -- the mapping of that number, from 0, differs: as printed on both sides, or missing at one of them
  AtMapping : (number : ℕ) (own other : Option Tree) → Difference
  -- the mappings are the same, and the sets of types differ
  InTypes : Difference

-- from mapping k on
abbrev pub first_unlike : ℕ → (own other : List Tree) → Option Difference
first_unlike k [] [] = None
first_unlike k (t ∷ ts) [] = Some (AtMapping k (Some t) None)
first_unlike k [] (u ∷ us) = Some (AtMapping k None (Some u))
first_unlike k (t ∷ ts) (u ∷ us) = if same_tree t u then first_unlike (k + 1) ts us else Some (AtMapping k (Some t) (Some u))

abbrev pub unlike_types : List Sort → List Sort → Option Difference
unlike_types own other = if same_list same_sort own other then None else Some InTypes

-- the first difference, where the policies aren't the same
abbrev pub difference : (own other : Policy) → Option Difference
difference own other = option_or (first_unlike 0 (map mapping_tree own.mappings) (map mapping_tree other.mappings)) (unlike_types own.sorts other.sorts)

-- ---- how it is told

abbrev pub side_text : Option Tree → List ℕ
side_text None = codes "none"
side_text (Some t) = compact_text t

-- the number and both mappings, with a space between each two
abbrev pub difference_text : Difference → List ℕ
difference_text (AtMapping number own other) = decimal number ++ 32 ∷ (side_text own ++ 32 ∷ side_text other)
difference_text InTypes = codes "types"
