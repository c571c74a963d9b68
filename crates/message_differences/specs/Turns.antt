-- Two objects walked side by side, the next name of both in byte order first.
use Rattle.std.specs.Prelude.{◌≡◌, ◌<◌, ◌≤◌, ℕ, List, [], ◌∷◌, ◌++◌, length, drop, Option, Some, None}
use Rattle.std.specs.Ordering.{match_ordering}
use Rattle.std.specs.declared.cmp.Ordering.{Ordering}
use Rattle.std.specs.declared.cmp.Ordering.TheVariants.{Less, Equal, Greater}
use Rattle.spec_documents.specs.Tree.{name_cmp}
use Rattle.spec_documents.specs.Fields.{Field}
use Rattle.spec_documents.specs.Place.{Pointer}
use Rattle.spec_messages.specs.Policy.{changed_in}

-- which of two objects has the next name: the earlier alone, both, or the later alone
abbrev pub next : List Field → List Field → Ordering
next [] [] = Equal
next (m ∷ ms) [] = Less
next [] (n ∷ ns) = Greater
next (m ∷ ms) (n ∷ ns) = name_cmp m.0 n.0

-- what differs at the next name
abbrev pub next_changed : Pointer → List Field → List Field → List Pointer
next_changed q [] [] = []
next_changed q (m ∷ ms) [] = (q ++ m.0 ∷ []) ∷ []
next_changed q [] (n ∷ ns) = (q ++ n.0 ∷ []) ∷ []
next_changed q (m ∷ ms) (n ∷ ns) = match_ordering (name_cmp m.0 n.0)
    ((q ++ m.0 ∷ []) ∷ [])
    (changed_in (q ++ m.0 ∷ []) m.1 (Some n.1))
    ((q ++ n.0 ∷ []) ∷ [])

-- the members at places i and j of two objects that come next
abbrev pub Comes : List Field → ℕ → List Field → ℕ → Ordering → Type 0
Comes ms i ns j Less = (i < length ms) × (next (drop i ms) (drop j ns) ≡ Less)
Comes ms i ns j Equal = (i < length ms) × (j < length ns) × (next (drop i ms) (drop j ns) ≡ Equal)
Comes ms i ns j Greater = (j < length ns) × (next (drop i ms) (drop j ns) ≡ Greater)

-- which of the two comes next, or both objects are done
abbrev pub ComesNext : List Field → ℕ → List Field → ℕ → Option Ordering → Type 0
ComesNext ms i ns j None = (length ms ≤ i) × (length ns ≤ j)
ComesNext ms i ns j (Some order) = Comes ms i ns j order
