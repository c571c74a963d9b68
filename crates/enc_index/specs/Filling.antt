-- What filling a block comes to.
use Rattle.std.specs.Prelude.{ℕ, suc, List, [], ◌∷◌, Bool, true, not, ◌&&◌, nat_le, Option, Some, None, is_some, Result, Ok, Err, if◌then◌else◌}
use Rattle.spec_documents.specs.Tree.{Tree, depth}
use Rattle.spec_documents.specs.Hole.{HolePlace, is_words, unless_some, fill_all}

pub data Unfilled : Type 0 where
  not_text : ℕ → Unfilled
  too_deep : Unfilled

-- the place is that of a text hole, and the value is no text
abbrev pub is_unfit : HolePlace → Tree → Bool
is_unfit h v = is_some h.part && not (is_words (λ s. true) v)

-- the least index whose value is unfit for its place, counted from i
abbrev pub first_unfit : ℕ → List HolePlace → List Tree → Option ℕ
first_unfit i [] vs = None
first_unfit i (h ∷ hs) [] = None
first_unfit i (h ∷ hs) (v ∷ vs) = if is_unfit h v then Some i else first_unfit (suc i) hs vs

abbrev pub filled_or_deep : Tree → Result Tree Unfilled
filled_or_deep t = if nat_le (depth t) 127 then Ok t else Err too_deep

-- the filled block, or the first reason why there is none
abbrev pub filling : List HolePlace → List Tree → Tree → Result Tree Unfilled
filling hs vs j = unless_some (first_unfit 0 hs vs) not_text (filled_or_deep (fill_all vs j))
