-- The texts that a message's document has.
use Rattle.std.specs.Prelude.{ℕ, List, [], ◌∷◌, ◌++◌}
use Rattle.spec_messages.specs.Message.{Pair}
use Rattle.spec_messages.specs.Block.{value_text}

-- what comes after the first pair of a query
abbrev pub later_pairs : List Pair → List ℕ
later_pairs [] = []
later_pairs (p ∷ ps) = 38 ∷ (value_text p.name p.value ++ later_pairs ps)
