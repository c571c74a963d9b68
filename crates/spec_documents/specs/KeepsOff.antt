-- An operation that keeps off the holes of a tree (this project's own; a premise of the laws on filling).
use Rattle.std.specs.Prelude.{◌≡◌, false}
use Rattle.spec_documents.specs.Tree.{Tree}
use Rattle.spec_documents.specs.Patch.{Op, add, remove, replace, move, copy, test}
use Rattle.spec_documents.specs.Hole.{has_marked, goes_into}

-- where op makes w of t, its value has no mark, and no place of it goes into a marked object: a place that is taken
-- from or looked at in t, a place that is added to in w
abbrev pub KeepsOff : Op → Tree → Tree → Type 0
KeepsOff (add p v) t w = (has_marked v ≡ false) × (goes_into w p ≡ false)
KeepsOff (remove p) t w = goes_into t p ≡ false
KeepsOff (replace p v) t w = (has_marked v ≡ false) × (goes_into t p ≡ false)
KeepsOff (move from p) t w = (goes_into t from ≡ false) × (goes_into w p ≡ false)
KeepsOff (copy from p) t w = (goes_into t from ≡ false) × (goes_into w p ≡ false)
KeepsOff (test p v) t w = (has_marked v ≡ false) × (goes_into t p ≡ false)
