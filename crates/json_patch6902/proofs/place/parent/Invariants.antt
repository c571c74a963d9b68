use Rattle.std.proofs.Common.{◌≡◌, drop}
use Rattle.spec_documents.specs.Place.{at, front}
use Rattle.n32_values.specs.View.{tree_of}
use Rattle.json_patch6902.proofs.place.parent.Given as goal

abbrev pub invariant-loop-i : goal.invariant-loop-i
invariant-loop-i l = at (tree_of l.place) (drop l.i (front l.path)) ≡ at (tree_of l.node) (front l.path)
