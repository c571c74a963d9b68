use Rattle.std.proofs.Common.{◌≡◌, drop}
use Rattle.block_forms.specs.Paths.{path_cmp}
use Rattle.block_forms.proofs.overlaps.compare.Given as goal

abbrev pub invariant-loop-i : goal.invariant-loop-i
invariant-loop-i l = path_cmp (drop l.i l.left) (drop l.i l.right) ≡ path_cmp l.left l.right
