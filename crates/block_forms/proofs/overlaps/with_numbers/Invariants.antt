use Rattle.std.proofs.Common.{◌≡◌, ◌+◌, ◌++◌, map, drop}
use Rattle.block_forms.specs.Numbered.{number_view, numbered}
use Rattle.block_forms.proofs.overlaps.with_numbers.Given as goal

abbrev pub invariant-loop-i : goal.invariant-loop-i
invariant-loop-i l = map number_view l.items.items ++ numbered (l.i + 1) (drop l.i l.paths) ≡ numbered 1 l.paths
