use Rattle.std.proofs.Common.{◌≡◌, drop}
use Rattle.n32_values.specs.View.{tree_of}
use Rattle.policy_tables.specs.Secrecy.{meets_mark}
use Rattle.policy_tables.proofs.body.meets_mark.Given as goal

abbrev pub invariant-loop-i : goal.invariant-loop-i
invariant-loop-i l = meets_mark (drop l.i l.pointer) (tree_of l.place) ≡ meets_mark l.pointer (tree_of l.fn.body)
