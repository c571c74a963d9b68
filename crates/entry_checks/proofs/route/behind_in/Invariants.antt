use Rattle.std.proofs.Common.{◌≡◌, drop}
use Rattle.entry_checks.specs.Steps.{behind}
use Rattle.entry_checks.proofs.route.behind_in.Given as goal

abbrev pub invariant-loop-i : goal.invariant-loop-i
invariant-loop-i l = behind l.identity (drop l.i l.texts) ≡ behind l.identity l.texts
