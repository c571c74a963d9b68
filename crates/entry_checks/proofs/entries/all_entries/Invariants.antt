use Rattle.std.proofs.Common.{◌≡◌, ◌≤◌}
use Rattle.block_patch.specs.Commutes.{BlockOf}
use Rattle.entry_checks.specs.Views.{route_view, terms_view}
use Rattle.entry_checks.proofs.Progressing.{IsAt}
use Rattle.entry_checks.proofs.entries.all_entries.Given as goal

-- the entries so far are made, and the others are left
abbrev pub invariant-loop-i : goal.invariant-loop-i
invariant-loop-i g l = record {
  reached : (b : BlockOf l.fn.block) → IsAt (g.V.Verifier.meaning l.fn.verifier) (terms_view l.terms b.holes) l.fn.block b.clear l.entries l.i (route_view l.rest) l.current;
  same : g.V.Verifier.meaning l.verifier ≡ g.V.Verifier.meaning l.fn.verifier;
  later : g.V.Verifier.faults l.fn.verifier ≤ g.V.Verifier.faults l.verifier;
}
