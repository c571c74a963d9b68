use Rattle.std.proofs.Common.{◌≡◌, map, drop}
use Rattle.spec_handshake.specs.Calls.{has_suite}
use Rattle.jwe_flat.specs.View.{suite_view}
use Rattle.n32c_handshake.proofs.suites.has_suite.Given as goal

abbrev pub invariant-loop-i : goal.invariant-loop-i
invariant-loop-i l = has_suite (map suite_view (drop l.i l.list)) (suite_view l.suite) ≡ has_suite (map suite_view l.list) (suite_view l.suite)
