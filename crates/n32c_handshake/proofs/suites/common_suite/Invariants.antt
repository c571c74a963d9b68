use Rattle.std.proofs.Common.{◌≡◌, map, drop}
use Rattle.spec_handshake.specs.Calls.{common_suite}
use Rattle.jwe_flat.specs.View.{suite_view}
use Rattle.n32c_handshake.proofs.suites.common_suite.Given as goal

abbrev pub invariant-loop-i : goal.invariant-loop-i
invariant-loop-i l = common_suite (map suite_view (drop l.i l.asked)) (map suite_view l.offered) ≡ common_suite (map suite_view l.asked) (map suite_view l.offered)
