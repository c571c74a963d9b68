use Rattle.std.proofs.Common.{sym, ◌∙◌}
use Rattle.spec_handshake.specs.Calls.{has_suite}
use Rattle.jwe_flat.specs.View.{suite_view}
use Rattle.n32c_handshake.proofs.Checks.{found_here, found_later}
use Rattle.n32c_handshake.proofs.suites.common_suite.Goals as goal
use Rattle.std.proofs.Common.{map}

pub returns-then-has_suite : goal.returns-then-has_suite
returns-then-has_suite c = found_here suite_view (has_suite (map suite_view c.args.offered.now)) c.args.asked.now c.loop-i.i c.item-suite.result.now _ c.item-suite.ensures c.loop-i.invariant (sym c.has_suite.ensures ∙ c.if-has_suite.true)

pub loop-i-preserved : goal.loop-i-preserved
loop-i-preserved c = found_later suite_view (has_suite (map suite_view c.args.offered.now)) c.args.asked.now c.loop-i.i c.item-suite.result.now _ c.item-suite.ensures c.loop-i.invariant (sym c.has_suite.ensures ∙ c.if-has_suite.false)
