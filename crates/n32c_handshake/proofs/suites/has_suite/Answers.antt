use Rattle.std.proofs.Common.{sym, ◌∙◌}
use Rattle.spec_handshake.specs.Calls.{same_suite}
use Rattle.policy_documents.proofs.Lists.{any_here, any_later}
use Rattle.jwe_flat.specs.View.{suite_view}
use Rattle.n32c_handshake.proofs.suites.has_suite.Goals as goal

pub loop-i-preserved : goal.loop-i-preserved
loop-i-preserved c = any_later suite_view (same_suite (suite_view c.args.suite)) c.args.list.now c.loop-i.i c.item.result.now _ c.item.ensures c.loop-i.invariant (sym c.is_same_suite.ensures ∙ c.if-is_same_suite.false)

pub returns-then-is_same_suite : goal.returns-then-is_same_suite
returns-then-is_same_suite c = any_here suite_view (same_suite (suite_view c.args.suite)) c.args.list.now c.loop-i.i c.item.result.now _ c.item.ensures c.loop-i.invariant (sym c.is_same_suite.ensures ∙ c.if-is_same_suite.true)
