use Rattle.std.proofs.Common.{sym, ◌∙◌}
use Rattle.spec_handshake.specs.Calls.{same_capability}
use Rattle.policy_documents.proofs.Lists.{any_here, any_later}
use Rattle.n32c_handshake.specs.View.{capability_view}
use Rattle.n32c_handshake.proofs.capability.has_capability.Goals as goal

pub loop-i-preserved : goal.loop-i-preserved
loop-i-preserved c = any_later capability_view (same_capability (capability_view c.args.capability)) c.args.list.now c.loop-i.i c.item.result.now _ c.item.ensures c.loop-i.invariant (sym c.is_same.ensures ∙ c.if-is_same.false)

pub returns-then-is_same : goal.returns-then-is_same
returns-then-is_same c = any_here capability_view (same_capability (capability_view c.args.capability)) c.args.list.now c.loop-i.i c.item.result.now _ c.item.ensures c.loop-i.invariant (sym c.is_same.ensures ∙ c.if-is_same.true)
