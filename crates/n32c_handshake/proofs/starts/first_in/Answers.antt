use Rattle.std.proofs.Common.{sym, map, ◌∙◌}
use Rattle.spec_handshake.specs.Starts.{waits}
use Rattle.n32c_handshake.specs.View.{start_view, waiting_view}
use Rattle.n32c_handshake.proofs.Waiting.{first_at, none_more, seen_at}
use Rattle.n32c_handshake.proofs.starts.first_in.Goals as goal

pub returns-then-waits-clause-first : goal.returns-then-waits-clause-first
returns-then-waits-clause-first c =
    first_at (waits c.args.node.now c.args.call.value c.args.sender.now (waiting_view c.args.waiting)) (map start_view c.args.starts.now) c.loop-i.i (start_view c.index-starts-i.result)
    (seen_at start_view c.args.starts.now c.loop-i.i c.index-starts-i.result c.index-starts-i.is c.loop-i-test.true) (sym c.waits.ensures ∙ c.if-waits.true) c.loop-i.invariant

pub loop-i-preserved : goal.loop-i-preserved
loop-i-preserved c =
    none_more (waits c.args.node.now c.args.call.value c.args.sender.now (waiting_view c.args.waiting)) (map start_view c.args.starts.now) c.loop-i.i (start_view c.index-starts-i.result)
    (seen_at start_view c.args.starts.now c.loop-i.i c.index-starts-i.result c.index-starts-i.is c.loop-i-test.true) (sym c.waits.ensures ∙ c.if-waits.false) c.loop-i.invariant
