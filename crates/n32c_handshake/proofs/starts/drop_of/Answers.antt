use Rattle.std.proofs.Common.{◌<◌, length, sym, ap, not, bytes_eq, ◌∙◌, arith}
use Rattle.n32c_handshake.specs.View.{start_view}
use Rattle.n32c_handshake.proofs.Waiting.{gone_at, stays_at, seen_at}
use Rattle.n32c_handshake.proofs.starts.drop_of.Goals as goal

pub loop-i-preserved-then-is_of : goal.loop-i-preserved-then-is_of
loop-i-preserved-then-is_of c =
    let within : c.loop-i.i < length c.loop-i.starts.items = omega (arith, c.loop-i-test.true, c.len.ensures) in
    record {
      within = omega (arith, within, c.remove-gone.ensures.len);
      kept = gone_at start_view (λ s. not (bytes_eq s.node c.args.node.now)) c.loop-i.starts.items c.remove-gone.new.self.items c.loop-i.i c.index.result.now _
          (seen_at start_view c.loop-i.starts.items c.loop-i.i c.index.result.now c.index.ensures within) (ap not (sym c.is_of.ensures ∙ c.if-is_of.true)) c.remove-gone.ensures.items c.loop-i.invariant.kept;
    }

pub loop-i-preserved : goal.loop-i-preserved
loop-i-preserved c =
    let within : c.loop-i.i < length c.loop-i.starts.items = omega (arith, c.loop-i-test.true, c.len.ensures) in
    record {
      within = omega (arith, within);
      kept = stays_at start_view (λ s. not (bytes_eq s.node c.args.node.now)) c.loop-i.starts.items c.loop-i.i c.index.result.now _
          (seen_at start_view c.loop-i.starts.items c.loop-i.i c.index.result.now c.index.ensures within) (ap not (sym c.is_of.ensures ∙ c.if-is_of.false)) c.loop-i.invariant.kept;
    }
