use Rattle.std.proofs.Common.{map}
use Rattle.n32c_handshake.specs.View.{start_view}
use Rattle.n32c_handshake.specs.Waiting.{is_named}
use Rattle.n32c_handshake.proofs.Waiting.{seen_at, seen_within, all_at}
use Rattle.n32c_handshake.proofs.hands.Hands.start.Goals as goal

pub returns-clause-named : goal.returns-clause-named
returns-clause-named c =
    all_at is_named (map start_view c.self.inside.starts.items) c.args.i (start_view c.index.result.now)
    (seen_at start_view c.self.inside.starts.items c.args.i c.index.result.now c.index.ensures (seen_within start_view c.self.inside.starts.items c.args.self.now c.args.i c.self.view_is c.requires)) c.self.invariant
