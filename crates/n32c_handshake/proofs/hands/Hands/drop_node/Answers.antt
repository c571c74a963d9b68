use Rattle.std.proofs.Common.{sym, subst, map, IsTrue, not, bytes_eq}
use Rattle.std.specs.List.{list_all}
use Rattle.n32c_handshake.specs.View.{start_view}
use Rattle.n32c_handshake.specs.Waiting.{is_named}
use Rattle.n32c_handshake.proofs.Waiting.{all_filtered}
use Rattle.n32c_handshake.proofs.hands.Hands.drop_node.Goals as goal

pub invariant_of-self : goal.invariant_of-self
invariant_of-self c = subst (λ z. IsTrue (list_all is_named z)) (sym c.drop_of.ensures) (all_filtered is_named (λ s. not (bytes_eq s.node c.args.node.now)) (map start_view c.self.inside.starts.items) c.self.invariant)
