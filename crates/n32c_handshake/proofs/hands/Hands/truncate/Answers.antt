use Rattle.std.proofs.Common.{sym, ap, subst, map, take, IsTrue, ◌∙◌}
use Rattle.std.specs.List.{list_all}
use Rattle.n32c_handshake.specs.View.{start_view}
use Rattle.n32c_handshake.specs.Waiting.{is_named}
use Rattle.n32c_handshake.proofs.Waiting.{seen_taken, all_taken}
use Rattle.n32c_handshake.proofs.hands.Hands.truncate.Goals as goal

pub invariant_of-self : goal.invariant_of-self
invariant_of-self c =
    subst (λ z. IsTrue (list_all is_named (map start_view z))) (sym c.truncate.ensures.items)
    (subst (λ z. IsTrue (list_all is_named z)) (sym (seen_taken start_view c.self.inside.starts.items c.args.count)) (all_taken is_named (map start_view c.self.inside.starts.items) c.args.count c.self.invariant))

pub returns : goal.returns
returns c = ap (map start_view) c.truncate.ensures.items ∙ (seen_taken start_view c.self.inside.starts.items c.args.count ∙ ap (take c.args.count) c.self.view_is)
