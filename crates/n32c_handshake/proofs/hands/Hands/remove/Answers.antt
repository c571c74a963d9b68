use Rattle.std.proofs.Common.{sym, ap, subst, map, IsTrue, ◌∙◌}
use Rattle.std.specs.List.{list_all, remove}
use Rattle.n32c_handshake.specs.View.{start_view}
use Rattle.n32c_handshake.specs.Waiting.{is_named}
use Rattle.n32c_handshake.proofs.Waiting.{seen_removed, all_removed}
use Rattle.n32c_handshake.proofs.hands.Hands.remove.Goals as goal

pub invariant_of-self : goal.invariant_of-self
invariant_of-self c =
    subst (λ z. IsTrue (list_all is_named (map start_view z))) (sym c.remove-gone.ensures.items)
    (subst (λ z. IsTrue (list_all is_named z)) (sym (seen_removed start_view c.self.inside.starts.items c.args.i)) (all_removed is_named (map start_view c.self.inside.starts.items) c.args.i c.self.invariant))

pub returns : goal.returns
returns c = ap (map start_view) c.remove-gone.ensures.items ∙ (seen_removed start_view c.self.inside.starts.items c.args.i ∙ ap (λ z. remove z c.args.i) c.self.view_is)
