use Rattle.std.proofs.Common.{sym, ap, subst, map, IsTrue, ◌∙◌, slice_get, slice_set}
use Rattle.std.specs.List.{list_all}
use Rattle.spec_handshake.specs.Starts.{goes_on}
use Rattle.n32c_handshake.specs.View.{start_view}
use Rattle.n32c_handshake.specs.Waiting.{is_named}
use Rattle.n32c_handshake.proofs.Waiting.{seen_at, seen_set, seen_within, all_at, all_set, some_at}
use Rattle.n32c_handshake.proofs.hands.Hands.go_on.Goals as goal

pub invariant_of-self : goal.invariant_of-self
invariant_of-self c =
    let there = seen_at start_view c.self.inside.starts.items c.args.i c.index_mut.result.now c.index_mut.ensures.value (seen_within start_view c.self.inside.starts.items c.args.self.now c.args.i c.self.view_is c.requires) in
    let named : IsTrue (is_named (start_view c.index_mut.result.now)) = all_at is_named (map start_view c.self.inside.starts.items) c.args.i (start_view c.index_mut.result.now) there c.self.invariant in
    subst (λ z. IsTrue (list_all is_named z)) (sym (seen_set start_view c.self.inside.starts.items c.args.i _)) (all_set is_named (map start_view c.self.inside.starts.items) c.args.i _ named c.self.invariant)

pub returns : goal.returns
returns c =
    let there = seen_at start_view c.self.inside.starts.items c.args.i c.index_mut.result.now c.index_mut.ensures.value (seen_within start_view c.self.inside.starts.items c.args.self.now c.args.i c.self.view_is c.requires) in
    some_at _ (slice_get c.args.self.now c.args.i) (start_view c.index_mut.result.now) (ap (λ z. slice_get z c.args.i) (sym c.self.view_is) ∙ there)
    (seen_set start_view c.self.inside.starts.items c.args.i _ ∙ ap (λ z. slice_set z c.args.i (goes_on (start_view c.index_mut.result.now))) c.self.view_is)
