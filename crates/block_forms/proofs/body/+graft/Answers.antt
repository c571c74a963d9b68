use Rattle.std.proofs.Common.{◌+◌, drop, ap, sym, ◌∙◌}
use Rattle.spec_documents.specs.Tree.{put_member}
use Rattle.spec_messages.specs.Block as spec
use Rattle.n32_values.specs.View.{tree_of}
use Rattle.n32_values.proofs.Trees.{drop_at}
use Rattle.block_forms.proofs.Grafting.{graft_step}
use Rattle.block_forms.proofs.body.+graft.Goals as goal

pub returns : goal.returns
returns t c =
    let path = c.args.path.now in
    let name = c.token-name.result.now in
    graft_step name (drop (c.args.from + 1) path) (tree_of c.args.value) (tree_of c.args.node) _ _ _ _ _ c.members_in-map.ensures c.in_ok-member.ensures.node c.in_ok-member.ensures.map c.in_ok-grown.ensures (c.in_ok-put.ensures.ok ∙ ap (λ k. put_member k (tree_of c.in_ok-grown.grown) c.lifted.new.map) c.in_ok-copy.ensures)
    ∙ ap (λ p. spec.grafted p (tree_of c.args.value) (tree_of c.args.node)) (sym (drop_at path c.args.from name c.token-name.ensures))
