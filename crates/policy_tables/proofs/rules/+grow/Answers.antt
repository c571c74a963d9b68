use Rattle.std.proofs.Common.{◌+◌, drop, ap, sym, ◌∙◌}
use Rattle.spec_documents.specs.Tree.{put_member}
use Rattle.n32_values.specs.View.{tree_of}
use Rattle.n32_values.proofs.Trees.{drop_at}
use Rattle.policy_tables.specs.Covered.{with_pointer}
use Rattle.policy_tables.proofs.CoverTree.{pointer_step, pointer_stays}
use Rattle.policy_tables.proofs.rules.+grow.Goals as goal

pub returns-then-is_end : goal.returns-then-is_end
returns-then-is_end t c =
    let path = c.args.pointer.now in
    let name = c.token-name.result.now in
    pointer_stays name (drop (c.args.from + 1) path) (tree_of c.args.tree) (sym c.is_end.ensures ∙ c.if-is_end.true)
    ∙ ap (λ p. with_pointer p (tree_of c.args.tree)) (sym (drop_at path c.args.from name c.token-name.ensures))

pub returns : goal.returns
returns t c =
    let path = c.args.pointer.now in
    let name = c.token-name.result.now in
    pointer_step name (drop (c.args.from + 1) path) (tree_of c.args.tree) _ _ _ _ _ (sym c.is_end.ensures ∙ c.if-is_end.false) c.members_in-map.ensures c.in_ok-member.ensures.node c.in_ok-member.ensures.map c.in_ok-longer.ensures
    (c.in_ok-put.ensures.ok ∙ ap (λ k. put_member k (tree_of c.in_ok-longer.longer) c.lifted.new.map) c.in_ok-copy.ensures)
    ∙ ap (λ p. with_pointer p (tree_of c.args.tree)) (sym (drop_at path c.args.from name c.token-name.ensures))
