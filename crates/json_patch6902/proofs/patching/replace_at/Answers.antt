use Rattle.std.proofs.Common.{◌≡◌, ◌<◌, length, ◌∙◌}
use Rattle.std.proofs.lemmas.Result.{err_from_is_err_and}
use Rattle.n32_values.specs.View.{tree_of}
use Rattle.json_patch6902.proofs.OpLaws.{some_token, replaced_is}
use Rattle.json_patch6902.proofs.patching.replace_at.Goals as goal

pub returns : goal.returns
returns c =
    let some : 0 < length c.args.path.now = some_token _ c.args.path.now c.is_empty.ensures c.if-is_empty.false in
    replaced_is c.args.path.now (tree_of c.args.value) (tree_of c.args.node.now) some ∙ (rw (c.as_slice.ensures, c.tokens.ensures) at c.in_ok-change_at.ensures.edit)

pub returns-in_err-change_at : goal.returns-in_err-change_at
returns-in_err-change_at c =
    let p = err_from_is_err_and c.from_residual.result c.from_residual.ensures.1 in
    let some : 0 < length c.args.path.now = some_token _ c.args.path.now c.is_empty.ensures c.if-is_empty.false in
    rw (p.1, p.2, replaced_is c.args.path.now (tree_of c.args.value) (tree_of c.args.node.now) some) (rw (c.as_slice.ensures, c.tokens.ensures) at c.in_err-change_at.ensures.edit)
