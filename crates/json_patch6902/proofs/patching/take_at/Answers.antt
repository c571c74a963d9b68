use Rattle.std.proofs.Common.{◌∙◌}
use Rattle.std.proofs.lemmas.Result.{err_from_is_err_and}
use Rattle.n32_values.specs.View.{tree_of}
use Rattle.json_patch6902.proofs.OpLaws.{removed_is}
use Rattle.json_patch6902.proofs.patching.take_at.Goals as goal

pub returns-clause-edit : goal.returns-clause-edit
returns-clause-edit c = removed_is c.args.path.now (tree_of c.args.node.now) ∙ (rw (c.as_slice.ensures, c.tokens.ensures) at c.in_ok-taken.ensures.edit)

pub returns-in_err-taken-clause-edit : goal.returns-in_err-taken-clause-edit
returns-in_err-taken-clause-edit c =
    let p = err_from_is_err_and c.from_residual.result c.from_residual.ensures.1 in
    rw (p.1, p.2, removed_is c.args.path.now (tree_of c.args.node.now)) (rw (c.as_slice.ensures, c.tokens.ensures) at c.in_err-taken.ensures.edit)
