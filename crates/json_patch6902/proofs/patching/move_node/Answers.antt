use Rattle.std.proofs.Common.{sym, ◌∙◌}
use Rattle.std.proofs.lemmas.Result.{err_from_is_err_and}
use Rattle.n32_values.specs.View.{tree_of}
use Rattle.json_patch6902.proofs.OpSteps.{no_move_edits, moved_edits, back_edits, lost_edits}
use Rattle.json_patch6902.proofs.patching.move_node.Goals as goal

pub returns-in_err-taken : goal.returns-in_err-taken
returns-in_err-taken c =
    let p = err_from_is_err_and c.from_residual.result c.from_residual.ensures.1 in
    rw (p.1, p.2) (no_move_edits c.args.from.now c.args.path.now (tree_of c.args.node.now) _ _ (sym c.is_beneath.ensures ∙ c.if-is_beneath.false) c.in_err-taken.ensures.edit)

pub returns-in-Ok : goal.returns-in-Ok
returns-in-Ok c =
    moved_edits c.args.from.now c.args.path.now (tree_of c.args.node.now) (tree_of c.in_ok-taken.taken) _ c.requires (sym c.is_beneath.ensures ∙ c.if-is_beneath.false) c.in_ok-taken.ensures.taken c.in_ok-taken.ensures.edit
    _ c.add_at.result c.in-Ok.ensures c.add_at.ensures

pub returns-in_ok-add_at-in-Err : goal.returns-in_ok-add_at-in-Err
returns-in_ok-add_at-in-Err c =
    back_edits c.args.from.now c.args.path.now (tree_of c.args.node.now) (tree_of c.in_ok-taken.taken) _ c.requires (sym c.is_beneath.ensures ∙ c.if-is_beneath.false) c.in_ok-taken.ensures.taken c.in_ok-taken.ensures.edit
    _ c.in-Err.why c.in-Err.ensures c.in_ok-add_at-in-Err.ensures

pub returns-in_err-add_at-in-Err : goal.returns-in_err-add_at-in-Err
returns-in_err-add_at-in-Err c =
    let p = err_from_is_err_and c.from_residual-in_err-add_at-in-Err.result c.from_residual-in_err-add_at-in-Err.ensures.1 in
    rw (p.1, p.2) (lost_edits c.args.from.now c.args.path.now (tree_of c.args.node.now) (tree_of c.in_ok-taken.taken) _ c.requires (sym c.is_beneath.ensures ∙ c.if-is_beneath.false) c.in_ok-taken.ensures.taken c.in_ok-taken.ensures.edit
    _ _ c.in_err-add_at-in-Err.ensures)
