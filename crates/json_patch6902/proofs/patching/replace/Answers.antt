use Rattle.std.proofs.Common.{refl, sym, ◌∙◌}
use Rattle.n32_values.specs.View.{tree_of}
use Rattle.json_patch6902.proofs.OpLaws.{deeper, no_deeper, replaced_deep}
use Rattle.json_patch6902.proofs.OpSteps.{replaced_edits}
use Rattle.json_patch6902.proofs.patching.replace.Goals as goal

pub returns-then-is_too_deep-clause-edit : goal.returns-then-is_too_deep-clause-edit
returns-then-is_too_deep-clause-edit c =
    (replaced_deep c.args.path.now (tree_of c.args.value.now) (tree_of c.args.node.now) (tree_of c.in_ok-find.field-0.now) (deeper 127 _ (sym c.is_too_deep.ensures.deep ∙ c.if-is_too_deep.true)) c.in_ok-find.ensures, refl)

pub returns-clause-edit : goal.returns-clause-edit
returns-clause-edit c =
    replaced_edits c.args.path.now (tree_of c.args.value.now) (tree_of c.args.node.now) _ (tree_of c.in_ok-find.field-0.now) c.replace_at.result c.requires (no_deeper 127 _ (sym c.is_too_deep.ensures.deep ∙ c.if-is_too_deep.false)) c.in_ok-find.ensures
    (rw c.in_ok-copied.ensures at c.replace_at.ensures)
