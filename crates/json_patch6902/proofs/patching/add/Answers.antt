use Rattle.n32_values.specs.View.{tree_of}
use Rattle.json_patch6902.proofs.OpSteps.{added_edits}
use Rattle.json_patch6902.proofs.patching.add.Goals as goal

pub returns-clause-edit : goal.returns-clause-edit
returns-clause-edit c =
    added_edits c.args.path.now (tree_of c.args.value.now) (tree_of c.args.node.now) _ c.add_at.result c.requires c.in_ok-check_add.ensures (rw c.in_ok-copied.ensures at c.add_at.ensures)
