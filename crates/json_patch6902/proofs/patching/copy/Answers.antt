use Rattle.n32_values.specs.View.{tree_of}
use Rattle.json_patch6902.proofs.OpSteps.{copied_edits}
use Rattle.json_patch6902.proofs.patching.copy.Goals as goal

pub returns : goal.returns
returns c =
    copied_edits c.args.from.now c.args.path.now (tree_of c.in_ok-copied.copied) (tree_of c.args.node.now) _ c.add_at.result c.requires c.in_ok-copied.ensures.0 c.in_ok-copied.ensures.1 c.add_at.ensures
