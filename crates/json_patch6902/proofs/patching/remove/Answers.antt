use Rattle.n32_values.specs.View.{tree_of}
use Rattle.json_patch6902.proofs.OpLaws.{removed_fits}
use Rattle.json_patch6902.proofs.patching.remove.Goals as goal

pub returns : goal.returns
returns c = removed_fits c.args.path.now (tree_of c.args.node.now) _ c.requires c.in_ok-take_at.ensures.edit
