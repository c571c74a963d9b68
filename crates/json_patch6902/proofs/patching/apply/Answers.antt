use Rattle.std.proofs.Common.{◌≡◌, true}
use Rattle.spec_documents.specs.Tree.{is_tree}
use Rattle.n32_values.specs.View.{tree_of}
use Rattle.json_patch6902.specs.View.{op_view}
use Rattle.json_patch6902.proofs.OpLaws.{patched_shallow, patched-tree}
use Rattle.json_patch6902.proofs.patching.apply.Goals as goal

pub of_shallow-requires : goal.of_shallow-requires
of_shallow-requires c =
    let known : is_tree (tree_of c.into_node-node.result) ≡ true = rw c.into_node-node.ensures c.node-known.ensures.tree in
    (patched_shallow _ _ (op_view c.args.op.now) c.in-Ok.ensures.edit, patched-tree _ _ (op_view c.args.op.now) c.in-Ok.ensures.tree known c.in-Ok.ensures.edit)
