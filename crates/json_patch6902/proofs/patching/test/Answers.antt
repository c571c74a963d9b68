use Rattle.std.proofs.Common.{refl}
use Rattle.n32_values.specs.View.{tree_of}
use Rattle.json_patch6902.proofs.OpLaws.{other_tree}
use Rattle.json_patch6902.proofs.OpSteps.{test_holds, test_fails}
use Rattle.json_patch6902.proofs.patching.test.Goals as goal

pub returns-then-is_same_doc : goal.returns-then-is_same_doc
returns-then-is_same_doc c =
    test_holds c.args.path.now (tree_of c.args.value.now) (tree_of c.args.node.now) (tree_of c.in_ok-find.field-0.now) c.requires c.in_ok-find.ensures (c.is_same_doc.ensures.0 c.if-is_same_doc.true)

pub returns-else-is_same_doc : goal.returns-else-is_same_doc
returns-else-is_same_doc c =
    (test_fails c.args.path.now (tree_of c.args.value.now) (tree_of c.args.node.now) (tree_of c.in_ok-find.field-0.now) c.in_ok-find.ensures (other_tree _ _ _ c.is_same_doc.ensures c.if-is_same_doc.false), refl)
