use Rattle.n32_values.specs.View.{tree_of}
use Rattle.block_forms.proofs.LineForms.{same_told}
use Rattle.block_forms.proofs.line.is_same.Goals as goal

pub returns : goal.returns
returns c = same_told c.is_same_doc.result (tree_of c.args.left.now) (tree_of c.args.right.now) c.is_same_doc.ensures
