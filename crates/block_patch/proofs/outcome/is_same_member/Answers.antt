use Rattle.n32_values.specs.View.{tree_of}
use Rattle.block_forms.proofs.LineForms.{same_told}
use Rattle.block_patch.proofs.outcome.is_same_member.Goals as goal

pub returns-in-Some-Some : goal.returns-in-Some-Some
returns-in-Some-Some c =
    rw (c.in-Some-Some.is-0, c.in-Some-Some.is-1) (same_told c.is_same_doc.result (tree_of c.in-Some-Some.left.now) (tree_of c.in-Some-Some.right.now) c.is_same_doc.ensures)
