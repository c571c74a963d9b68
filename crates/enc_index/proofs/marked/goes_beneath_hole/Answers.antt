use Rattle.std.proofs.Common.{ap, ◌∙◌}
use Rattle.std.specs.List.{list_any}
use Rattle.spec_documents.specs.Hole.{all_marks}
use Rattle.n32_values.specs.View.{tree_of}
use Rattle.enc_index.specs.Marks.{held}
use Rattle.enc_index.specs.About.{is_object_above}
use Rattle.enc_index.proofs.AboutLemmas.{any_mapped, above-is}
use Rattle.enc_index.proofs.marked.goes_beneath_hole.Goals as goal

pub returns : goal.returns
returns c =
    let f = is_object_above c.args.place.now in
    c.is_any_above.ensures
    ∙ (ap (list_any f) c.in_ok-found.ensures ∙ (any_mapped f held (all_marks (tree_of c.node.result.now)) ∙ (ap (λ t. list_any f (all_marks t)) c.node.ensures.value ∙ above-is c.args.place.now c.args.block.now)))
