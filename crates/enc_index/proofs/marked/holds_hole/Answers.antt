use Rattle.std.proofs.Common.{ap, ◌∙◌}
use Rattle.std.specs.List.{list_any}
use Rattle.spec_documents.specs.Place.{is_prefix}
use Rattle.spec_documents.specs.Hole.{Mark, all_marks}
use Rattle.n32_values.specs.View.{tree_of}
use Rattle.enc_index.specs.Marks.{held}
use Rattle.enc_index.proofs.AboutLemmas.{any_mapped}
use Rattle.enc_index.proofs.marked.holds_hole.Goals as goal

pub returns : goal.returns
returns c =
    let f = λ (m : Mark). is_prefix c.args.place.now m.place.pointer in
    c.is_any_within.ensures ∙ (ap (list_any f) c.in_ok-found.ensures ∙ (any_mapped f held (all_marks (tree_of c.node.result.now)) ∙ ap (λ t. list_any f (all_marks t)) c.node.ensures.value))
