use Rattle.n32_values.specs.View.{tree_of}
use Rattle.enc_index.proofs.MarkLists.{whole_walk, held-all_marks}
use Rattle.enc_index.proofs.walk.found_in.Goals as goal

pub returns : goal.returns
returns c =
    let first = rw c.new-found.ensures at c.in_ok-push_texts.ensures in
    held-all_marks (tree_of c.args.block.now) _ (whole_walk _ _ _ _ _ _ _ _ first c.in_ok-push_texts-2.ensures c.in_ok-push_values.ensures c.in_ok-push_values-2.ensures)
