use Rattle.std.proofs.Common.{◌++◌, map, ap, sym, ◌∙◌}
use Rattle.spec_documents.specs.Tree.{trees}
use Rattle.spec_documents.specs.Place.{child}
use Rattle.n32_values.specs.View.{tree_of}
use Rattle.enc_index.specs.Marks.{mark_view, list_name, list_look}
use Rattle.enc_index.proofs.MarkLists.{values_found}
use Rattle.enc_index.proofs.walk.push_values.Goals as goal

pub returns-in_ok-push_list-in-Some-Items : goal.returns-in_ok-push_list-in-Some-Items
returns-in_ok-push_list-in-Some-Items c =
    let told = rw c.name.ensures at (rw c.in-Some-Items.field-0-is at c.in-Some-Items.ensures) in
    c.in_ok-push_list-in-Some-Items.ensures
    ∙ ap (λ r. map mark_view c.args.found.now ++ r) (sym (values_found (list_look c.args.values) (list_name c.args.values) (child (list_name c.args.values) (tree_of c.args.block.now)) (trees c.in-Some-Items.list) told))
