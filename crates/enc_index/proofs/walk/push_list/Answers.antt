use Rattle.std.proofs.Common.{◌≡◌, ◌+◌, ◌++◌, ◌∷◌, [], map, add-one, refl, ap, ◌∙◌}
use Rattle.std.specs.Prelude.{codes}
use Rattle.spec_documents.specs.Place.{child}
use Rattle.spec_documents.specs.Text.{index_text}
use Rattle.spec_documents.specs.Hole.{marks_in}
use Rattle.n32_values.specs.View.{tree_of}
use Rattle.n32_values.proofs.Trees.{drop_at}
use Rattle.enc_index.specs.Marks.{mark_view, under, tokens, list_name, list_look}
use Rattle.enc_index.proofs.MarkLists.{value_more, three_steps}
use Rattle.enc_index.proofs.walk.push_list.Goals as goal

pub loop-i-preserved : goal.loop-i-preserved
loop-i-preserved c =
    let node = tree_of c.item.result.now in
    let look = list_look c.args.values in
    let steps = three_steps _ _ _ _ _ _ _ c.truncate.ensures.items c.in_ok-push_step.ensures c.in_ok-push_step-2.ensures c.in_ok-push_step-3.ensures in
    let path : tokens c.push_step-in-loop-i-2.new.path.items ≡ list_name c.args.values ∷ index_text c.loop-i.i ∷ codes "value" ∷ [] =
    steps ∙ ap (λ n. n ∷ index_text c.loop-i.i ∷ codes "value" ∷ []) c.name.ensures in
    value_more look (list_name c.args.values) (codes "value") c.loop-i.i (c.loop-i.i + 1) node _ _ (map mark_view c.loop-i.found) (map mark_view c.push_value.new.found) _ (add-one c.loop-i.i)
    (drop_at c.args.list.now c.loop-i.i node c.item.ensures)
    (c.in_ok-push_value.ensures ∙ ap (λ p. map mark_view c.loop-i.found ++ map (under p) (marks_in look (child (codes "value") node))) path) (λ i t ts. refl) c.loop-i.invariant
