use Rattle.std.proofs.Common.{◌≡◌, ◌+◌, ◌++◌, ◌∷◌, [], map, take, length, add-one, arith, rules, refl, ap, ap₂, ◌∙◌}
use Rattle.std.proofs.lemmas.List.{take_at}
use Rattle.spec_documents.specs.Fields.{field_list}
use Rattle.spec_documents.specs.Text.{index_text}
use Rattle.spec_documents.specs.Hole.{marks, members_marks}
use Rattle.spec_documents.proofs.FieldLemmas.{fields-field_list}
use Rattle.n32_values.specs.View.{tree_of}
use Rattle.n32_values.proofs.Trees.{depth_within, member_depth_within, drop_at}
use Rattle.enc_index.specs.Marks.{mark_view, under, tokens}
use Rattle.enc_index.specs.declared.walk.Step.TheVariants.{Name, Index}
use Rattle.enc_index.proofs.MarkLists.{tokens-step, item_more, member_more}
use Rattle.enc_index.proofs.walk.+walk.Goals as goal

pub walk_items-walk-requires : goal.walk_items-walk-requires
walk_items-walk-requires t c = (omega (arith, depth_within c.args.list.now c.loop-i.i (tree_of c.item.result.now) c.item.ensures, c.decreases), tt)

pub walk_items-loop-i-preserved : goal.walk_items-loop-i-preserved
walk_items-loop-i-preserved t c =
    let path = c.args.path.now.items in
    let step = Index c.loop-i.i in
    let node = tree_of c.item.result.now in
    let pushed : c.push_step.new.path.items ≡ path ++ step ∷ [] = c.in_ok-push_step.ensures ∙ ap (λ p. p ++ step ∷ []) c.loop-i.invariant.path in
    let front : tokens c.push_step.new.path.items ≡ tokens path ++ index_text c.loop-i.i ∷ [] = ap tokens pushed ∙ tokens-step path step in record {
      deep = c.loop-i.invariant.deep;
      path = c.truncate.ensures.items ∙ ap₂ take c.loop-i.invariant.deep (c.in_ok-walk.ensures.path ∙ pushed) ∙ take_at path (step ∷ []) (length path) refl;
      marks = item_more (tokens path) c.loop-i.i (c.loop-i.i + 1) node _ _ (map mark_view c.loop-i.found) (map mark_view c.walk.new.found) _ (add-one c.loop-i.i)
          (drop_at c.args.list.now c.loop-i.i node c.item.ensures)
          (c.in_ok-walk.ensures.marks ∙ ap (λ f. map mark_view c.loop-i.found ++ map (under f) (marks node)) front) c.loop-i.invariant.marks;
    }

pub walk_members-loop-i-init : goal.walk_members-loop-i-init
walk_members-loop-i-init t c = record {
  deep = search rules;
  path = refl;
  marks = ap (λ ms. map mark_view c.args.found.now ++ map (under (tokens c.args.path.now.items)) (members_marks ms)) (fields-field_list c.args.object.now);
}

pub walk_members-walk-requires : goal.walk_members-walk-requires
walk_members-walk-requires t c =
    (omega (arith, member_depth_within c.args.object.now c.loop-i.i c.entry.result.0.now (tree_of c.entry.result.1.now) c.entry.ensures, c.decreases), tt)

pub walk_members-loop-i-preserved : goal.walk_members-loop-i-preserved
walk_members-loop-i-preserved t c =
    let path = c.args.path.now.items in
    let step = Name c.as_str.result in
    let name = c.entry.result.0.now in
    let node = tree_of c.entry.result.1.now in
    let pushed : c.push_step.new.path.items ≡ path ++ step ∷ [] = c.in_ok-push_step.ensures ∙ ap (λ p. p ++ step ∷ []) c.loop-i.invariant.path in
    let front : tokens c.push_step.new.path.items ≡ tokens path ++ name ∷ [] = ap tokens pushed ∙ tokens-step path step ∙ ap (λ n. tokens path ++ n ∷ []) c.as_str.ensures in record {
      deep = c.loop-i.invariant.deep;
      path = c.truncate.ensures.items ∙ ap₂ take c.loop-i.invariant.deep (c.in_ok-walk.ensures.path ∙ pushed) ∙ take_at path (step ∷ []) (length path) refl;
      marks = member_more (tokens path) name node _ _ (map mark_view c.loop-i.found) (map mark_view c.walk.new.found) _
          (drop_at (field_list c.args.object.now) c.loop-i.i (name, node) c.entry.ensures)
          (c.in_ok-walk.ensures.marks ∙ ap (λ f. map mark_view c.loop-i.found ++ map (under f) (marks node)) front) c.loop-i.invariant.marks;
    }
