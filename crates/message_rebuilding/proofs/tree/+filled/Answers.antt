use Rattle.std.proofs.Common.{◌≡◌, ◌+◌, ◌≤◌, map, length, Some, option_map, IfOk, arith, ap, sym, subst, ◌∙◌}
use Rattle.std.proofs.lemmas.List.{take_all}
use Rattle.spec_documents.specs.Tree.{Tree, trees, members}
use Rattle.spec_documents.specs.Fields.{field_list}
use Rattle.spec_documents.specs.Hole.{fill, fill_members, hole_members, hole_index}
use Rattle.n32_values.specs.View.{tree_of}
use Rattle.n32_values.proofs.Trees.{depth_within, member_depth_within}
use Rattle.doc_forms.specs.Capped.{capped}
use Rattle.enc_index.proofs.FillTexts.{object_held, object_none}
use Rattle.message_rebuilding.proofs.Fillings.{items-filled, item_filled, field_filled, field_more, still_ascending, all_filled}
use Rattle.message_rebuilding.proofs.tree.+filled.Goals as goal

pub filled_list-filled_node-requires : goal.filled_list-filled_node-requires
filled_list-filled_node-requires t c = (omega (arith, depth_within c.args.list.now c.loop-i.i (tree_of c.item.result.now) c.item.ensures, c.decreases), c.requires)

pub filled_list-loop-i-preserved : goal.filled_list-loop-i-preserved
filled_list-loop-i-preserved t c =
    item_filled c.args.values.now c.args.list.now c.loop-i.i (tree_of c.item.result.now) _ c.loop-i.filled c.push.new.self c.item.ensures c.in_ok-filled_node.ensures c.in_ok-push.ensures.ok c.loop-i.invariant

pub filled_list-returns : goal.filled_list-returns
filled_list-returns t c =
    let all : length c.args.list.now ≤ c.loop-i.i = omega arith in
    ap trees (c.loop-i.invariant ∙ ap (map (fill c.args.values.now)) (take_all c.loop-i.i c.args.list.now all)) ∙ sym (items-filled c.args.values.now c.args.list.now)

pub filled_map-filled_node-requires : goal.filled_map-filled_node-requires
filled_map-filled_node-requires t c =
    (omega (arith, member_depth_within c.args.map.now c.loop-i.i c.entry.result.0.now (tree_of c.entry.result.1.now) c.entry.ensures, c.decreases), c.requires)

pub filled_map-push_last-requires : goal.filled_map-push_last-requires
filled_map-push_last-requires t c =
    still_ascending c.args.values.now (field_list c.args.map.now) (c.loop-i.i + 1) _ c.len-i-end.ensures.ascending
    (field_more c.args.values.now (field_list c.args.map.now) c.loop-i.i c.entry.result.0.now _ (tree_of c.entry.result.1.now) _ (field_list c.loop-i.filled) c.entry.ensures c.in_ok-copy.ensures c.in_ok-node.ensures c.loop-i.invariant)

pub filled_map-loop-i-preserved : goal.filled_map-loop-i-preserved
filled_map-loop-i-preserved t c =
    c.in_ok-push_last.ensures.ok
    ∙ field_more c.args.values.now (field_list c.args.map.now) c.loop-i.i c.entry.result.0.now _ (tree_of c.entry.result.1.now) _ (field_list c.loop-i.filled) c.entry.ensures c.in_ok-copy.ensures c.in_ok-node.ensures c.loop-i.invariant

pub filled_map-returns : goal.filled_map-returns
filled_map-returns t c =
    let fields = field_list c.args.map.now in
    let all : length fields ≤ c.loop-i.i = omega arith in
    all_filled c.args.values.now c.loop-i.filled c.args.map.now (c.loop-i.invariant ∙ ap (map (field_filled c.args.values.now)) (take_all c.loop-i.i fields all))

pub filled_node-returns-in-Some : goal.filled_node-returns-in-Some
filled_node-returns-in-Some t c =
    let object = c.in-Members.map in
    let values = c.args.values.now in
    let told : Some c.in-Some.index ≡ option_map capped (hole_members object) = c.in-Some.ensures ∙ (λ i. option_map capped (hole_index (tree_of (c.in-Members.is i)))) in
    subst (λ (x : Tree). IfOk c.value_copy.result (λ n. tree_of n ≡ x))
    (object_held (hole_members object) values (fill_members values object) c.in-Some.index c.requires told ∙ ap (λ n. fill values (tree_of n)) (sym c.in-Members.is))
    c.value_copy.ensures

pub filled_node-returns-in_ok-filled_map-in-None : goal.filled_node-returns-in_ok-filled_map-in-None
filled_node-returns-in_ok-filled_map-in-None t c =
    let object = c.in-Members.map in
    let values = c.args.values.now in
    let told = c.in-None.ensures ∙ (λ i. option_map capped (hole_index (tree_of (c.in-Members.is i)))) in
    ap members c.in_ok-filled_map-in-None.ensures ∙ object_none (hole_members object) values (fill_members values object) told ∙ ap (λ n. fill values (tree_of n)) (sym c.in-Members.is)
