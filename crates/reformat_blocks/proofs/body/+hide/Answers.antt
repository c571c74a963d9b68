use Rattle.std.proofs.Common.{◌≡◌, ◌++◌, ◌∷◌, [], take, length, arith, refl, ap, ap₂, ◌∙◌}
use Rattle.std.proofs.lemmas.List.{take_at}
use Rattle.spec_documents.specs.Text.{index_text}
use Rattle.spec_documents.specs.Fields.{field_list, fields}
use Rattle.spec_documents.proofs.FieldLemmas.{fields-field_list}
use Rattle.spec_messages.specs.Policy.{outermost, outermost_members}
use Rattle.spec_messages.specs.Split.{hide, hide_members}
use Rattle.n32_values.specs.View.{tree_of}
use Rattle.n32_values.proofs.Trees.{depth_within, member_depth_within}
use Rattle.policy_tables.proofs.CoverTree.{leads_on}
use Rattle.reformat_blocks.specs.Rules.{node_test}
use Rattle.reformat_blocks.specs.Sent.{stood}
use Rattle.reformat_blocks.proofs.BodyWalk.{list_step, list_stood, list_done, map_step, map_stood, map_done, front_ascends}
use Rattle.reformat_blocks.proofs.body.+hide.Goals as goal

pub hidden_list-hidden_node-requires : goal.hidden_list-hidden_node-requires
hidden_list-hidden_node-requires t c = (omega (arith, depth_within c.args.list.now c.loop-i.i (tree_of c.item.result.now) c.item.ensures, c.decreases), leads_on c.args.body.now.rules.now c.args.pointer.now c.push_name.new.pointer c.as_str-token.result.now c.args.covering c.enter-inner.result c.requires c.enter-inner.ensures (c.in_ok-push_name.ensures ∙ ap (λ p. p ++ c.as_str-token.result.now ∷ []) c.loop-i.invariant.pointer))

pub hidden_list-loop-i-preserved : goal.hidden_list-loop-i-preserved
hidden_list-loop-i-preserved t c =
    let q = c.args.pointer.now in
    let test = node_test c.args.body.now in
    let node = tree_of c.item.result.now in
    let token = index_text c.loop-i.i in
    let pushed : c.push_name.new.pointer ≡ q ++ token ∷ [] = c.in_ok-push_name.ensures ∙ ap (λ p. p ++ c.as_str-token.result.now ∷ []) c.loop-i.invariant.pointer ∙ ap (λ n. q ++ n ∷ []) (c.as_str-token.ensures.value ∙ c.in_ok-index.ensures) in
    let hidden : c.hidden_node.new.values ≡ c.loop-i.values ++ stood (outermost test (q ++ token ∷ []) node) = c.in_ok-hidden_node.ensures.values ∙ ap (λ p. c.loop-i.values ++ stood (outermost test p node)) pushed in
    let is : tree_of c.in_ok-hidden_node.field-0 ≡ hide test (q ++ token ∷ []) (length c.loop-i.values) node = c.in_ok-hidden_node.ensures.node ∙ ap (λ p. hide test p (length c.loop-i.values) node) pushed in record {
      deep = c.loop-i.invariant.deep;
      pointer = c.truncate.ensures ∙ ap₂ take c.loop-i.invariant.deep (c.in_ok-hidden_node.ensures.pointer ∙ pushed) ∙ take_at q (token ∷ []) (length q) refl;
      list = list_step test q c.args.list.now c.loop-i.i node (tree_of c.in_ok-hidden_node.field-0) c.loop-i.values c.hidden_node.new.values c.loop-i.hidden c.push.new.self _ c.item.ensures hidden is c.in_ok-push.ensures.ok c.loop-i.invariant.list;
      values = list_stood test q c.args.list.now c.loop-i.i node c.loop-i.values c.hidden_node.new.values _ c.item.ensures hidden c.loop-i.invariant.values;
    }

pub hidden_list-returns-clause-list : goal.hidden_list-returns-clause-list
hidden_list-returns-clause-list t c = list_done (node_test c.args.body.now) c.args.pointer.now c.args.list.now c.loop-i.i (length c.loop-i.values) _ c.loop-i.hidden (omega arith) c.loop-i.invariant.list

pub hidden_map-loop-i-init : goal.hidden_map-loop-i-init
hidden_map-loop-i-init t c = record {
  deep = c.len-depth.ensures;
  pointer = refl;
  map = ap (λ m. field_list m ++ field_list (hide_members (node_test c.args.body.now) c.args.pointer.now (length c.args.values.now) (fields (field_list c.args.map.now)))) c.in_ok-hidden.ensures
      ∙ ap (λ ms. field_list (hide_members (node_test c.args.body.now) c.args.pointer.now (length c.args.values.now) ms)) (fields-field_list c.args.map.now);
  values = ap (λ ms. c.args.values.now ++ stood (outermost_members (node_test c.args.body.now) c.args.pointer.now ms)) (fields-field_list c.args.map.now);
}

pub hidden_map-hidden_node-requires : goal.hidden_map-hidden_node-requires
hidden_map-hidden_node-requires t c =
    (omega (arith, member_depth_within c.args.map.now c.loop-i.i c.entry.result.0.now (tree_of c.entry.result.1.now) c.entry.ensures, c.decreases), leads_on c.args.body.now.rules.now c.args.pointer.now c.push_name.new.pointer c.as_str-token.result.now c.args.covering c.enter-inner.result c.requires c.enter-inner.ensures (c.in_ok-push_name.ensures ∙ ap (λ p. p ++ c.as_str-token.result.now ∷ []) c.loop-i.invariant.pointer))

pub hidden_map-push_last-requires : goal.hidden_map-push_last-requires
hidden_map-push_last-requires t c =
    let q = c.args.pointer.now in
    let test = node_test c.args.body.now in
    let name = c.entry.result.0.now in
    let node = tree_of c.entry.result.1.now in
    let pushed : c.push_name.new.pointer ≡ q ++ name ∷ [] = c.in_ok-push_name.ensures ∙ ap (λ p. p ++ c.as_str-token.result.now ∷ []) c.loop-i.invariant.pointer ∙ ap (λ n. q ++ n ∷ []) c.as_str-token.ensures in
    let hidden : c.hidden_node.new.values ≡ c.loop-i.values ++ stood (outermost test (q ++ name ∷ []) node) = c.in_ok-node.ensures.values ∙ ap (λ p. c.loop-i.values ++ stood (outermost test p node)) pushed in
    let is : tree_of c.in_ok-node.node ≡ hide test (q ++ name ∷ []) (length c.loop-i.values) node = c.in_ok-node.ensures.node ∙ ap (λ p. hide test p (length c.loop-i.values) node) pushed in
    front_ascends test q (length c.args.values.now) c.args.map.now _ _ c.len-i-end.ensures.ascending
    (map_step test q (field_list c.args.map.now) c.loop-i.i name _ node _ c.loop-i.values c.hidden_node.new.values (field_list c.loop-i.hidden) _ _ c.entry.ensures hidden c.in_ok-copy.ensures is refl c.loop-i.invariant.map)

pub hidden_map-loop-i-preserved : goal.hidden_map-loop-i-preserved
hidden_map-loop-i-preserved t c =
    let q = c.args.pointer.now in
    let test = node_test c.args.body.now in
    let name = c.entry.result.0.now in
    let node = tree_of c.entry.result.1.now in
    let pushed : c.push_name.new.pointer ≡ q ++ name ∷ [] = c.in_ok-push_name.ensures ∙ ap (λ p. p ++ c.as_str-token.result.now ∷ []) c.loop-i.invariant.pointer ∙ ap (λ n. q ++ n ∷ []) c.as_str-token.ensures in
    let hidden : c.hidden_node.new.values ≡ c.loop-i.values ++ stood (outermost test (q ++ name ∷ []) node) = c.in_ok-node.ensures.values ∙ ap (λ p. c.loop-i.values ++ stood (outermost test p node)) pushed in
    let is : tree_of c.in_ok-node.node ≡ hide test (q ++ name ∷ []) (length c.loop-i.values) node = c.in_ok-node.ensures.node ∙ ap (λ p. hide test p (length c.loop-i.values) node) pushed in record {
      deep = c.loop-i.invariant.deep;
      pointer = c.truncate.ensures ∙ ap₂ take c.loop-i.invariant.deep (c.in_ok-node.ensures.pointer ∙ pushed) ∙ take_at q (name ∷ []) (length q) refl;
      map = map_step test q (field_list c.args.map.now) c.loop-i.i name _ node _ c.loop-i.values c.hidden_node.new.values (field_list c.loop-i.hidden) (field_list c.push_last.new.self) _ c.entry.ensures hidden c.in_ok-copy.ensures is c.in_ok-push_last.ensures.ok c.loop-i.invariant.map;
      values = map_stood test q (field_list c.args.map.now) c.loop-i.i name node c.loop-i.values c.hidden_node.new.values _ c.entry.ensures hidden c.loop-i.invariant.values;
    }

pub hidden_map-returns-clause-map : goal.hidden_map-returns-clause-map
hidden_map-returns-clause-map t c = map_done (node_test c.args.body.now) c.args.pointer.now (field_list c.args.map.now) c.loop-i.i (length c.loop-i.values) c.loop-i.hidden _ (omega arith) c.loop-i.invariant.map
