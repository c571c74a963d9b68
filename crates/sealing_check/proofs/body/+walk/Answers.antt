use Rattle.std.proofs.Common.{◌≡◌, ◌++◌, ◌∷◌, [], Option, option_map, take, length, arith, refl, sym, ap, ap₂, ◌∙◌}
use Rattle.std.proofs.lemmas.List.{take_at}
use Rattle.spec_documents.specs.Tree.{Tree}
use Rattle.spec_documents.specs.Text.{index_text}
use Rattle.spec_documents.specs.Fields.{field_list}
use Rattle.spec_documents.proofs.FieldLemmas.{fields-field_list}
use Rattle.n32_values.specs.View.{tree_of}
use Rattle.n32_values.proofs.Trees.{depth_within, member_depth_within}
use Rattle.policy_tables.proofs.CoverTree.{leads_on}
use Rattle.sealing_check.specs.Rules.{node_test}
use Rattle.sealing_check.specs.Found.{child_of, clear_members}
use Rattle.sealing_check.proofs.Walk.{item_none, item_found, member_none, member_found}
use Rattle.sealing_check.proofs.body.+walk.Goals as goal

pub clear_item-clear_node-requires : goal.clear_item-clear_node-requires
clear_item-clear_node-requires t c = (omega (arith, depth_within c.args.list.now c.loop-i.i (tree_of c.item.result.now) c.item.ensures, c.decreases), leads_on c.args.body.now.rules.now c.args.pointer.now c.push_name.new.pointer c.as_str-token.result.now c.args.covering c.enter-inner.result c.requires c.enter-inner.ensures (c.in_ok-push_name.ensures ∙ ap (λ p. p ++ c.as_str-token.result.now ∷ []) c.loop-i.invariant.pointer))

pub clear_item-loop-i-preserved : goal.clear_item-loop-i-preserved
clear_item-loop-i-preserved t c =
    let q = c.args.pointer.now in
    let token = index_text c.loop-i.i in
    let holed : Option Tree = option_map (λ n. tree_of n.now) c.args.holed in
    let named : c.as_str-token.result.now ≡ token = c.as_str-token.ensures.value ∙ c.in_ok-index.ensures in
    let pushed : c.push_name.new.pointer ≡ q ++ token ∷ [] = c.in_ok-push_name.ensures ∙ ap (λ p. p ++ c.as_str-token.result.now ∷ []) c.loop-i.invariant.pointer ∙ ap (λ n. q ++ n ∷ []) named in
    let beside : option_map (λ n. tree_of n.now) c.child-beside.result ≡ child_of token holed = c.child-beside.ensures ∙ ap (λ x. child_of x holed) named in record {
      deep = c.loop-i.invariant.deep;
      pointer = c.truncate.ensures ∙ ap₂ take c.loop-i.invariant.deep (c.in_ok-found.ensures.pointer ∙ pushed) ∙ take_at q (token ∷ []) (length q) refl;
      place = item_none (node_test c.args.body.now) holed _ q _ c.args.list.now c.loop-i.i (tree_of c.item.result.now) _ c.item.ensures beside pushed c.loop-i.invariant.place (sym c.in_default.is ∙ c.in_ok-found.ensures.place);
    }

pub clear_item-returns-in-Some-clause-place : goal.clear_item-returns-in-Some-clause-place
clear_item-returns-in-Some-clause-place t c =
    let q = c.args.pointer.now in
    let token = index_text c.loop-i.i in
    let holed : Option Tree = option_map (λ n. tree_of n.now) c.args.holed in
    let named : c.as_str-token.result.now ≡ token = c.as_str-token.ensures.value ∙ c.in_ok-index.ensures in
    let pushed : c.push_name.new.pointer ≡ q ++ token ∷ [] = c.in_ok-push_name.ensures ∙ ap (λ p. p ++ c.as_str-token.result.now ∷ []) c.loop-i.invariant.pointer ∙ ap (λ n. q ++ n ∷ []) named in
    let beside : option_map (λ n. tree_of n.now) c.child-beside.result ≡ child_of token holed = c.child-beside.ensures ∙ ap (λ x. child_of x holed) named in
    item_found (node_test c.args.body.now) holed _ q _ _ c.args.list.now c.loop-i.i (tree_of c.item.result.now) _ c.item.ensures beside pushed c.loop-i.invariant.place (sym c.in-Some.is ∙ c.in_ok-found.ensures.place)

pub clear_member-loop-i-init : goal.clear_member-loop-i-init
clear_member-loop-i-init t c = record {
  deep = c.len-depth.ensures;
  pointer = refl;
  place = ap (clear_members (node_test c.args.body.now) (option_map (λ n. tree_of n.now) c.args.holed) c.args.pointer.now) (fields-field_list c.args.map.now);
}

pub clear_member-clear_node-requires : goal.clear_member-clear_node-requires
clear_member-clear_node-requires t c =
    (omega (arith, member_depth_within c.args.map.now c.loop-i.i c.entry.result.0.now (tree_of c.entry.result.1.now) c.entry.ensures, c.decreases), leads_on c.args.body.now.rules.now c.args.pointer.now c.push_name.new.pointer c.as_str-token.result.now c.args.covering c.enter-inner.result c.requires c.enter-inner.ensures (c.in_ok-push_name.ensures ∙ ap (λ p. p ++ c.as_str-token.result.now ∷ []) c.loop-i.invariant.pointer))

pub clear_member-loop-i-preserved : goal.clear_member-loop-i-preserved
clear_member-loop-i-preserved t c =
    let q = c.args.pointer.now in
    let token = c.entry.result.0.now in
    let holed : Option Tree = option_map (λ n. tree_of n.now) c.args.holed in
    let named : c.as_str-token.result.now ≡ token = c.as_str-token.ensures in
    let pushed : c.push_name.new.pointer ≡ q ++ token ∷ [] = c.in_ok-push_name.ensures ∙ ap (λ p. p ++ c.as_str-token.result.now ∷ []) c.loop-i.invariant.pointer ∙ ap (λ n. q ++ n ∷ []) named in
    let beside : option_map (λ n. tree_of n.now) c.child-beside.result ≡ child_of token holed = c.child-beside.ensures ∙ ap (λ x. child_of x holed) named in record {
      deep = c.loop-i.invariant.deep;
      pointer = c.truncate.ensures ∙ ap₂ take c.loop-i.invariant.deep (c.in_ok-found.ensures.pointer ∙ pushed) ∙ take_at q (token ∷ []) (length q) refl;
      place = member_none (node_test c.args.body.now) holed _ q _ (field_list c.args.map.now) c.loop-i.i token (tree_of c.entry.result.1.now) _ c.entry.ensures beside pushed c.loop-i.invariant.place (sym c.in_default.is ∙ c.in_ok-found.ensures.place);
    }

pub clear_member-returns-in-Some-clause-place : goal.clear_member-returns-in-Some-clause-place
clear_member-returns-in-Some-clause-place t c =
    let q = c.args.pointer.now in
    let token = c.entry.result.0.now in
    let holed : Option Tree = option_map (λ n. tree_of n.now) c.args.holed in
    let named : c.as_str-token.result.now ≡ token = c.as_str-token.ensures in
    let pushed : c.push_name.new.pointer ≡ q ++ token ∷ [] = c.in_ok-push_name.ensures ∙ ap (λ p. p ++ c.as_str-token.result.now ∷ []) c.loop-i.invariant.pointer ∙ ap (λ n. q ++ n ∷ []) named in
    let beside : option_map (λ n. tree_of n.now) c.child-beside.result ≡ child_of token holed = c.child-beside.ensures ∙ ap (λ x. child_of x holed) named in
    member_found (node_test c.args.body.now) holed _ q _ _ (field_list c.args.map.now) c.loop-i.i token (tree_of c.entry.result.1.now) _ c.entry.ensures beside pushed c.loop-i.invariant.place (sym c.in-Some.is ∙ c.in_ok-found.ensures.place)
