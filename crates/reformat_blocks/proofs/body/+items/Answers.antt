use Rattle.std.proofs.Common.{◌≡◌, ◌++◌, ◌∷◌, [], take, length, false, not, ◌&&◌, nat_lt, arith, refl, ap, ap₂, sym, ◌∙◌}
use Rattle.std.proofs.lemmas.List.{take_at}
use Rattle.spec_documents.specs.Tree.{Tree, members}
use Rattle.spec_documents.specs.Fields.{field_list}
use Rattle.spec_documents.specs.Place.{pointer_text}
use Rattle.spec_documents.specs.Hole.{is_marked}
use Rattle.spec_documents.proofs.FieldLemmas.{fields-field_list}
use Rattle.spec_messages.specs.Block.{leaves, members_leaves, item_tree}
use Rattle.spec_messages.specs.Policy.{outermost, outermost_members}
use Rattle.spec_messages.specs.Split.{hide, hide_members}
use Rattle.n32_values.specs.View.{tree_of}
use Rattle.n32_values.proofs.Trees.{member_depth_within}
use Rattle.policy_tables.proofs.CoverTree.{leads_on}
use Rattle.reformat_blocks.specs.Rules.{node_test}
use Rattle.reformat_blocks.specs.Sent.{stood, item_trees}
use Rattle.reformat_blocks.proofs.BodyWalk.{items_step, map_stood, closed_leaf, opened_leaves, unmarked}
use Rattle.reformat_blocks.proofs.body.+items.Goals as goal

pub push_members-loop-i-init : goal.push_members-loop-i-init
push_members-loop-i-init t c = record {
  deep = c.len-depth.ensures;
  pointer = refl;
  items = ap (λ ms. c.args.items.now ++ item_trees (members_leaves c.args.pointer.now (hide_members (node_test c.args.body.now) c.args.pointer.now (length c.args.values.now) ms))) (fields-field_list c.args.map.now);
  values = ap (λ ms. c.args.values.now ++ stood (outermost_members (node_test c.args.body.now) c.args.pointer.now ms)) (fields-field_list c.args.map.now);
}

pub push_members-push_items-requires : goal.push_members-push_items-requires
push_members-push_items-requires t c =
    (omega (arith, member_depth_within c.args.map.now c.loop-i.i c.entry.result.0.now (tree_of c.entry.result.1.now) c.entry.ensures, c.decreases), leads_on c.args.body.now.rules.now c.args.pointer.now c.push_name.new.pointer c.as_str-token.result.now c.args.covering c.enter-inner.result c.requires c.enter-inner.ensures (c.in_ok-push_name.ensures ∙ ap (λ p. p ++ c.as_str-token.result.now ∷ []) c.loop-i.invariant.pointer))

pub push_members-loop-i-preserved : goal.push_members-loop-i-preserved
push_members-loop-i-preserved t c =
    let q = c.args.pointer.now in
    let test = node_test c.args.body.now in
    let name = c.entry.result.0.now in
    let node = tree_of c.entry.result.1.now in
    let pushed : c.push_name.new.pointer ≡ q ++ name ∷ [] = c.in_ok-push_name.ensures ∙ ap (λ p. p ++ c.as_str-token.result.now ∷ []) c.loop-i.invariant.pointer ∙ ap (λ n. q ++ n ∷ []) c.as_str-token.ensures in
    let hidden : c.push_items.new.values ≡ c.loop-i.values ++ stood (outermost test (q ++ name ∷ []) node) = c.in_ok-push_items.ensures.values ∙ ap (λ p. c.loop-i.values ++ stood (outermost test p node)) pushed in
    let added : c.push_items.new.items ≡ c.loop-i.items ++ item_trees (leaves (q ++ name ∷ []) (hide test (q ++ name ∷ []) (length c.loop-i.values) node))
    = c.in_ok-push_items.ensures.items ∙ ap (λ p. c.loop-i.items ++ item_trees (leaves p (hide test p (length c.loop-i.values) node))) pushed in record {
      deep = c.loop-i.invariant.deep;
      pointer = c.truncate.ensures ∙ ap₂ take c.loop-i.invariant.deep (c.in_ok-push_items.ensures.pointer ∙ pushed) ∙ take_at q (name ∷ []) (length q) refl;
      items = items_step test q (field_list c.args.map.now) c.loop-i.i name node c.loop-i.values c.push_items.new.values c.loop-i.items c.push_items.new.items _ c.entry.ensures hidden added c.loop-i.invariant.items;
      values = map_stood test q (field_list c.args.map.now) c.loop-i.i name node c.loop-i.values c.push_items.new.values _ c.entry.ensures hidden c.loop-i.invariant.values;
    }

pub push_items-returns-then-is_opened-clause-items : goal.push_items-returns-then-is_opened-clause-items
push_items-returns-then-is_opened-clause-items t c =
    let q = c.args.pointer.now in
    let body = c.args.body.now in
    let test = node_test body in
    let n = length c.args.values.now in
    let map = c.in-Members.map in
    let told : c.is_opened.result ≡ (not (test q (members map)) && nat_lt 0 (length (field_list map))) = c.is_opened.ensures ∙ ap (λ u. not (test q (tree_of u)) && nat_lt 0 (length (field_list map))) c.in-Members.is in
    let sees : (u : Tree) → test q u ≡ false → is_marked u ≡ false = λ u h. unmarked _ (is_marked u) h in
    let shown : leaves q (hide test q n (tree_of c.args.node.now)) ≡ members_leaves q (hide_members test q n map) = ap (λ u. leaves q (hide test q n (tree_of u))) c.in-Members.is ∙ opened_leaves test q n map c.is_opened.result sees told c.if-is_opened.true in
    c.in_ok-push_members-in-Members.ensures.items ∙ ap (λ l. c.args.items.now ++ item_trees l) (sym shown)

pub push_items-returns-in_ok-push_leaf-in-Members-clause-items : goal.push_items-returns-in_ok-push_leaf-in-Members-clause-items
push_items-returns-in_ok-push_leaf-in-Members-clause-items t c =
    let q = c.args.pointer.now in
    let test = node_test c.args.body.now in
    let n = length c.args.values.now in
    let map = c.in-Members.map in
    let told : c.is_opened.result ≡ (not (test q (members map)) && nat_lt 0 (length (field_list map))) = c.is_opened.ensures ∙ ap (λ u. not (test q (tree_of u)) && nat_lt 0 (length (field_list map))) c.in-Members.is in
    let shown : leaves q (hide test q n (members map)) ≡ (q, hide test q n (members map)) ∷ [] = closed_leaf test q n map c.is_opened.result told c.if-is_opened.false in
    c.in_ok-push_leaf-in-Members.ensures.items ∙ ap (λ u. c.args.items.now ++ item_tree (pointer_text q, hide test q n (tree_of u)) ∷ []) c.in-Members.is
    ∙ ap (λ l. c.args.items.now ++ item_trees l) (sym shown) ∙ ap (λ u. c.args.items.now ++ item_trees (leaves q (hide test q n (tree_of u)))) (sym c.in-Members.is)
