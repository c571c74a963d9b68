use Rattle.std.proofs.Common.{◌+◌, ◌≤◌, length, min, max, drop, arith, ap, ◌∙◌}
use Rattle.std.proofs.lemmas.List.{at_drop_all}
use Rattle.spec_documents.specs.Tree.{trees}
use Rattle.spec_documents.specs.Fields.{fields, field_list}
use Rattle.spec_documents.proofs.FieldLemmas.{fields-field_list}
use Rattle.spec_messages.specs.Block.{items_open_depth, members_open_depth}
use Rattle.n32_values.specs.View.{tree_of}
use Rattle.n32_values.proofs.Trees.{depth_within, member_depth_within}
use Rattle.block_forms.proofs.Deep.{item_deeper, member_deeper}
use Rattle.block_forms.proofs.depths.+open_depth.Goals as goal

pub deepest_item-open_depth-requires : goal.deepest_item-open_depth-requires
deepest_item-open_depth-requires t c = (omega (arith, depth_within c.args.list.now c.loop-i.i (tree_of c.item.result.now) c.item.ensures, c.decreases), tt)

pub deepest_item-loop-i-preserved : goal.deepest_item-loop-i-preserved
deepest_item-loop-i-preserved t c =
    let is = c.max-deepest.ensures ∙ ap (λ x. max x c.loop-i.deepest) c.open_depth.ensures in record {
      deep = ap (λ x. min (max x (items_open_depth (trees (drop (c.loop-i.i + 1) c.args.list.now)))) 4294967295) is
          ∙ (item_deeper c.loop-i.deepest c.args.list.now c.loop-i.i (tree_of c.item.result.now) c.item.ensures ∙ c.loop-i.invariant.deep);
      fits = c.max-deepest.type_inv;
    }

pub deepest_item-returns : goal.deepest_item-returns
deepest_item-returns t c =
    let past : length c.args.list.now ≤ c.loop-i.i = omega arith in
    let none = at_drop_all (λ ts. items_open_depth (trees ts)) c.args.list.now c.loop-i.i past in
    let deep = rw none at c.loop-i.invariant.deep in
    let fits = c.loop-i.invariant.fits in omega arith

pub deepest_member-open_depth-requires : goal.deepest_member-open_depth-requires
deepest_member-open_depth-requires t c =
    (omega (arith, member_depth_within c.args.map.now c.loop-i.i c.entry.result.0.now (tree_of c.entry.result.1.now) c.entry.ensures, c.decreases), tt)

pub deepest_member-loop-i-init : goal.deepest_member-loop-i-init
deepest_member-loop-i-init t c = record {
  deep = omega (arith, ap members_open_depth (fields-field_list c.args.map.now));
  fits = omega arith;
}

pub deepest_member-loop-i-preserved : goal.deepest_member-loop-i-preserved
deepest_member-loop-i-preserved t c =
    let fs = field_list c.args.map.now in
    let is = c.max-deepest.ensures ∙ ap (λ x. max x c.loop-i.deepest) c.open_depth.ensures in record {
      deep = ap (λ x. min (max x (members_open_depth (fields (drop (c.loop-i.i + 1) fs)))) 4294967295) is
          ∙ (member_deeper c.loop-i.deepest fs c.loop-i.i c.entry.result.0.now (tree_of c.entry.result.1.now) c.entry.ensures ∙ c.loop-i.invariant.deep);
      fits = c.max-deepest.type_inv;
    }

pub deepest_member-returns : goal.deepest_member-returns
deepest_member-returns t c =
    let past : length (field_list c.args.map.now) ≤ c.loop-i.i = omega arith in
    let none = at_drop_all (λ fs. members_open_depth (fields fs)) (field_list c.args.map.now) c.loop-i.i past in
    let deep = rw none at c.loop-i.invariant.deep in
    let fits = c.loop-i.invariant.fits in omega arith
