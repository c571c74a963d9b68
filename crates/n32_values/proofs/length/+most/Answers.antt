use Rattle.std.proofs.Common.{◌≡◌, ◌≤◌, ◌+◌, ◌^◌, ◌-◌, min, length, arith, ap, false}
use Rattle.spec_documents.specs.Fields.{field_list}
use Rattle.spec_documents.specs.Compact.{compact_text, members_text}
use Rattle.spec_documents.proofs.FieldLemmas.{fields-field_list}
use Rattle.json.specs.Print.{quoted}
use Rattle.n32_values.specs.View.{tree_of}
use Rattle.n32_values.proofs.Trees.{depth_within, member_depth_within}
use Rattle.n32_values.proofs.Lengths.{most_items_step, most_members_step}
use Rattle.n32_values.proofs.length.+most.Goals as goal

pub most_items-most_length-requires : goal.most_items-most_length-requires
most_items-most_length-requires t c = (omega (arith, depth_within c.args.list.now c.loop-i.i (tree_of c.item.result.now) c.item.ensures, c.decreases), tt)

pub most_members-most_length-requires : goal.most_members-most_length-requires
most_members-most_length-requires t c =
    (omega (arith, member_depth_within c.args.map.now c.loop-i.i c.entry.result.0.now (tree_of c.entry.result.1.now) c.entry.ensures, c.decreases), tt)

pub most_items-loop-i-preserved : goal.most_items-loop-i-preserved
most_items-loop-i-preserved t c =
    let part : min (length (compact_text (tree_of c.item.result.now)) + 1) (2 ^ 64 - 1) ≤ c.saturating_add.result = omega (arith, c.most_length.ensures, c.saturating_add.ensures) in
    most_items_step c.args.list.now c.loop-i.i (tree_of c.item.result.now) c.loop-i.total c.saturating_add-total.result c.saturating_add.result (2 ^ 64 - 1) _ c.item.ensures part c.saturating_add-total.ensures c.loop-i.invariant

pub most_members-loop-i-init : goal.most_members-loop-i-init
most_members-loop-i-init t c =
    let same = ap (λ ms. length (members_text false ms)) (fields-field_list c.args.map.now) in
    omega (arith, same)

pub most_members-loop-i-preserved : goal.most_members-loop-i-preserved
most_members-loop-i-preserved t c =
    let name = c.entry.result.0.now in
    let node = tree_of c.entry.result.1.now in
    let key : length (quoted c.as_str.result.now) ≡ length (quoted name) = ap (λ s. length (quoted s)) c.as_str.ensures in
    let part : min (length (quoted name) + 2 + length (compact_text node)) (2 ^ 64 - 1) ≤ c.saturating_add.result =
    omega (arith, key, c.most_quoted.ensures, c.saturating_add-name.ensures, c.most_length.ensures, c.saturating_add.ensures) in
    most_members_step (field_list c.args.map.now) c.loop-i.i name node c.loop-i.total c.saturating_add-total.result c.saturating_add.result (2 ^ 64 - 1) _ c.entry.ensures part c.saturating_add-total.ensures c.loop-i.invariant
