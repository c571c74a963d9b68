use Rattle.std.proofs.Common.{◌≡◌, ◌+◌, ◌^◌, ◌-◌, min, length, arith, ap, ◌∙◌, false}
use Rattle.spec_documents.specs.Fields.{field_list}
use Rattle.spec_documents.specs.Compact.{compact_text, members_text}
use Rattle.spec_documents.proofs.FieldLemmas.{fields-field_list}
use Rattle.json.specs.Print.{quoted}
use Rattle.n32_values.specs.View.{tree_of}
use Rattle.n32_values.proofs.Trees.{depth_within, member_depth_within}
use Rattle.n32_values.proofs.Lengths.{items_step, members_step}
use Rattle.n32_values.proofs.length.+length.Goals as goal

pub items_length-text_length-requires : goal.items_length-text_length-requires
items_length-text_length-requires t c = (omega (arith, depth_within c.args.list.now c.loop-i.i (tree_of c.item.result.now) c.item.ensures, c.decreases), tt)

pub items_length-loop-i-preserved : goal.items_length-loop-i-preserved
items_length-loop-i-preserved t c =
    items_step c.args.list.now c.loop-i.i (tree_of c.item.result.now) c.loop-i.total c.with_part-total.result c.text_length.result _ c.item.ensures c.text_length.ensures c.with_part-total.ensures ∙ c.loop-i.invariant

pub members_length-text_length-requires : goal.members_length-text_length-requires
members_length-text_length-requires t c =
    (omega (arith, member_depth_within c.args.map.now c.loop-i.i c.entry.result.0.now (tree_of c.entry.result.1.now) c.entry.ensures, c.decreases), tt)

pub members_length-loop-i-init : goal.members_length-loop-i-init
members_length-loop-i-init t c = ap (λ ms. min (1 + length (members_text false ms)) (2 ^ 64 - 1)) (fields-field_list c.args.map.now)

pub members_length-loop-i-preserved : goal.members_length-loop-i-preserved
members_length-loop-i-preserved t c =
    let name = c.entry.result.0.now in
    let node = tree_of c.entry.result.1.now in
    let key = c.quoted_length.ensures ∙ ap (λ s. min (length (quoted s)) (2 ^ 64 - 1)) c.as_str.ensures in
    let part : c.saturating_add-member.result ≡ min (length (quoted name) + 1 + length (compact_text node)) (2 ^ 64 - 1) = omega (arith, key, c.saturating_add.ensures, c.text_length.ensures, c.saturating_add-member.ensures) in
    members_step (field_list c.args.map.now) c.loop-i.i name node c.loop-i.total c.with_part-total.result c.saturating_add-member.result _ c.entry.ensures part c.with_part-total.ensures ∙ c.loop-i.invariant
