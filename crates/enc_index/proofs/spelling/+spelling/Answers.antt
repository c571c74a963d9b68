use Rattle.std.proofs.Common.{◌+◌, drop, arith, sym, ap, ◌∙◌}
use Rattle.spec_documents.specs.Fields.{field_list}
use Rattle.spec_documents.specs.Hole.{members_have_spelling}
use Rattle.spec_documents.proofs.FieldLemmas.{fields-field_list}
use Rattle.n32_values.specs.View.{tree_of}
use Rattle.n32_values.proofs.Trees.{depth_within, member_depth_within, drop_at}
use Rattle.enc_index.proofs.Spellings.{item_passed, item_has, member_passed, member_has}
use Rattle.enc_index.proofs.spelling.+spelling.Goals as goal

pub items_have-has_hole_spelling-requires : goal.items_have-has_hole_spelling-requires
items_have-has_hole_spelling-requires t c = (omega (arith, depth_within c.args.list.now c.loop-i.i (tree_of c.item.result.now) c.item.ensures, c.decreases), tt)

pub items_have-returns-then-has_hole_spelling : goal.items_have-returns-then-has_hole_spelling
items_have-returns-then-has_hole_spelling t c =
    sym (c.loop-i.invariant ∙ item_has (tree_of c.item.result.now) (drop c.loop-i.i c.args.list.now) (drop (c.loop-i.i + 1) c.args.list.now)
    (drop_at c.args.list.now c.loop-i.i (tree_of c.item.result.now) c.item.ensures) (sym c.has_hole_spelling.ensures ∙ c.if-has_hole_spelling.true))

pub items_have-loop-i-preserved : goal.items_have-loop-i-preserved
items_have-loop-i-preserved t c =
    c.loop-i.invariant ∙ item_passed (tree_of c.item.result.now) (drop c.loop-i.i c.args.list.now) (drop (c.loop-i.i + 1) c.args.list.now)
    (drop_at c.args.list.now c.loop-i.i (tree_of c.item.result.now) c.item.ensures) (sym c.has_hole_spelling.ensures ∙ c.if-has_hole_spelling.false)

pub members_have-loop-i-init : goal.members_have-loop-i-init
members_have-loop-i-init t c = ap members_have_spelling (sym (fields-field_list c.args.map.now))

pub members_have-has_hole_spelling-requires : goal.members_have-has_hole_spelling-requires
members_have-has_hole_spelling-requires t c =
    (omega (arith, member_depth_within c.args.map.now c.loop-i.i c.entry.result.0.now (tree_of c.entry.result.1.now) c.entry.ensures, c.decreases), tt)

pub members_have-returns-then-has_hole_spelling : goal.members_have-returns-then-has_hole_spelling
members_have-returns-then-has_hole_spelling t c =
    let fs = field_list c.args.map.now in
    sym (c.loop-i.invariant ∙ member_has c.entry.result.0.now (tree_of c.entry.result.1.now) (drop c.loop-i.i fs) (drop (c.loop-i.i + 1) fs)
    (drop_at fs c.loop-i.i (c.entry.result.0.now, tree_of c.entry.result.1.now) c.entry.ensures) (sym c.has_hole_spelling.ensures ∙ c.if-has_hole_spelling.true))

pub members_have-loop-i-preserved : goal.members_have-loop-i-preserved
members_have-loop-i-preserved t c =
    let fs = field_list c.args.map.now in
    c.loop-i.invariant ∙ member_passed c.entry.result.0.now (tree_of c.entry.result.1.now) (drop c.loop-i.i fs) (drop (c.loop-i.i + 1) fs)
    (drop_at fs c.loop-i.i (c.entry.result.0.now, tree_of c.entry.result.1.now) c.entry.ensures) (sym c.has_hole_spelling.ensures ∙ c.if-has_hole_spelling.false)
