use Rattle.std.proofs.Common.{◌+◌, drop, arith, sym, ap, ◌∙◌}
use Rattle.spec_documents.specs.Fields.{field_list}
use Rattle.spec_documents.specs.Hole.{members_have_marked}
use Rattle.spec_documents.proofs.FieldLemmas.{fields-field_list}
use Rattle.n32_values.specs.View.{tree_of}
use Rattle.n32_values.proofs.Trees.{depth_within, member_depth_within, drop_at}
use Rattle.policy_tables.proofs.TouchLemmas.{item_passed, item_has, member_passed, member_has}
use Rattle.policy_tables.proofs.body.+marks.Goals as goal

pub items_hold-holds_mark-requires : goal.items_hold-holds_mark-requires
items_hold-holds_mark-requires t c = (omega (arith, depth_within c.args.list.now c.loop-i.i (tree_of c.item.result.now) c.item.ensures, c.decreases), tt)

pub items_hold-returns-then-holds_mark : goal.items_hold-returns-then-holds_mark
items_hold-returns-then-holds_mark t c =
    sym (c.loop-i.invariant ∙ item_has (tree_of c.item.result.now) (drop c.loop-i.i c.args.list.now) (drop (c.loop-i.i + 1) c.args.list.now)
    (drop_at c.args.list.now c.loop-i.i (tree_of c.item.result.now) c.item.ensures) (sym c.holds_mark.ensures ∙ c.if-holds_mark.true))

pub items_hold-loop-i-preserved : goal.items_hold-loop-i-preserved
items_hold-loop-i-preserved t c =
    c.loop-i.invariant ∙ item_passed (tree_of c.item.result.now) (drop c.loop-i.i c.args.list.now) (drop (c.loop-i.i + 1) c.args.list.now)
    (drop_at c.args.list.now c.loop-i.i (tree_of c.item.result.now) c.item.ensures) (sym c.holds_mark.ensures ∙ c.if-holds_mark.false)

pub members_hold-loop-i-init : goal.members_hold-loop-i-init
members_hold-loop-i-init t c = ap members_have_marked (sym (fields-field_list c.args.map.now))

pub members_hold-holds_mark-requires : goal.members_hold-holds_mark-requires
members_hold-holds_mark-requires t c =
    (omega (arith, member_depth_within c.args.map.now c.loop-i.i c.entry.result.0.now (tree_of c.entry.result.1.now) c.entry.ensures, c.decreases), tt)

pub members_hold-returns-then-holds_mark : goal.members_hold-returns-then-holds_mark
members_hold-returns-then-holds_mark t c =
    let fs = field_list c.args.map.now in
    sym (c.loop-i.invariant ∙ member_has c.entry.result.0.now (tree_of c.entry.result.1.now) (drop c.loop-i.i fs) (drop (c.loop-i.i + 1) fs)
    (drop_at fs c.loop-i.i (c.entry.result.0.now, tree_of c.entry.result.1.now) c.entry.ensures) (sym c.holds_mark.ensures ∙ c.if-holds_mark.true))

pub members_hold-loop-i-preserved : goal.members_hold-loop-i-preserved
members_hold-loop-i-preserved t c =
    let fs = field_list c.args.map.now in
    c.loop-i.invariant ∙ member_passed c.entry.result.0.now (tree_of c.entry.result.1.now) (drop c.loop-i.i fs) (drop (c.loop-i.i + 1) fs)
    (drop_at fs c.loop-i.i (c.entry.result.0.now, tree_of c.entry.result.1.now) c.entry.ensures) (sym c.holds_mark.ensures ∙ c.if-holds_mark.false)
