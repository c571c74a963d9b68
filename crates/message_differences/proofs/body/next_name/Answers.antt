use Rattle.std.proofs.Common.{rules, ◌<◌, ◌≤◌, length, sym}
use Rattle.spec_documents.specs.Fields.{field_list}
use Rattle.message_differences.proofs.TurnLemmas.{comes_by, comes_left, comes_right}
use Rattle.message_differences.proofs.body.next_name.Goals as goal

pub returns-in-true-true-clause-next : goal.returns-in-true-true-clause-next
returns-in-true-true-clause-next c =
    let one : c.args.i < length (field_list c.args.before.now) = search rules in
    let other : c.args.j < length (field_list c.args.after.now) = search rules in
    comes_by (field_list c.args.before.now) (field_list c.args.after.now) c.args.i c.args.j _ _ c.compare.result c.entry.ensures c.entry-in-true-true.ensures one other (sym c.compare.ensures)

pub returns-in-true-false-clause-next : goal.returns-in-true-false-clause-next
returns-in-true-false-clause-next c =
    let one : c.args.i < length (field_list c.args.before.now) = search rules in
    let other : length (field_list c.args.after.now) ≤ c.args.j = search rules in
    comes_left (field_list c.args.before.now) (field_list c.args.after.now) c.args.i c.args.j one other

pub returns-in-false-true-clause-next : goal.returns-in-false-true-clause-next
returns-in-false-true-clause-next c =
    let one : length (field_list c.args.before.now) ≤ c.args.i = search rules in
    let other : c.args.j < length (field_list c.args.after.now) = search rules in
    comes_right (field_list c.args.before.now) (field_list c.args.after.now) c.args.i c.args.j one other
