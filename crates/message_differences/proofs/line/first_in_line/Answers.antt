use Rattle.std.proofs.Common.{option_map, map, refl, sym, ap, ◌∙◌}
use Rattle.std.specs.List.{find}
use Rattle.spec_messages.specs.Policy.{line_changed, named_changed, query, line_query_order, pairs_named}
use Rattle.http_message.specs.Reading.{request_line}
use Rattle.policy_documents.specs.View.{pattern_view}
use Rattle.policy_tables.specs.View.{address_view, line_view}
use Rattle.message_differences.specs.Fixed.{fixed_by}
use Rattle.message_differences.proofs.FindLemmas.{fixed_same}
use Rattle.message_differences.proofs.LineLemmas.{line_by, line_part, line_variable, line_query}
use Rattle.message_differences.proofs.line.first_in_line.Goals as goal

pub returns-in-Some : goal.returns-in-Some
returns-in-Some c =
    let P = fixed_by c.args.change.now in
    let a = request_line c.args.before.now in
    let b = request_line c.args.after.now in
    sym (ap (λ ps. find P (line_by ps a b)) (sym c.patterns-patterns.ensures) ∙ line_part P (map pattern_view c.patterns-patterns.result.now) a b (line_view c.in-Some.part) refl c.in-Some.ensures)

pub returns-in-Some-variable : goal.returns-in-Some-variable
returns-in-Some-variable c =
    let P = fixed_by c.args.change.now in
    let a = request_line c.args.before.now in
    let b = request_line c.args.after.now in
    sym (ap (λ ps. find P (line_by ps a b)) (sym c.patterns-patterns.ensures)
    ∙ line_variable P (map pattern_view c.patterns-patterns.result.now) a b (address_view c.in-Some-variable.address) c.in_default.ensures (sym c.in_ok-variable.ensures ∙ ap (option_map address_view) c.in-Some-variable.is))

pub returns : goal.returns
returns c =
    let P = fixed_by c.args.change.now in
    let a = request_line c.args.before.now in
    let b = request_line c.args.after.now in
    fixed_same c.args.change.now c.first_in_query.result (named_changed query line_query_order (pairs_named a.query) (pairs_named b.query)) (line_changed c.args.change.now.policy.now c.args.change.now.mapping a b)
    (sym (ap (λ ps. find P (line_by ps a b)) (sym c.patterns-patterns.ensures)
    ∙ line_query P (map pattern_view c.patterns-patterns.result.now) a b c.in_default.ensures (sym c.in_ok-variable.ensures ∙ ap (option_map address_view) c.in_default-variable.is)))
    c.first_in_query.ensures
