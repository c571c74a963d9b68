use Rattle.std.proofs.Common.{[], ◌++◌, option_map, map, sym, ap, ◌∙◌}
use Rattle.spec_messages.specs.Policy.{line_changed, named_changed, header_at, line_header_order, headers_named, body_at, body_changed}
use Rattle.http_message.specs.Reading.{header_view, request_line}
use Rattle.policy_tables.specs.View.{address_view}
use Rattle.message_differences.specs.Fixed.{fixed_by}
use Rattle.message_differences.proofs.FindLemmas.{found_first, found_later, found_left, found_past, fixed_same}
use Rattle.message_differences.proofs.first.first_in_request.Goals as goal

pub returns-in-Some : goal.returns-in-Some
returns-in-Some c =
    let in_line = line_changed c.args.change.now.policy.now c.args.change.now.mapping (request_line c.args.before.now) (request_line c.args.after.now) in
    let headers = named_changed header_at line_header_order (headers_named (map header_view c.args.before.now.headers)) (headers_named (map header_view c.args.after.now.headers)) in
    let body = map body_at (body_changed c.args.before.now.body c.args.after.now.body) in
    sym (found_first (fixed_by c.args.change.now) in_line ((headers ++ []) ++ body) (address_view c.in-Some.address) (sym c.in_ok-in_line.ensures ∙ ap (option_map address_view) c.in-Some.is))

pub returns-in-Some-in_headers : goal.returns-in-Some-in_headers
returns-in-Some-in_headers c =
    let in_line = line_changed c.args.change.now.policy.now c.args.change.now.mapping (request_line c.args.before.now) (request_line c.args.after.now) in
    let headers = named_changed header_at line_header_order (headers_named (map header_view c.args.before.now.headers)) (headers_named (map header_view c.args.after.now.headers)) in
    let body = map body_at (body_changed c.args.before.now.body c.args.after.now.body) in
    sym (found_later (fixed_by c.args.change.now) in_line ((headers ++ []) ++ body) (sym c.in_ok-in_line.ensures ∙ ap (option_map address_view) c.in_default.is)
    ∙ found_left (fixed_by c.args.change.now) headers [] body (address_view c.in-Some-in_headers.address) (sym c.in_ok-in_headers.ensures ∙ ap (option_map address_view) c.in-Some-in_headers.is))

pub returns : goal.returns
returns c =
    let in_line = line_changed c.args.change.now.policy.now c.args.change.now.mapping (request_line c.args.before.now) (request_line c.args.after.now) in
    let headers = named_changed header_at line_header_order (headers_named (map header_view c.args.before.now.headers)) (headers_named (map header_view c.args.after.now.headers)) in
    let body = map body_at (body_changed c.args.before.now.body c.args.after.now.body) in
    fixed_same c.args.change.now c.first_in_body.result body (in_line ++ ((headers ++ []) ++ body))
    (sym (found_later (fixed_by c.args.change.now) in_line ((headers ++ []) ++ body) (sym c.in_ok-in_line.ensures ∙ ap (option_map address_view) c.in_default.is)
    ∙ found_past (fixed_by c.args.change.now) headers [] body (sym c.in_ok-in_headers.ensures ∙ ap (option_map address_view) c.in_default-in_headers.is)))
    c.first_in_body.ensures
