use Rattle.std.proofs.Common.{rules, ◌≡◌, ◌==◌, ◌++◌, true, false, option_map, map, sym, ap, ◌∙◌}
use Rattle.std.specs.List.{find}
use Rattle.spec_messages.specs.Policy.{line, line_status, unless, named_changed, header_at, line_header_order, headers_named, body_at, body_changed}
use Rattle.http_message.specs.Reading.{header_view}
use Rattle.policy_tables.specs.View.{address_view}
use Rattle.message_differences.specs.Fixed.{fixed_by}
use Rattle.message_differences.proofs.FindLemmas.{found_left, found_past, fixed_same}
use Rattle.message_differences.proofs.first.first_in_response.Goals as goal

pub returns-in-Some : goal.returns-in-Some
returns-in-Some c =
    let headers = named_changed header_at line_header_order (headers_named (map header_view c.args.one.now.headers)) (headers_named (map header_view c.args.other.now.headers)) in
    sym (found_left (fixed_by c.args.change.now) headers (unless (c.args.one.now.status == c.args.other.now.status) (line line_status)) (map body_at (body_changed c.args.one.now.body c.args.other.now.body)) (address_view c.in-Some.address)
    (sym c.in_ok-in_headers.ensures ∙ ap (option_map address_view) c.in-Some.is))

pub returns-then-not-is_same_status : goal.returns-then-not-is_same_status
returns-then-not-is_same_status c =
    let headers = named_changed header_at line_header_order (headers_named (map header_view c.args.one.now.headers)) (headers_named (map header_view c.args.other.now.headers)) in
    let body = map body_at (body_changed c.args.one.now.body c.args.other.now.body) in
    let apart : c.is_same_status.result ≡ false = search rules in
    sym (found_past (fixed_by c.args.change.now) headers (unless (c.args.one.now.status == c.args.other.now.status) (line line_status)) body (sym c.in_ok-in_headers.ensures ∙ ap (option_map address_view) c.in_default.is)
    ∙ ap (λ b. find (fixed_by c.args.change.now) (unless b (line line_status) ++ body)) (sym c.is_same_status.ensures ∙ apart))

pub returns : goal.returns
returns c =
    let headers = named_changed header_at line_header_order (headers_named (map header_view c.args.one.now.headers)) (headers_named (map header_view c.args.other.now.headers)) in
    let body = map body_at (body_changed c.args.one.now.body c.args.other.now.body) in
    let status = unless (c.args.one.now.status == c.args.other.now.status) (line line_status) in
    let same : c.is_same_status.result ≡ true = search rules in
    fixed_same c.args.change.now c.first_in_body.result body ((headers ++ status) ++ body)
    (sym (found_past (fixed_by c.args.change.now) headers status body (sym c.in_ok-in_headers.ensures ∙ ap (option_map address_view) c.in_default.is)
    ∙ ap (λ b. find (fixed_by c.args.change.now) (unless b (line line_status) ++ body)) (sym c.is_same_status.ensures ∙ same)))
    c.first_in_body.ensures
