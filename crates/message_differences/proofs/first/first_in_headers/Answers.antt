use Rattle.std.proofs.Common.{◌≡◌, map, ap, subst, ◌∙◌}
use Rattle.spec_messages.specs.Policy.{named_changed, header_at, line_header_order, headers_named}
use Rattle.http_message.specs.Reading.{header_view}
use Rattle.message_differences.specs.Fixed.{FirstFixed}
use Rattle.message_differences.specs.Named.{named_view}
use Rattle.message_differences.proofs.first.first_in_headers.Goals as goal

pub returns : goal.returns
returns c =
    let before : map named_view c.deref.result.now ≡ headers_named (map header_view c.args.before.now) = ap (map named_view) c.deref.ensures.value ∙ c.in_ok-before.ensures in
    let after : map named_view c.deref-2.result.now ≡ headers_named (map header_view c.args.after.now) = ap (map named_view) c.deref-2.ensures.value ∙ c.in_ok-after.ensures in
    subst (λ xs. FirstFixed c.args.change.now c.first_named.result (named_changed header_at line_header_order xs (headers_named (map header_view c.args.after.now)))) before
    (subst (λ ys. FirstFixed c.args.change.now c.first_named.result (named_changed header_at line_header_order (map named_view c.deref.result.now) ys)) after c.first_named.ensures)
