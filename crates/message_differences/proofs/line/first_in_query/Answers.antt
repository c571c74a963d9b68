use Rattle.std.proofs.Common.{◌≡◌, map, ap, subst, ◌∙◌}
use Rattle.spec_messages.specs.Policy.{named_changed, query, line_query_order, pairs_named}
use Rattle.http_message.specs.Reading.{pair_view}
use Rattle.message_differences.specs.Fixed.{FirstFixed}
use Rattle.message_differences.specs.Named.{named_view}
use Rattle.message_differences.proofs.line.first_in_query.Goals as goal

pub returns : goal.returns
returns c =
    let before : map named_view c.deref.result.now ≡ pairs_named (map pair_view c.args.before.now) = ap (map named_view) c.deref.ensures.value ∙ c.in_ok-before.ensures in
    let after : map named_view c.deref-2.result.now ≡ pairs_named (map pair_view c.args.after.now) = ap (map named_view) c.deref-2.ensures.value ∙ c.in_ok-after.ensures in
    subst (λ xs. FirstFixed c.args.change.now c.first_named.result (named_changed query line_query_order xs (pairs_named (map pair_view c.args.after.now)))) before
    (subst (λ ys. FirstFixed c.args.change.now c.first_named.result (named_changed query line_query_order (map named_view c.deref.result.now) ys)) after c.first_named.ensures)
