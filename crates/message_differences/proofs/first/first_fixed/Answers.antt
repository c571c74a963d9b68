use Rattle.std.proofs.Common.{sym, ap₂}
use Rattle.std.specs.List.{find}
use Rattle.spec_messages.specs.Policy.{differs}
use Rattle.http_message.specs.Reading.{message_view}
use Rattle.message_differences.specs.declared.change.Change.{Change}
use Rattle.message_differences.specs.Fixed.{fixed_by}
use Rattle.message_differences.proofs.FindLemmas.{fixed_same}
use Rattle.message_differences.proofs.first.first_fixed.Goals as goal

pub returns-in-Request-Request : goal.returns-in-Request-Request
returns-in-Request-Request c =
    let change : Change = record { policy = c.args.policy; mapping = c.args.mapping; before = c.args.before; after = c.args.after; ipx = c.args.ipx } in
    fixed_same change c.first_in_request.result _ (differs c.args.policy.now c.args.mapping (message_view c.args.before.now) (message_view c.args.after.now))
    (sym (ap₂ (λ m n. find (fixed_by change) (differs c.args.policy.now c.args.mapping (message_view m) (message_view n))) c.in-Request-Request.is-0 c.in-Request-Request.is-1))
    c.first_in_request.ensures

pub returns-in-Response-Response : goal.returns-in-Response-Response
returns-in-Response-Response c =
    let change : Change = record { policy = c.args.policy; mapping = c.args.mapping; before = c.args.before; after = c.args.after; ipx = c.args.ipx } in
    fixed_same change c.first_in_response.result _ (differs c.args.policy.now c.args.mapping (message_view c.args.before.now) (message_view c.args.after.now))
    (sym (ap₂ (λ m n. find (fixed_by change) (differs c.args.policy.now c.args.mapping (message_view m) (message_view n))) c.in-Response-Response.is-0 c.in-Response-Response.is-1))
    c.first_in_response.ensures
