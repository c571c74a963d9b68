use Rattle.std.proofs.Common.{sym, ap, ◌∙◌}
use Rattle.http_message.specs.Reading.{message_view}
use Rattle.sealing_check.specs.Found.{clear_found}
use Rattle.sealing_check.proofs.InClear.{in_clear_found}
use Rattle.sealing_check.proofs.check.first_in_clear.Goals as goal

pub returns : goal.returns
returns c =
    let holed = message_view c.args.holed.now in
    let filled = message_view c.args.filled.now in
    c.in_ok-address.ensures ∙ ap (λ r. clear_found r.policy r.mapping r.kind holed filled) c.in_ok-rules.ensures ∙ ap (λ kind. clear_found c.args.policy.now c.args.mapping kind holed filled) c.kind.ensures ∙ sym (in_clear_found c.args.policy.now c.args.mapping holed filled)
