use Rattle.std.proofs.Common.{sym, ap, subst}
use Rattle.spec_documents.specs.Place.{◌>>=◌}
use Rattle.spec_messages.specs.Entry.{first_fixed}
use Rattle.spec_messages.specs.Outcome.{unless_fixed}
use Rattle.http_message.specs.Reading.{message_view}
use Rattle.block_patch.specs.Answers.{Gives, keeps_holes}
use Rattle.block_patch.proofs.Results.{reads_not}
use Rattle.block_patch.proofs.step.judged.Goals as goal

pub returns-in-Ok : goal.returns-in-Ok
returns-in-Ok c =
    let r = c.args.rules.now in
    subst (λ x. Gives x c.compared.result)
    (sym (ap (λ x. x >>= λ d. unless_fixed (first_fixed r.policy.now r.mapping r.ipx.now (message_view c.args.before.now) d) (c.args.doc, d)) c.in-Ok.ensures)) c.compared.ensures

pub returns-in-Err : goal.returns-in-Err
returns-in-Err c =
    let r = c.args.rules.now in
    reads_not (keeps_holes r.holes c.args.holes.now c.args.doc) c.in-Err.fault (λ d. unless_fixed (first_fixed r.policy.now r.mapping r.ipx.now (message_view c.args.before.now) d) (c.args.doc, d)) c.in-Err.ensures
