use Rattle.std.proofs.Common.{sym, ap, ◌∙◌, subst}
use Rattle.spec_documents.specs.Place.{◌>>=◌}
use Rattle.spec_messages.specs.Entry.{op_result}
use Rattle.spec_messages.specs.Outcome.{read_again, compared}
use Rattle.http_message.specs.Reading.{message_view}
use Rattle.json_patch6902.specs.View.{op_view}
use Rattle.block_patch.specs.Answers.{Gives}
use Rattle.block_patch.proofs.Results.{same_judged, makes_not}
use Rattle.block_patch.proofs.step.step.Goals as goal

pub returns-in-Ok : goal.returns-in-Ok
returns-in-Ok c =
    let r = c.args.rules.now in
    let j = c.args.current.now.doc in
    let m = message_view c.args.current.now.message in
    subst (λ x. Gives x c.judged.result)
    (sym (ap (λ x. x >>= λ w. read_again r.holes w >>= λ d. compared r.policy.now r.mapping r.ipx.now r.holes j m w d) c.in-Ok.ensures
    ∙ same_judged r.policy.now r.mapping r.ipx.now r.holes j m c.in-Ok.doc c.args.holes.now c.requires)) c.judged.ensures

pub returns-in-Err : goal.returns-in-Err
returns-in-Err c =
    let r = c.args.rules.now in
    let j = c.args.current.now.doc in
    let m = message_view c.args.current.now.message in
    makes_not (op_result j (op_view c.args.op.now)) c.in-Err.fault (λ w. read_again r.holes w >>= λ d. compared r.policy.now r.mapping r.ipx.now r.holes j m w d) c.in-Err.ensures
