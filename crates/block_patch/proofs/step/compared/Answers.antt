use Rattle.std.proofs.Common.{sym, ap}
use Rattle.spec_messages.specs.Outcome.{unless_fixed}
use Rattle.http_message.specs.Reading.{message_view}
use Rattle.block_patch.proofs.step.compared.Goals as goal

pub returns-in-Ok-None : goal.returns-in-Ok-None
returns-in-Ok-None c = ap (λ o. unless_fixed o (c.args.doc, message_view c.args.message)) (sym (rw c.in-Ok-None.field-0-is at c.in-Ok-None.ensures))

pub returns-in-Ok-Some : goal.returns-in-Ok-Some
returns-in-Ok-Some c = ap (λ o. unless_fixed o (c.args.doc, message_view c.args.message)) (sym (rw c.in-Ok-Some.field-0-is at c.in-Ok-Some.ensures))
