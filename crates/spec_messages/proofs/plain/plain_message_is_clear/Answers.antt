use Rattle.spec_messages.proofs.PlainSplit.{plain_clear, plain_values}
use Rattle.spec_messages.proofs.plain.plain_message_is_clear.Goals as goal

pub returns : goal.returns
returns c = record { cleared = λ m w b. plain_clear m w b; values = λ m w b. plain_values m w b }
