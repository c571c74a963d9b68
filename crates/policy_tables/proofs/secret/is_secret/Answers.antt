use Rattle.std.proofs.Common.{sym, ◌∙◌}
use Rattle.http_message.specs.Reading.{message_view}
use Rattle.policy_tables.specs.View.{address_view}
use Rattle.policy_tables.proofs.SecretFound.{secret_found}
use Rattle.policy_tables.proofs.secret.is_secret.Goals as goal

pub returns : goal.returns
returns c = c.is_found.ensures.value ∙ sym (secret_found c.args.policy.now c.args.mapping (message_view c.args.message.now) (address_view c.args.address.now) c.is_found.ensures.ordered)
