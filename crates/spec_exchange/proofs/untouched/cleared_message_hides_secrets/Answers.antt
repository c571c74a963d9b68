use Rattle.spec_exchange.proofs.HiddenLemmas.{all-hidden}
use Rattle.spec_exchange.proofs.untouched.cleared_message_hides_secrets.Goals as goal

pub returns : goal.returns
returns c pol k m o = all-hidden pol k m o
