use Rattle.spec_messages.proofs.PolicyBack.{policy_back}
use Rattle.spec_messages.proofs.policies.printed_policy_is_read.Goals as goal

pub returns : goal.returns
returns c = λ t p e. policy_back t p e
