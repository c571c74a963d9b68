use Rattle.spec_messages.proofs.PolicyBack.{policy_few}
use Rattle.spec_messages.proofs.policies.policies_are_few.Goals as goal

pub returns : goal.returns
returns c = λ t p e. policy_few t p e
