use Rattle.spec_agreement.proofs.Runs.{opened_agree}
use Rattle.spec_agreement.proofs.agreement.opened_contexts_agree.Goals as goal

pub returns : goal.returns
returns c = opened_agree
