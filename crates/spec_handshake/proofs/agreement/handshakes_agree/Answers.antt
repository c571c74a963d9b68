use Rattle.spec_handshake.proofs.Runs.{runs_agree}
use Rattle.spec_handshake.proofs.agreement.handshakes_agree.Goals as goal

pub returns : goal.returns
returns c = runs_agree
