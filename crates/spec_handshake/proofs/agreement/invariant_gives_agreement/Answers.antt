use Rattle.spec_handshake.proofs.Runs.{stands_agree}
use Rattle.spec_handshake.proofs.agreement.invariant_gives_agreement.Goals as goal

pub returns : goal.returns
returns c = stands_agree
