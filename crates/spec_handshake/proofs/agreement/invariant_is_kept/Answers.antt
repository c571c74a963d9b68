use Rattle.spec_handshake.proofs.Runs.{nothing-stands, happens-keeps}
use Rattle.spec_handshake.proofs.agreement.invariant_is_kept.Goals as goal

pub returns-clause-begin : goal.returns-clause-begin
returns-clause-begin c = nothing-stands

pub returns-clause-kept : goal.returns-clause-kept
returns-clause-kept c = happens-keeps
