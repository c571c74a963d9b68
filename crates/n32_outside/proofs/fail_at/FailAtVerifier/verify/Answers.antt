use Rattle.std.proofs.Common.{ap}
use Rattle.n32_outside.proofs.Listed.{listed_cause}
use Rattle.n32_outside.proofs.fail_at.FailAtVerifier.verify.Goals as goal

pub returns-then-next_call-clause-cause : goal.returns-then-next_call-clause-cause
returns-then-next_call-clause-cause g c =
    listed_cause _ _ _ _ _ (ap g.T.Verifier.faults c.next_call.ensures.inner) c.next_call.ensures.later (c.next_call.ensures.risen c.if-next_call.true)
