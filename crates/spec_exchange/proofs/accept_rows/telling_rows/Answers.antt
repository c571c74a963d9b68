use Rattle.std.proofs.Common.{refl}
use Rattle.std.specs.Fmt.{digits}
use Rattle.spec_exchange.proofs.accept_rows.telling_rows.Goals as goal

pub returns-clause-form : goal.returns-clause-form
unfolding digits
returns-clause-form c = refl

pub returns-clause-identity : goal.returns-clause-identity
unfolding digits
returns-clause-identity c = refl

pub returns-clause-verifier : goal.returns-clause-verifier
unfolding digits
returns-clause-verifier c = refl

pub returns-clause-operation : goal.returns-clause-operation
unfolding digits
returns-clause-operation c = refl

pub returns-clause-modifiable : goal.returns-clause-modifiable
unfolding digits
returns-clause-modifiable c = refl

pub returns-clause-unasked : goal.returns-clause-unasked
unfolding digits
returns-clause-unasked c = refl

pub returns-clause-screen : goal.returns-clause-screen
unfolding digits
returns-clause-screen c = refl
