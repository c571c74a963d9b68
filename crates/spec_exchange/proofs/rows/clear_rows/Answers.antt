use Rattle.std.proofs.Common.{refl}
use Rattle.spec_exchange.proofs.rows.clear_rows.Goals as goal

pub returns-clause-segment : goal.returns-clause-segment
returns-clause-segment c = refl

pub returns-clause-body : goal.returns-clause-body
returns-clause-body c = refl

pub returns-clause-hidden : goal.returns-clause-hidden
returns-clause-hidden c = refl
