use Rattle.spec_sealing.proofs.Opening.{sealed-allowed, sealed-opens, sealed-texts}
use Rattle.spec_sealing.proofs.laws.sealed_jwe_opens.Goals as goal

pub returns-clause-allowed : goal.returns-clause-allowed
returns-clause-allowed c key nonce block values = sealed-allowed key nonce block values

pub returns-clause-opens : goal.returns-clause-opens
returns-clause-opens c key nonce block values = sealed-opens key nonce block values

pub returns-clause-texts : goal.returns-clause-texts
returns-clause-texts c key nonce block values bytes = sealed-texts key nonce block values bytes
