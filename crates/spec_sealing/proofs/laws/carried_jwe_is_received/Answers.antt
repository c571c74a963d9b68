use Rattle.spec_sealing.proofs.Written.{carried-received}
use Rattle.spec_sealing.proofs.laws.carried_jwe_is_received.Goals as goal

pub returns : goal.returns
returns c w block parts texts e = carried-received w block parts texts e
