use Rattle.spec_sealing.proofs.Written.{written-read}
use Rattle.spec_sealing.proofs.laws.written_jwe_is_read.Goals as goal

pub returns : goal.returns
returns c w parts texts = written-read w parts texts
