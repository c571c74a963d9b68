use Rattle.spec_sealing.proofs.Written.{values-read}
use Rattle.spec_sealing.proofs.laws.written_values_are_read.Goals as goal

pub returns : goal.returns
returns c vs document shallow = values-read vs document shallow
