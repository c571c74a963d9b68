use Rattle.spec_script.proofs.FaultLemmas.{counted_faults}
use Rattle.spec_script.proofs.runs.faults_counted.Goals as goal

pub returns : goal.returns
returns c = counted_faults
