use Rattle.std.proofs.Common.{refl}
use Rattle.spec_script.proofs.OutputLemmas.{run-push}
use Rattle.spec_script.proofs.runs.output_goes_on.Goals as goal

pub returns : goal.returns
returns c m s n lines answers mid line a last h spoken one = run-push m s n lines answers mid line a last _ refl h spoken one
