use Rattle.spec_records.proofs.Fitting.{fitting_keys}
use Rattle.spec_records.proofs.records.keys_fit_suite.Goals as goal

pub returns : goal.returns
returns c = fitting_keys
