use Rattle.spec_records.proofs.RecordLemmas.{opening-stays}
use Rattle.spec_records.proofs.records.opening_stays.Goals as goal

pub returns : goal.returns
returns c = opening-stays
