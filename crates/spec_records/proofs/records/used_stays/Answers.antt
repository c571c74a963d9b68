use Rattle.spec_records.proofs.RecordLemmas.{used-stays}
use Rattle.spec_records.proofs.records.used_stays.Goals as goal

pub returns : goal.returns
returns c = used-stays
