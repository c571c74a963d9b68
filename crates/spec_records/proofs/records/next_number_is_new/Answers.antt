use Rattle.spec_records.proofs.RecordLemmas.{next_seq-new}
use Rattle.spec_records.proofs.records.next_number_is_new.Goals as goal

pub returns : goal.returns
returns c = next_seq-new
