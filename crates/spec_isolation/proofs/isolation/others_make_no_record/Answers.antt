use Rattle.spec_isolation.proofs.RecordLemmas.{other_event}
use Rattle.spec_isolation.proofs.isolation.others_make_no_record.Goals as goal

pub returns : goal.returns
returns c = other_event
