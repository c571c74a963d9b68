use Rattle.spec_records.proofs.RecordLemmas.{delivered_at-is_some}
use Rattle.spec_records.proofs.records.delivery_has_number.Goals as goal

pub returns : goal.returns
returns c = delivered_at-is_some
