use Rattle.spec_records.proofs.RecordDepth.{record_level}
use Rattle.spec_records.proofs.RecordReading.{record_back}
use Rattle.spec_records.proofs.records.written_record_is_read.Goals as goal

pub returns-clause-shallow : goal.returns-clause-shallow
returns-clause-shallow c = record_level

pub returns-clause-read : goal.returns-clause-read
returns-clause-read c = record_back
