use Rattle.spec_reports.proofs.ReadBack.{report_back}
use Rattle.spec_reports.proofs.reports.written_report_is_read.Goals as goal

pub returns-clause-read : goal.returns-clause-read
returns-clause-read c = report_back
