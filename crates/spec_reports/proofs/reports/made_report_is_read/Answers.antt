use Rattle.spec_reports.proofs.ReadBack.{made_back}
use Rattle.spec_reports.proofs.reports.made_report_is_read.Goals as goal

pub returns : goal.returns
returns c = made_back
