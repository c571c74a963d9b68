use Rattle.spec_reports.proofs.ReadBack.{report_back}
use Rattle.spec_reports.proofs.FormsRead.{read_is_formed}
use Rattle.spec_reports.proofs.reports.read_report_is_formed.Goals as goal

pub returns-clause-formed : goal.returns-clause-formed
returns-clause-formed c = read_is_formed

pub returns-clause-again : goal.returns-clause-again
returns-clause-again c t r is = report_back r (read_is_formed t r is)
