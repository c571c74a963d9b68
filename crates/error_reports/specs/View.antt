-- What values of the program are in the words of the definitions.
use Rattle.std.specs.Prelude.{Option, Some, None}
use Rattle.spec_reports.specs.Report as spec
use Rattle.spec_reports.specs.Document.{NoReport, no_report}
use Rattle.error_reports.specs.declared.report.Report.{Report}
use Rattle.error_reports.specs.declared.error_type.ErrorType.{ErrorType}
use Rattle.error_reports.specs.declared.error_type.ErrorType.TheVariants.{ContextNotFound, DecipheringFailed, IntegrityCheckFailed, MessageReconstructionFailed, PolicyMismatch, IntegrityCheckOnModificationsFailed, ModificationsInstructionsFailed}
use Rattle.error_reports.specs.declared.read.ReportRead.{ReportRead}
use Rattle.error_reports.specs.declared.read.ReportRead.TheVariants.{Form, NoMemory}

abbrev pub type_view : ErrorType → spec.ErrorType
type_view ContextNotFound = spec.ContextNotFound
type_view DecipheringFailed = spec.DecipheringFailed
type_view IntegrityCheckFailed = spec.IntegrityCheckFailed
type_view MessageReconstructionFailed = spec.MessageReconstructionFailed
type_view PolicyMismatch = spec.PolicyMismatch
type_view IntegrityCheckOnModificationsFailed = spec.IntegrityCheckOnModificationsFailed
type_view ModificationsInstructionsFailed = spec.ModificationsInstructionsFailed

abbrev pub report_view : Report → spec.Report
report_view r = record { context = r.context.value; message = r.message.value; error = type_view r.error; entry = r.entry }

-- what an error tells
abbrev pub form_told : ReportRead → Option NoReport
form_told Form = Some no_report
form_told NoMemory = None
