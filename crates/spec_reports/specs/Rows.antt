-- Reports and documents of the worked examples.
use Rattle.std.specs.Prelude.{ℕ, List, [], ◌∷◌, Option, codes}
use Rattle.spec_documents.specs.Tree.{Tree, words, items, members, trees, object}
use Rattle.spec_documents.specs.Fields.{Field}
use Rattle.spec_reports.specs.Report.{ErrorType, Report}

-- of the message 0 under the context b1
abbrev pub report_with_entry : ErrorType → Option (List ℕ) → Report
report_with_entry error entry = record { context = 177; message = 0; error = error; entry = entry }

-- a document of these members
abbrev pub document : List Field → Tree
document es = members (object es)

abbrev pub context_field : Field
context_field = (codes "n32fContextId", words (codes "00000000000000B1"))

abbrev pub message_field : Field
message_field = (codes "n32fMessageId", words (codes "0000000000000000"))

abbrev pub type_field : List ℕ → Field
type_field s = (codes "n32fErrorType", words s)

abbrev pub ipx_field : Field
ipx_field = (codes "ipxId", words (codes "ipx-a"))

-- a list of failed modifications, among the members that each report has
abbrev pub with_failures : Tree → Tree
with_failures t = document ((codes "failedModificationList", t) ∷ context_field ∷ message_field ∷ type_field (codes "POLICY_MISMATCH") ∷ [])

abbrev pub with_failure : List Field → Tree
with_failure es = with_failures (items (trees (document es ∷ [])))
