-- The document of a report, and the report that a document is of (`N32fErrorInfo` of TS 29.573 clause 6.1.5 in outline; the members and the listed types are this project's profile).
use Rattle.std.specs.Prelude.{ℕ, List, [], ◌∷◌, Option, Some, None, Result, Ok, Err, if◌then◌else◌, bytes_eq, codes}
use Rattle.spec_documents.specs.Tree.{Tree, null, truth, whole, words, items, members, Members, trees, get_member, items_in, object}
use Rattle.spec_documents.specs.Fields.{Field}
use Rattle.spec_documents.specs.Place.{◌>>=◌}
use Rattle.spec_documents.specs.Ids.{id_of, id_text}
use Rattle.spec_documents.specs.Text.{is_identity}
use Rattle.spec_messages.specs.Message.{wanted, text_at}
use Rattle.spec_messages.specs.PolicyDocument.{chosen}
use Rattle.spec_reports.specs.Report.{ErrorType, ContextNotFound, DecipheringFailed, IntegrityCheckFailed, MessageReconstructionFailed, PolicyMismatch, IntegrityCheckOnModificationsFailed, ModificationsInstructionsFailed, Report}

-- ---- the words of types

abbrev pub type_text : ErrorType → List ℕ
type_text ContextNotFound = codes "CONTEXT_NOT_FOUND"
type_text DecipheringFailed = codes "DECIPHERING_FAILED"
type_text IntegrityCheckFailed = codes "INTEGRITY_CHECK_FAILED"
type_text MessageReconstructionFailed = codes "MESSAGE_RECONSTRUCTION_FAILED"
type_text PolicyMismatch = codes "POLICY_MISMATCH"
type_text IntegrityCheckOnModificationsFailed = codes "INTEGRITY_CHECK_ON_MODIFICATIONS_FAILED"
type_text ModificationsInstructionsFailed = codes "MODIFICATIONS_INSTRUCTIONS_FAILED"

abbrev pub type_of : List ℕ → Option ErrorType
type_of s =
    if bytes_eq s (codes "CONTEXT_NOT_FOUND") then Some ContextNotFound
    else (if bytes_eq s (codes "DECIPHERING_FAILED") then Some DecipheringFailed
    else (if bytes_eq s (codes "INTEGRITY_CHECK_FAILED") then Some IntegrityCheckFailed
    else (if bytes_eq s (codes "MESSAGE_RECONSTRUCTION_FAILED") then Some MessageReconstructionFailed
    else (if bytes_eq s (codes "POLICY_MISMATCH") then Some PolicyMismatch
    else (if bytes_eq s (codes "INTEGRITY_CHECK_ON_MODIFICATIONS_FAILED") then Some IntegrityCheckOnModificationsFailed
    else (if bytes_eq s (codes "MODIFICATIONS_INSTRUCTIONS_FAILED") then Some ModificationsInstructionsFailed
    else None))))))

-- ---- the document of a report

-- the intermediary with the type of its failure, which is the report's
abbrev pub failure_tree : ErrorType → List ℕ → Tree
failure_tree error ipx = members (object ((codes "ipxId", words ipx) ∷ (codes "n32fErrorType", words (type_text error)) ∷ []))

-- the member `failedModificationList` among the others: a list of one, where the report names an intermediary
abbrev pub onto_failures : ErrorType → Option (List ℕ) → List Field → List Field
onto_failures error None es = es
onto_failures error (Some ipx) es = (codes "failedModificationList", items (trees (failure_tree error ipx ∷ []))) ∷ es

abbrev pub report_tree : Report → Tree
report_tree r = members (object (onto_failures r.error r.entry (
    (codes "n32fContextId", words (id_text r.context))
    ∷ (codes "n32fErrorType", words (type_text r.error))
    ∷ (codes "n32fMessageId", words (id_text r.message)) ∷ [])))

-- ---- the report that a document is of: other members are ignored

-- the document is of no report
pub data NoReport : Type 0 where
  no_report : NoReport

-- an id, and a listed type
abbrev pub id_in : Option Tree → Result ℕ NoReport
id_in o = wanted (chosen id_of o) no_report

abbrev pub type_in : Option Tree → Result ErrorType NoReport
type_in o = wanted (chosen type_of o) no_report

-- the intermediary of a failure, whose type may be another than the report's
abbrev pub failure_with : Members → Result (List ℕ) NoReport
failure_with ms =
    wanted (text_at is_identity (codes "ipxId") ms) no_report >>= λ ipx.
    type_in (get_member (codes "n32fErrorType") ms) >>= λ error.
    Ok ipx

abbrev pub failure_in : Tree → Result (List ℕ) NoReport
failure_in null = Err no_report
failure_in (truth b) = Err no_report
failure_in (whole z) = Err no_report
failure_in (words s) = Err no_report
failure_in (items ts) = Err no_report
failure_in (members ms) = failure_with ms

-- a list has one failure
abbrev pub one_failure : List Tree → Result (List ℕ) NoReport
one_failure [] = Err no_report
one_failure (t ∷ []) = failure_in t
one_failure (t ∷ u ∷ ts) = Err no_report

-- the intermediary that is named: the list may be absent
abbrev pub entry_in : Option Tree → Result (Option (List ℕ)) NoReport
entry_in None = Ok None
entry_in (Some t) =
    wanted (items_in (Some t)) no_report >>= λ ts.
    one_failure ts >>= λ ipx.
    Ok (Some ipx)

abbrev pub report_with : Members → Result Report NoReport
report_with ms =
    entry_in (get_member (codes "failedModificationList") ms) >>= λ entry.
    id_in (get_member (codes "n32fContextId") ms) >>= λ context.
    type_in (get_member (codes "n32fErrorType") ms) >>= λ error.
    id_in (get_member (codes "n32fMessageId") ms) >>= λ message.
    Ok (record { context = context; message = message; error = error; entry = entry })

abbrev pub report_in : Tree → Result Report NoReport
report_in null = Err no_report
report_in (truth b) = Err no_report
report_in (whole z) = Err no_report
report_in (words s) = Err no_report
report_in (items ts) = Err no_report
report_in (members ms) = report_with ms
