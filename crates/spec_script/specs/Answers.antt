-- The documents of answers, one a line (this project's own).
use Rattle.std.specs.Prelude.{ℕ, pos, List, [], ◌∷◌, Option, Some, None, codes}
use Rattle.spec_documents.specs.Tree.{Tree, whole, words, members, Members, object, put_member}
use Rattle.spec_documents.specs.Compact.{compact_text}
use Rattle.spec_documents.specs.Ids.{id_text}
use Rattle.spec_messages.specs.Printing.{message_tree}
use Rattle.spec_reports.specs.Report.{Report}
use Rattle.spec_reports.specs.Document.{type_text}
use Rattle.spec_script.specs.Refusals.{Refusal, OfReceiving}
use Rattle.spec_script.specs.RefusalTexts.{telling}
use Rattle.spec_script.specs.Steps.{Answer, Fine, OnWire, Sends, Forwards, Delivers, Reports, Opens, OpensAs, EndsTls, Refuses}

abbrev pub number_tree : ℕ → Tree
number_tree n = whole (pos n)

-- a detail, where there is one
abbrev pub with_detail : Option (List ℕ) → Members → Members
with_detail None ms = ms
with_detail (Some detail) ms = put_member (codes "detail") (words detail) ms

-- the report that a refusal is told with, and that report among the other members
abbrev pub report_of : Refusal → Option Tree
report_of (OfReceiving refusal report) = report
report_of _ = None

abbrev pub with_report : Option Tree → Members → Members
with_report None ms = ms
with_report (Some report) ms = put_member (codes "report") report ms

-- the refusal of line n
abbrev pub refusal_tree : ℕ → Refusal → Tree
refusal_tree n e = members (with_report (report_of e) (with_detail (telling e).detail (object (
    (codes "line", number_tree n)
    ∷ (codes "name", words (telling e).name)
    ∷ (codes "refused", number_tree (telling e).number) ∷ []))))

-- the intermediary that a report names, among the other members
abbrev pub with_entry : Option (List ℕ) → Members → Members
with_entry None ms = ms
with_entry (Some ipx) ms = put_member (codes "entry") (words ipx) ms

abbrev pub reported_tree : ℕ → Report → Tree
reported_tree n r = members (with_entry r.entry (object (
    (codes "context", words (id_text r.context))
    ∷ (codes "error", words (type_text r.error))
    ∷ (codes "line", number_tree n)
    ∷ (codes "message", words (id_text r.message)) ∷ [])))

-- a document, and its number on the wire
abbrev pub document_tree : ℕ → Tree → ℕ → Tree
document_tree n document number = members (object ((codes "document", document) ∷ (codes "line", number_tree n) ∷ (codes "wire", number_tree number) ∷ []))

-- with the id of the context that opens
abbrev pub opens_tree : ℕ → Tree → ℕ → ℕ → Tree
opens_tree n document number id = members (object ((codes "document", document) ∷ (codes "line", number_tree n) ∷ (codes "opened", words (id_text id)) ∷ (codes "wire", number_tree number) ∷ []))

-- the document that answers line n
abbrev pub answer_tree : ℕ → Answer → Tree
answer_tree n (Fine name) = members (object ((codes "line", number_tree n) ∷ (codes "ok", words name) ∷ []))
answer_tree n (OnWire number) = members (object ((codes "line", number_tree n) ∷ (codes "wire", number_tree number) ∷ []))
answer_tree n (Sends x number) = document_tree n x.document number
answer_tree n (Forwards document number) = document_tree n document number
answer_tree n (Delivers d) = members (object ((codes "delivered", message_tree d.content) ∷ (codes "line", number_tree n) ∷ (codes "message", words (id_text d.message)) ∷ []))
answer_tree n (Reports r) = reported_tree n r
answer_tree n (Opens document number id) = opens_tree n document number id
answer_tree n (OpensAs id) = members (object ((codes "line", number_tree n) ∷ (codes "opened", words (id_text id)) ∷ []))
answer_tree n EndsTls = members (object ((codes "ended", words (codes "TLS")) ∷ (codes "line", number_tree n) ∷ []))
answer_tree n (Refuses e) = refusal_tree n e

abbrev pub answer_text : ℕ → Answer → List ℕ
answer_text n a = compact_text (answer_tree n a)
