-- The report that goes with a refused delivery, where there is one.
use Rattle.std.specs.Prelude.{ℕ, zero, suc, List, Option, None, option_map, option_and_then, Result, Ok, Err, slice_get}
use Rattle.spec_documents.specs.Tree.{Tree}
use Rattle.spec_messages.specs.Policy.{result_ok}
use Rattle.spec_sealing.specs.Entries.{SignedEntry, entry_in}
use Rattle.spec_sealing.specs.Received.{Received, received}
use Rattle.spec_exchange.specs.AcceptRefusals.{Refusal, Receiving, Unasked, OfEntry, Screened, telling}
use Rattle.spec_reports.specs.Report.{report_for}
use Rattle.spec_reports.specs.Document.{report_tree}

-- the entry of a number, from 1
abbrev pub entry_at : List Tree → ℕ → Option Tree
entry_at es zero = None
entry_at es (suc n) = slice_get es n

-- whose it is, where it has the form of an entry
abbrev pub identity_of : Tree → Option (List ℕ)
identity_of e = option_map (λ (x : SignedEntry). x.entry.identity) (result_ok (entry_in e))

-- the intermediary whose entry is refused
abbrev pub refused_identity : List Tree → Refusal → Option (List ℕ)
refused_identity es (Receiving refusal) = None
refused_identity es Unasked = None
refused_identity es (OfEntry number refusal) = option_and_then identity_of (entry_at es number)
refused_identity es Screened = None

-- the report of a refusal, with the ids of the document's metadata
abbrev pub report_with : Refusal → Result Received (List ℕ) → Option Tree
report_with refusal (Ok parts) =
    option_map report_tree (report_for (telling refusal).number (refused_identity parts.entries refusal) parts.context parts.message)
report_with refusal (Err member) = None

abbrev pub report_on : Tree → Refusal → Option Tree
report_on t refusal = report_with refusal (received t)
