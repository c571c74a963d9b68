-- Events and states of worked examples.
use Rattle.std.specs.Prelude.{ℕ, zero, suc, List, [], ◌∷◌, ◌++◌, Bool, true, false, Option, Some, None, codes}
use Rattle.spec_documents.specs.Tree.{Tree, null, words, items, members, object, trees}
use Rattle.spec_records.specs.Records.{Record, A128Gcm, Opened, Keyed}
use Rattle.spec_records.specs.RecordRows.{context_with, keys_from}
use Rattle.spec_exchange.specs.EntryChecks.{Claim, Verifying, by_meaning}
use Rattle.spec_exchange.specs.Screens.{Passes}
use Rattle.spec_exchange.specs.Outside.{Choice, Read, BadRecord, Kept, Lost, KeptUntold, no_fault}
use Rattle.spec_sealing.specs.Jws.{Hs256}
use Rattle.spec_script.specs.Choices.{Signer, Signs, SignerFails, Choices}
use Rattle.spec_reports.specs.Report.{Report, IntegrityCheckFailed}
use Rattle.spec_script.specs.Events.{HandedContext, Event}
use Rattle.spec_script.specs.Steps.{State, Step, step}

-- ---- documents

abbrev pub of_members : List (List ℕ × Tree) → Tree
of_members ms = members (object ms)

abbrev pub named : List ℕ → List (List ℕ × Tree) → Tree
named name ms = of_members ((codes "do", words name) ∷ ms)

abbrev pub node_fields : List (List ℕ × Tree)
node_fields = (codes "node", words (codes "A")) ∷ (codes "plmn", words (codes "00101")) ∷ []

-- a policy without mappings
abbrev pub policy_document : Tree
policy_document = of_members ((codes "apiIeMappingList", items (trees [])) ∷ [])

abbrev pub context_fields : List (List ℕ × Tree)
context_fields =
    (codes "node", words (codes "A"))
    ∷ (codes "id", words (codes "00000000000000a1"))
    ∷ (codes "peer_node", words (codes "B"))
    ∷ (codes "peer", words (codes "00000000000000b1"))
    ∷ (codes "plmn", words (codes "00102"))
    ∷ (codes "suite", words (codes "A128GCM"))
    ∷ (codes "policy", policy_document)
    ∷ (codes "own_ipx", items (trees (words (codes "ipx-a") ∷ []))) ∷ []

abbrev pub peer_ipx_field : List ℕ × Tree
peer_ipx_field = (codes "peer_ipx", items (trees []))

abbrev pub handed_with : Tree → HandedContext
handed_with policy = record { node = codes "A"; id = 161; peer_node = codes "B"; peer = 177; plmn = codes "00102"; suite = A128Gcm; policy = policy; own_ipx = codes "ipx-a" ∷ []; peer_ipx = [] }

abbrev pub one_key : List ℕ → Tree
one_key digits = of_members ((codes "key", words digits) ∷ (codes "salt", words (codes "A0a1a2a3a4a5a6a7")) ∷ [])

abbrev pub key_digits : List ℕ
key_digits = codes "000102030405060708090A0B0c0d0e0f"

abbrev pub key_pair : List ℕ → Tree
key_pair digits = of_members ((codes "request", one_key key_digits) ∷ (codes "response", one_key digits) ∷ [])

abbrev pub keys_fields : List ℕ → List (List ℕ × Tree)
keys_fields digits = (codes "node", words (codes "A")) ∷ (codes "id", words (codes "00000000000000A1")) ∷ (codes "receive", key_pair key_digits) ∷ (codes "send", key_pair digits) ∷ []

-- an operation that removes the member `none`
abbrev pub patch_row : Tree
patch_row = of_members ((codes "op", words (codes "remove")) ∷ (codes "path", words (codes "/none")) ∷ [])

-- ---- messages

abbrev pub request_document : List (List ℕ × Tree) → Tree
request_document more = of_members ((
  codes "requestLine",
  of_members (
      (codes "method", words (codes "GET"))
      ∷ (codes "scheme", words (codes "https"))
      ∷ (codes "authority", words (codes "udm.example"))
      ∷ (codes "path", words (codes "/nudm-sdm"))
      ∷ (codes "protocolVersion", words (codes "HTTP/2")) ∷ []),
) ∷ more)

abbrev pub nested : ℕ → Tree
nested zero = null
nested (suc n) = items (trees (nested n ∷ []))

-- ---- reports

abbrev pub report_fields : List (List ℕ × Tree)
report_fields =
    (codes "n32fContextId", words (codes "00000000000000b1"))
    ∷ (codes "n32fErrorType", words (codes "INTEGRITY_CHECK_FAILED"))
    ∷ (codes "n32fMessageId", words (codes "0000000000000000")) ∷ []

-- of an entry that is refused, with nobody's name and with one
abbrev pub bare_entry_fields : List (List ℕ × Tree)
bare_entry_fields =
    (codes "n32fContextId", words (codes "00000000000000b1"))
    ∷ (codes "n32fErrorType", words (codes "INTEGRITY_CHECK_ON_MODIFICATIONS_FAILED"))
    ∷ (codes "n32fMessageId", words (codes "0000000000000000")) ∷ []

abbrev pub entry_report_fields : List (List ℕ × Tree)
entry_report_fields = (
  codes "failedModificationList",
  items (trees (of_members (
      (codes "ipxId", words (codes "ipx-a"))
      ∷ (codes "n32fErrorType", words (codes "INTEGRITY_CHECK_ON_MODIFICATIONS_FAILED")) ∷ []) ∷ [])),
) ∷ bare_entry_fields

abbrev pub row_report : Option (List ℕ) → Report
row_report entry = record { context = 177; message = 0; error = IntegrityCheckFailed; entry = entry }

-- ---- states: the nodes A and B, and one document on the wire

abbrev pub holding : List Record → State
holding records = record {
  sites = record { node = codes "A"; plmn = codes "00101" } ∷ record { node = codes "B"; plmn = codes "00102" } ∷ [];
  wire = null ∷ [];
  records = records;
  starts = [];
}

-- the nodes A and B, and these documents on the wire
abbrev pub wired : List Tree → State
wired ts = record {
  sites = record { node = codes "A"; plmn = codes "00101" } ∷ record { node = codes "B"; plmn = codes "00102" } ∷ [];
  wire = ts;
  records = [];
  starts = [];
}

abbrev pub opened : List Record
opened = Opened (context_with (codes "B")) ∷ []

abbrev pub keyed : List Record
keyed = opened ++ Keyed (codes "A") 161 (keys_from 3) ∷ []

-- a signer whose signature is the identity and what is signed
abbrev pub row_signer : Signer
row_signer = record { algorithm = Hs256; sign = λ identity input. identity ++ input }

-- a verifier that takes each signature, and one that fails at the first entry
abbrev pub takes_all : Claim → Bool
takes_all claim = true

abbrev pub fails_first : Verifying
fails_first = by_meaning takes_all (Some 1)

abbrev pub by_keeper : Choice → Choices
by_keeper choice = record { keeper = choice; signer = Signs row_signer; verifier = by_meaning takes_all None }

abbrev pub well : Choices
well = by_keeper no_fault

abbrev pub unsigned : Choices
unsigned = record well { signer = SignerFails }

abbrev pub unverified : Choices
unverified = record well { verifier = fails_first }

abbrev pub lost : Choices
lost = by_keeper (record { reading = Read; putting = Lost })

abbrev pub untold : Choices
untold = by_keeper (record { reading = Read; putting = KeptUntold })

abbrev pub bad_record : Choices
bad_record = by_keeper (record { reading = BadRecord 2; putting = Kept })

-- a screen that passes every message
abbrev pub passes_all : Passes
passes_all m plmn = true

-- and one that passes none
abbrev pub passes_none : Passes
passes_none m plmn = false

abbrev pub row_step : State → Choices → Event → Step
row_step s f e = step passes_all s f e
