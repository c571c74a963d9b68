-- The documents of worked examples: the entries of what B receives of A, and what A receives of B.
use Rattle.std.specs.Prelude.{ℕ, List, [], ◌∷◌, ◌++◌, Some, None, Result, codes}
use Rattle.spec_documents.specs.Tree.{Tree}
use Rattle.spec_messages.specs.Message.{of_request, of_response}
use Rattle.spec_messages.specs.Split.{cleared}
use Rattle.spec_records.specs.Records.{Record, Sent, Delivered}
use Rattle.spec_sealing.specs.Jws.{Hs256}
use Rattle.spec_sealing.specs.Entries.{SignedEntry}
use Rattle.spec_sealing.specs.Jwe.{Jwe}
use Rattle.spec_sealing.specs.Received.{Received}
use Rattle.spec_exchange.specs.AcceptRefusals.{Refusal}
use Rattle.spec_exchange.specs.Stages.{Delivery}
use Rattle.spec_exchange.specs.Rows.{slices_policy, slices_request, keyed_both, hidden_block, all_pass, always}
use Rattle.spec_exchange.specs.EntryChecks.{Signed, Terms, Progress}
use Rattle.spec_exchange.specs.Accepting.{first_failed_of}

-- ---- an entry

-- what all entries go by in a document with this tag, with one intermediary on each side
abbrev pub terms : (tag : List ℕ) → Terms
terms tag = record { policy = slices_policy; mapping = Some 0; values = 1; tag = tag; route = codes "ipx-a" ∷ codes "ipx-b" ∷ [] }

abbrev pub signed_by : (identity tag : List ℕ) → SignedEntry
signed_by identity tag = record {
  jws = record { protected = codes "h"; payload = codes "p"; algorithm = Hs256; signature = [] };
  entry = record { identity = identity; operations = None; tag = tag };
}

-- the block of the request, before any entry
abbrev pub untouched : Progress
untouched = record { identities = []; block = hidden_block; holed = cleared slices_policy (Some 0) slices_request }

-- after entries of these identities that changed nothing
abbrev pub passed_on_by : List (List ℕ) → Progress
passed_on_by identities = record untouched { identities = identities }

-- ---- a response at A

abbrev pub answer_of_b : Jwe → (block : Tree) → Received
answer_of_b w block = record { jwe = w; block = block; context = 161; message = 3; authorized = codes "ipx-b"; kind = of_response; entries = [] }

-- A sent request 3, and has its response
abbrev pub asked_a : List Record
asked_a = keyed_both 0 ++ Sent (codes "A") 161 of_request 3 3 (Some 0) ∷ []

abbrev pub answered_a : List Record
answered_a = keyed_both 0 ++ Delivered (codes "A") 161 of_response 3 (Some 0) ∷ []

-- response 3 of B
abbrev pub told_at_a : List Record → Jwe → (block : Tree) → Result Delivery Refusal
told_at_a rs w block = first_failed_of all_pass (always Signed) rs (codes "A") (answer_of_b w block)
