-- What is sealed at one SEPP and not touched is delivered at another that is ready (this project's own).
use Rattle.std.specs.Prelude.{◌≡◌, ⊤, ℕ, List, Option, Some, None, Ok}
use Rattle.spec_documents.specs.Tree.{Tree}
use Rattle.spec_documents.specs.Document.{IsDocument}
use Rattle.spec_messages.specs.Message.{Message}
use Rattle.spec_records.specs.Records.{KeySet, Context, Record, open_context, keys}
use Rattle.spec_exchange.specs.Calls.{Outgoing, Sealed, protected}
use Rattle.spec_exchange.specs.Untouched.{shipment, IsReady, delivery_of}
use Rattle.spec_exchange.specs.Screens.{Passes}
use Rattle.spec_exchange.specs.EntryChecks.{Verifying}
use Rattle.spec_exchange.specs.Accepting.{first_failed}

-- whatever the screen and the verifier: the document that is answered to the message over these records is delivered as this message at each node that is ready for it
abbrev pub IsDeliveredUntouched : (there : List Record) (node : List ℕ) (id : ℕ) → Outgoing → Message → Type 0
IsDeliveredUntouched there node id o m = (passes : Passes) (v : Verifying) (here : List Record) (peer : List ℕ) (s : Sealed) (x : Context) (k : KeySet)
    → protected there node id o m ≡ Ok s → open_context node id there ≡ Some x → keys node id there ≡ Some k
    → IsReady passes (shipment x k o m s) peer here
    → first_failed passes v here peer s.document ≡ Ok (delivery_of (shipment x k o m s) peer)

-- a body that is there is a document
abbrev pub IsBodyDocument : Option Tree → Type 0
IsBodyDocument None = ⊤
IsBodyDocument (Some t) = IsDocument t
