-- The offer, the document and the start of the definitions that a value of the program is.
use Rattle.std.specs.Prelude.{map}
use Rattle.jwe_flat.specs.View.{suite_view}
use Rattle.spec_handshake.specs.Documents as documents
use Rattle.spec_handshake.specs.Starts as starts
use Rattle.n32c_handshake.specs.declared.capability.Capability.{Capability}
use Rattle.n32c_handshake.specs.declared.capability.Capability.TheVariants as capabilities
use Rattle.n32c_handshake.specs.declared.offer.Offer.{Offer}
use Rattle.n32c_handshake.specs.declared.starts.Waiting.{Waiting}
use Rattle.n32c_handshake.specs.declared.starts.Waiting.TheVariants as waiting
use Rattle.n32c_handshake.specs.declared.starts.Start.{Start}
use Rattle.n32c_handshake.specs.declared.document.Ask.{Ask}
use Rattle.n32c_handshake.specs.declared.document.Selection.{Selection}
use Rattle.n32c_handshake.specs.declared.document.HandDocument.{HandDocument}
use Rattle.n32c_handshake.specs.declared.document.HandDocument.TheVariants.{Supports, Chooses, Asks, Selects, Terminates, Terminated}

abbrev pub capability_view : Capability → documents.Capability
capability_view capabilities.Prins = documents.Prins
capability_view capabilities.Tls = documents.Tls

abbrev pub offer_view : Offer → starts.Offer
offer_view o = record { id = o.id.value; capabilities = map capability_view o.capabilities; suites = map suite_view o.suites; policy = o.policy; ipx = o.ipx }

abbrev pub ask_view : Ask → documents.Ask
ask_view a = record { call = a.call.value; sender = a.sender; id = a.id.value; plmn = a.plmn; suites = map suite_view a.suites; policy = a.policy; ipx = a.ipx }

abbrev pub selection_view : Selection → documents.Selection
selection_view b = record { call = b.call.value; sender = b.sender; id = b.id.value; plmn = b.plmn; suite = suite_view b.suite; policy = b.policy; ipx = b.ipx }

abbrev pub document_view : HandDocument → documents.Document
document_view (Supports call sender capabilities) = documents.Supports call.value sender (map capability_view capabilities)
document_view (Chooses call sender capability) = documents.Chooses call.value sender (capability_view capability)
document_view (Asks a) = documents.Asks (ask_view a)
document_view (Selects b) = documents.Selects (selection_view b)
document_view (Terminates id) = documents.Terminates id.value
document_view (Terminated id) = documents.Terminated id.value

abbrev pub waiting_view : Waiting → starts.Waiting
waiting_view waiting.ForChoice = starts.ForChoice
waiting_view waiting.ForSelection = starts.ForSelection

abbrev pub start_view : Start → starts.Start
start_view s = record { node = s.node; peer = s.peer; offer = offer_view s.offer; waiting = waiting_view s.waiting }
