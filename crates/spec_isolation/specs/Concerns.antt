-- Which events of a script are of a context, named by a node and an id, and what they bring to it (this project's own).
use Rattle.std.specs.Prelude.{ℕ, Bool, false, ◌&&◌, is_some, List, Option, Some, None, option_and_then, bytes_eq}
use Rattle.spec_documents.specs.Tree.{Tree}
use Rattle.spec_messages.specs.Policy.{result_ok}
use Rattle.spec_records.specs.Records.{Record}
use Rattle.spec_sealing.specs.Received.{received}
use Rattle.spec_exchange.specs.Isolation.{received_id, is_id}
use Rattle.spec_handshake.specs.Documents.{Document, Supports, Chooses, Asks, Selects, Terminates, Terminated, document_of}
use Rattle.spec_script.specs.Events.{Event, AddNode, AddContext, AddKeys, Send, Pass, Inject, Alter, Deliver, Restart, Reported, StartWith, AnswerTo, FinishBy, Terminate, EndBy}
use Rattle.spec_script.specs.Steps.{State, Step, plmn_at, wire_at}

-- ---- the context that a document names to whom it reaches

abbrev pub sealed_for : Tree → Option ℕ
sealed_for t = received_id (received t)

abbrev pub context_named : Document → Option ℕ
context_named (Supports call sender capabilities) = None
context_named (Chooses call sender capability) = Some call
context_named (Asks ask) = None
context_named (Selects selection) = Some selection.call
context_named (Terminates id) = Some id
context_named (Terminated id) = Some id

abbrev pub handed_for : Tree → Option ℕ
handed_for t = option_and_then context_named (result_ok (document_of t))

-- ---- events of a context

-- n is a known node, and this one, and its id is this one
abbrev pub names : List ℕ → ℕ → State → (n : List ℕ) → Option ℕ → Bool
names node id s n i = is_some (plmn_at s.sites n) && (bytes_eq n node && is_id i id)

-- the event is of the context
abbrev pub concerns : List ℕ → ℕ → State → Event → Bool
concerns node id s (AddNode n plmn) = false
concerns node id s (AddContext x) = names node id s x.node (Some x.id)
concerns node id s (AddKeys n i keys) = names node id s n (Some i)
concerns node id s (Send n i message answers) = names node id s n (Some i)
concerns node id s (Pass ipx number operations) = false
concerns node id s (Inject document) = false
concerns node id s (Alter number operations) = false
concerns node id s (Deliver n number) = names node id s n (option_and_then sealed_for (wire_at s.wire number))
concerns node id s (Restart n) = false
concerns node id s (Reported n document) = false
concerns node id s (StartWith n peer offer) = names node id s n (Some offer.id)
concerns node id s (AnswerTo n number offer) = names node id s n (Some offer.id)
concerns node id s (FinishBy n number) = names node id s n (option_and_then handed_for (wire_at s.wire number))
concerns node id s (Terminate n i) = names node id s n (Some i)
concerns node id s (EndBy n number) = names node id s n (option_and_then handed_for (wire_at s.wire number))

-- ---- what they bring

pub data Brought : Type 0 where
  -- a message to send, and the id of the request that it answers
  ToSend : (message : Tree) (answers : Option ℕ) → Brought
  -- the document that reaches the node
  Arrives : (document : Tree) → Brought
  -- the record, where there is one, that any other event makes
  Makes : (item : Option Record) → Brought

abbrev pub arrival : Option Tree → Brought
arrival None = Makes None
arrival (Some t) = Arrives t

-- what an event of the context brings, with the step that it comes to
abbrev pub brought : State → Event → Step → Brought
brought s (Send n i message answers) r = ToSend message answers
brought s (Deliver n number) r = arrival (wire_at s.wire number)
brought s _ r = Makes r.put
