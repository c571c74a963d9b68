-- Why a line of a script is refused (this project's own).
use Rattle.std.specs.Prelude.{ℕ, List, Option}
use Rattle.spec_documents.specs.Tree.{Tree}
use Rattle.spec_messages.specs.Message.{Member}
use Rattle.spec_messages.specs.Limits.{Limit}
use Rattle.spec_exchange.specs.AcceptRefusals as accepting
use Rattle.spec_exchange.specs.SendingRefusals as sending
use Rattle.spec_exchange.specs.Outside.{Fault, Cause, Own, Outside}
use Rattle.spec_handshake.specs.Refusals as handshake

pub data Refusal : Type 0 where
  -- no JSON value in UTF-8 that nests at most 127 deep
  Syntax : Refusal
  -- a number that is no whole number of 64 bits
  OtherNumber : Refusal
  -- the first member that is missing or has not its form
  BadEvent : (member : List ℕ) → Refusal
  NodeUnknown : Refusal
  NodeExists : Refusal
  WireUnknown : Refusal
  -- there is too much of this
  Beyond : (limit : Limit) → Refusal
  KeysTwice : Refusal
  -- the node has no open context of that id to hand keys to
  ContextNotFound : Refusal
  -- the first member that keeps the document from being a message
  BadMessage : (member : Member) → Refusal
  -- a message's body is deeper than 64
  DeepBody : Refusal
  -- the number of the first bad mapping, from 1, or 0 where the rest of the policy is bad
  BadPolicy : (mapping : ℕ) → Refusal
  ContextUsed : Refusal
  -- the first member that keeps a document from being passed on
  BadForm : (member : List ℕ) → Refusal
  -- the document is of no report
  BadReport : Refusal
  -- of sending, of receiving with the document of its report, and of the outside
  OfSending : (refusal : sending.Refusal) → Refusal
  OfReceiving : (refusal : accepting.Refusal) (report : Option Tree) → Refusal
  OfOutside : (fault : Fault) → Refusal
  -- of a call of the handshake
  OfHandshake : (refusal : handshake.Refusal) → Refusal
  SignerFailed : Refusal

-- why a call comes to nothing, as a refusal of its event
abbrev pub of_cause : {R : Type 0} → (R → Refusal) → Cause R → Refusal
of_cause own (Own refusal) = own refusal
of_cause own (Outside fault) = OfOutside fault
