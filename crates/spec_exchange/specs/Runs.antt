-- Runs of calls at many nodes, over the records that one keeper holds (this project's own).
use Rattle.std.specs.Prelude.{ℕ, Bool, false, ◌&&◌, ◌==◌, List, [], ◌∷◌, Option, Result, Ok, Err, bytes_eq}
use Rattle.spec_messages.specs.Message.{Kind, Message}
use Rattle.spec_records.specs.Records.{same_kind, Record}
use Rattle.spec_exchange.specs.AcceptRefusals as accepting
use Rattle.spec_exchange.specs.SendingRefusals as sending
use Rattle.spec_exchange.specs.Stages.{Delivery}
use Rattle.spec_exchange.specs.Outside.{Cause, with_put}
use Rattle.spec_exchange.specs.Calls.{Sealed, sends, Outgoing, Choices, accepted}
use Rattle.spec_exchange.specs.Screens.{Passes}
use Rattle.spec_documents.specs.Tree.{Tree}

-- a call of an event. Any other event that puts a record is Puts
pub data Call : Type 0 where
  Deliver : (node : List ℕ) (document : Tree) → Call
  Send : (node : List ℕ) (id : ℕ) (outgoing : Outgoing) (content : Message) → Call
  Puts : (item : Option Record) → Call

-- a call, and what the outside comes to in it
abbrev pub Event : Type 0
Event = Choices × Call

pub data Reply : Type 0 where
  Told : (delivery : Delivery) → Reply
  Made : (sealed : Sealed) → Reply
  NotDelivered : (cause : Cause accepting.Refusal) → Reply
  NotSent : (cause : Cause sending.Refusal) → Reply
  Other : Reply

abbrev pub told : Result Delivery (Cause accepting.Refusal) → Reply
told (Ok d) = Told d
told (Err e) = NotDelivered e

abbrev pub made : Result Sealed (Cause sending.Refusal) → Reply
made (Ok s) = Made s
made (Err e) = NotSent e

-- what a call answers, and the record that is held more
abbrev pub reply_of : Passes → List Record → Choices → Call → Reply
reply_of passes records f (Deliver node t) = told (accepted passes f records node t).result
reply_of passes records f (Send node id o content) = made (sends f.keeper records node id o content).result
reply_of passes records f (Puts item) = Other

abbrev pub put_of : Passes → List Record → Choices → Call → Option Record
put_of passes records f (Deliver node t) = (accepted passes f records node t).put
put_of passes records f (Send node id o content) = (sends f.keeper records node id o content).put
put_of passes records f (Puts item) = item

abbrev pub after : Passes → List Record → Choices → Call → List Record
after passes records f call = with_put records (put_of passes records f call)

-- the replies of a run, in order
abbrev pub replies : Passes → List Record → List Event → List Reply
replies passes records [] = []
replies passes records (e ∷ es) = reply_of passes records e.0 e.1 ∷ replies passes (after passes records e.0 e.1) es

-- the reply delivers this message
abbrev pub delivers : List ℕ → ℕ → Kind → ℕ → Reply → Bool
delivers node id kind message (Told d) = bytes_eq d.node node && ((d.id == id) && (same_kind d.kind kind && (d.message == message)))
delivers node id kind message _ = false

-- the reply is a document of this number
abbrev pub numbers : List ℕ → ℕ → Kind → ℕ → Reply → Bool
numbers node id kind seq (Made s) = bytes_eq s.node node && ((s.id == id) && (same_kind s.kind kind && (s.seq == seq)))
numbers node id kind seq _ = false
