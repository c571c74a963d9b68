-- What a run tells one context: the replies to its own calls (this project's own).
use Rattle.std.specs.Prelude.{ℕ, List, [], ◌∷◌, Result, Ok, Err, if◌then◌else◌, filter, Option, Some, None, Bool, false, ◌&&◌, ◌==◌, bytes_eq}
use Rattle.spec_records.specs.Records.{Record, is_of}
use Rattle.spec_exchange.specs.AcceptRefusals.{Refusal, Receiving}
use Rattle.spec_exchange.specs.Outside.{Cause, Own, Outside}
use Rattle.spec_exchange.specs.ReceivingRefusals.{Replay}
use Rattle.spec_exchange.specs.Screens.{Passes}
use Rattle.spec_exchange.specs.Runs.{Event, Reply, NotDelivered, reply_of, after, Call, Deliver, Send, Puts}
use Rattle.spec_sealing.specs.Received.{Received, received}

-- a refusal but for the number of a replayed message's record
abbrev pub unnumbered : Refusal → Refusal
unnumbered (Receiving (Replay number)) = Receiving (Replay 0)
unnumbered e = e

abbrev pub unnumbered_cause : Cause Refusal → Cause Refusal
unnumbered_cause (Own e) = Own (unnumbered e)
unnumbered_cause (Outside fault) = Outside fault

abbrev pub unnumbered_reply : Reply → Reply
unnumbered_reply (NotDelivered e) = NotDelivered (unnumbered_cause e)
unnumbered_reply r = r

abbrev pub unnumbered_result : {T : Type 0} → Result T Refusal → Result T Refusal
unnumbered_result (Ok x) = Ok x
unnumbered_result (Err e) = Err (unnumbered e)

-- the context of a document that has the form
abbrev pub received_id : Result Received (List ℕ) → Option ℕ
received_id (Ok d) = Some d.context
received_id (Err e) = None

abbrev pub is_id : Option ℕ → ℕ → Bool
is_id None id = false
is_id (Some i) id = i == id

abbrev pub is_record_of : List ℕ → ℕ → Option Record → Bool
is_record_of node id None = false
is_record_of node id (Some r) = is_of node id r

-- the call is of this context: a document that names it, a message for it, or a record of it
abbrev pub concerns : List ℕ → ℕ → Call → Bool
concerns node id (Deliver n t) = bytes_eq n node && is_id (received_id (received t)) id
concerns node id (Send n i o content) = bytes_eq n node && (i == id)
concerns node id (Puts item) = is_record_of node id item

-- the context's own calls
abbrev pub own_events : List ℕ → ℕ → List Event → List Event
own_events node id events = filter (λ e. concerns node id e.1) events

-- the replies to them, in a run of all
abbrev pub own_replies : Passes → List ℕ → ℕ → List Record → List Event → List Reply
own_replies passes node id records [] = []
own_replies passes node id records (e ∷ es) =
    if concerns node id e.1 then reply_of passes records e.0 e.1 ∷ own_replies passes node id (after passes records e.0 e.1) es
    else own_replies passes node id (after passes records e.0 e.1) es
