-- What a receiving SEPP answers to any document, of a request or a response, with entries or without: the first check that fails, or the message to deliver (after TS 33.501 clause 13.2.4.6; the order is this project's own).
use Rattle.std.specs.Prelude.{ℕ, List, [], length, not, Option, Result, Ok, unwrap_or}
use Rattle.spec_documents.specs.Tree.{Tree}
use Rattle.spec_messages.specs.Message.{Message}
use Rattle.spec_messages.specs.Split.{fill_whole}
use Rattle.spec_records.specs.Records.{Context, Record}
use Rattle.spec_sealing.specs.Received.{Received, received}
use Rattle.spec_sealing.specs.Passing.{tag_text}
use Rattle.spec_sealing.specs.Plaintext.{values_of}
use Rattle.spec_exchange.specs.Chain.{◌>>=◌, unless, or_refused}
use Rattle.spec_exchange.specs.ReceivingRefusals as receiving
use Rattle.spec_exchange.specs.ReceivingRefusals.{Form}
use Rattle.spec_exchange.specs.AcceptRefusals.{Refusal, Receiving, Screened}
use Rattle.spec_exchange.specs.Route.{route}
use Rattle.spec_exchange.specs.Asked.{asked_for, mapping_by}
use Rattle.spec_exchange.specs.EntryChecks.{Verifying, Terms, entries_applied}
use Rattle.spec_exchange.specs.Screens.{Passes}
use Rattle.spec_exchange.specs.Stages as stages
use Rattle.spec_exchange.specs.Stages.{Delivery, key_for, delivery_at}

-- ---- stages

-- a stage of the checks, as one of all
abbrev pub stage : {A : Type 0} → Result A receiving.Refusal → Result A Refusal
stage r = or_refused Receiving r

abbrev pub formed : Tree → Result Received Refusal
formed t = stage (or_refused Form (received t))

-- the intermediaries on the way of a document under a context
abbrev pub route_of : Context → Received → List (List ℕ)
route_of x d = route d.authorized x.peer_ipx x.own_ipx

-- what is sealed in the plaintext, where it is a list of values
abbrev pub sealed_values : (plain : List ℕ) → List Tree
sealed_values plain = unwrap_or (values_of plain) []

-- what the entries of a document go by
abbrev pub terms_of : Context → Received → (mapping : Option ℕ) → (values : List Tree) → Terms
terms_of x d mapping values = record { policy = x.policy; mapping = mapping; values = length values; tag = tag_text d.jwe; route = route_of x d }

-- the screen passes the message of a peer
abbrev pub is_passed : Passes → Context → Message → Result (Unit {0}) Refusal
is_passed passes x m = unless (not (passes m x.plmn)) Screened

-- ---- the stages in their order

-- the checks of a document of the form
abbrev pub first_failed_of : Passes → Verifying → List Record → (node : List ℕ) → Received → Result Delivery Refusal
first_failed_of passes v records node d = do
  c ← stage (stages.keyed_context records node d.context)
  plain ← stage (stages.opens (key_for d.kind c) d.jwe)
  _ ← stage (stages.is_first records node d.context d.kind d.message)
  by ← asked_for records node d.context d.kind d.message
  m ← stage (stages.rebuilt d.block plain)
  let mapping : Option ℕ = mapping_by by c.context.policy m.content
  _ ← stage (stages.is_sealed c.context.policy mapping m)
  p ← entries_applied (terms_of c.context d mapping (sealed_values plain)) v d.block m.holed d.entries
  let content : Message = fill_whole (sealed_values plain) p.holed
  _ ← is_passed passes c.context content
  _ ← stage (stages.has_room records)
  Ok (delivery_at node d mapping content)

abbrev pub first_failed : Passes → Verifying → List Record → (node : List ℕ) → Tree → Result Delivery Refusal
first_failed passes v records node t = formed t >>= λ d. first_failed_of passes v records node d
