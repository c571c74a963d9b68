-- What a message was asked for by, and so the mapping that it goes by (this project's own): a request by its own head, a response by what was recorded of the request that it answers.
use Rattle.std.specs.Prelude.{ℕ, List, Option, Result, Ok}
use Rattle.spec_messages.specs.Message.{Message, Kind, of_request, of_response, wanted}
use Rattle.spec_messages.specs.Policy.{Policy}
use Rattle.spec_messages.specs.HeadMapping.{mapping_of_head}
use Rattle.spec_records.specs.Records.{Record, mapping_sent}
use Rattle.spec_exchange.specs.Chain.{◌>>=◌}
use Rattle.spec_exchange.specs.AcceptRefusals.{Refusal, Unasked}

pub data MappedBy : Type 0 where
  ItsHead : MappedBy
  ItsRequest : (mapping : Option ℕ) → MappedBy

-- a response answers a request that the context sent
abbrev pub asked_for : List Record → (node : List ℕ) → (id : ℕ) → Kind → (message : ℕ) → Result MappedBy Refusal
asked_for records node id of_request message = Ok ItsHead
asked_for records node id of_response message = do
  mapping ← wanted (mapping_sent node id message records) Unasked
  Ok (ItsRequest mapping)

-- found once, from the message before any entry
abbrev pub mapping_by : MappedBy → Policy → Message → Option ℕ
mapping_by ItsHead policy m = mapping_of_head policy m.head
mapping_by (ItsRequest mapping) policy m = mapping
