-- What is kept of a context says what its records say (this project's own).
use Rattle.std.specs.Prelude.{◌≡◌, ℕ, Bool, false, List, slice_get, Option, Some, None, is_some, option_map, if◌then◌else◌}
use Rattle.spec_messages.specs.Message.{of_request, of_response}
use Rattle.spec_records.specs.Records as spec
use Rattle.spec_records.specs.Records.{Record, Offered, Opened, Keyed, Sent, Delivered, Closed, KeySet, Context, keys_fit}
use Rattle.id_runs.specs.Runs.{entry_of}
use Rattle.context_cache.specs.Known.{Known}
use Rattle.context_cache.specs.Tables.{Kept, known_at}
use Rattle.context_cache.specs.declared.fact.Fact.{Fact}
use Rattle.context_cache.specs.declared.fact.Fact.TheVariants as tells

-- ---- the fact that one more record tells

-- the keys fit the suite that the context was opened with
abbrev pub fits_opening : Option Context → KeySet → Bool
fits_opening None k = false
fits_opening (Some x) k = keys_fit x.suite k

-- the first opened record is given, if there is one
abbrev pub fact_of : Option Context → Record → Fact
fact_of x (Offered n i) = tells.Offered
fact_of x (Opened y) = tells.Opened
fact_of x (Keyed n i k) = if fits_opening x k then tells.Keyed else tells.Nothing
fact_of x (Sent n i of_request s m p) = tells.SentRequest s m p
fact_of x (Sent n i of_response s m p) = tells.SentResponse s m p
fact_of x (Delivered n i of_request m p) = tells.DeliveredRequest m p
fact_of x (Delivered n i of_response m p) = tells.DeliveredResponse m p
fact_of x (Closed n i) = tells.Closed

-- ---- what is kept, and the questions

abbrev pub keyed_set : Record → Option KeySet
keyed_set (Keyed n i k) = Some k
keyed_set _ = None

abbrev pub held_in : {X : Type 0} → (Record → Option X) → Option Record → Option X
held_in f None = None
held_in f (Some r) = f r

-- what the record of this number holds
abbrev pub held_at : {X : Type 0} → (Record → Option X) → List Record → Option ℕ → Option X
held_at f records None = None
held_at f records (Some n) = held_in f (slice_get records n)

pub record IsKnown (node : List ℕ) (id : ℕ) (records : List Record) (k : Known) : Type 0 where
  pub used : k.used ≡ spec.used node id records
  pub opened : held_at spec.opened_context records k.opened ≡ spec.opening node id records
  pub opens : is_some k.opened ≡ is_some (spec.opening node id records)
  pub closed : k.closed ≡ spec.closed node id records
  pub keyed : held_at keyed_set records k.keyed ≡ spec.keys node id records
  pub keys : is_some k.keyed ≡ is_some (spec.keys node id records)
  pub sent_request : k.sent_request ≡ spec.greatest_sent of_request (spec.own node id records)
  pub sent_response : k.sent_response ≡ spec.greatest_sent of_response (spec.own node id records)
  pub mapping_sent : (m : ℕ) → option_map (λ e. e.mapping) (entry_of m k.sent_requests) ≡ spec.mapping_sent node id m records
  pub answered : (m : ℕ) → is_some (entry_of m k.sent_responses) ≡ spec.answered node id m records
  pub mapping_delivered : (m : ℕ) → option_map (λ e. e.mapping) (entry_of m k.delivered_requests) ≡ spec.mapping_delivered node id m records
  pub delivered_request : (m : ℕ) → option_map (λ e. e.number) (entry_of m k.delivered_requests) ≡ spec.delivered_at node id of_request m records
  pub delivered_response : (m : ℕ) → option_map (λ e. e.number) (entry_of m k.delivered_responses) ≡ spec.delivered_at node id of_response m records

-- the table answers what the records do, of every context
abbrev pub IsMirror : List Kept → List Record → Type 0
IsMirror kept records = (node : List ℕ) (id : ℕ) → IsKnown node id records (known_at node id kept)
