-- What is kept of one context, and how one more record adds to it (this project's own).
use Rattle.std.specs.Prelude.{ℕ, Bool, true, false, List, [], Option, Some, None}
use Rattle.std.specs.Option.{option_or}
use Rattle.spec_records.specs.Records.{greater}
use Rattle.id_runs.specs.Runs.{with_entry}
use Rattle.id_runs.specs.declared.run_list.Entry.{Entry}
use Rattle.context_cache.specs.declared.fact.Fact.{Fact}
use Rattle.context_cache.specs.declared.fact.Fact.TheVariants.{Offered, Opened, Keyed, SentRequest, SentResponse, DeliveredRequest, DeliveredResponse, Closed, Nothing}

-- an opened record and the keys are known by their records' numbers
pub record Known : Type 0 where
  pub used : Bool
  pub opened : Option ℕ
  pub closed : Bool
  pub keyed : Option ℕ
  pub sent_request : Option ℕ
  pub sent_response : Option ℕ
  pub sent_requests : List (ℕ × Entry)
  pub sent_responses : List (ℕ × Entry)
  pub delivered_requests : List (ℕ × Entry)
  pub delivered_responses : List (ℕ × Entry)

abbrev pub nothing_known : Known
nothing_known = record {
  used = false;
  opened = None;
  closed = false;
  keyed = None;
  sent_request = None;
  sent_response = None;
  sent_requests = [];
  sent_responses = [];
  delivered_requests = [];
  delivered_responses = [];
}

abbrev pub entry : ℕ → Option ℕ → Entry
entry n p = record { number = n; mapping = p }

-- the record of this number tells one more fact
abbrev pub noted : ℕ → Fact → Known → Known
noted n Offered k = record k { used = true }
noted n Opened k = record k { used = true; opened = option_or k.opened (Some n) }
noted n Keyed k = record k { keyed = option_or k.keyed (Some n) }
noted n (SentRequest s m p) k = record k { sent_request = greater k.sent_request (Some s); sent_requests = with_entry m (entry n p) k.sent_requests }
noted n (SentResponse s m p) k = record k { sent_response = greater k.sent_response (Some s); sent_responses = with_entry m (entry n p) k.sent_responses }
noted n (DeliveredRequest m p) k = record k { delivered_requests = with_entry m (entry n p) k.delivered_requests }
noted n (DeliveredResponse m p) k = record k { delivered_responses = with_entry m (entry n p) k.delivered_responses }
noted n Closed k = record k { closed = true }
noted n Nothing k = k
