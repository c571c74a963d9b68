-- What is kept of messages of one kind (this project's own).
use Rattle.std.specs.Prelude.{ℕ, Option, option_map}
use Rattle.spec_messages.specs.Message.{Kind, of_request, of_response}
use Rattle.id_runs.specs.Runs.{entry_of}
use Rattle.context_cache.specs.Known.{Known}

-- the greatest number that was sent
abbrev pub greatest_of : Kind → Known → Option ℕ
greatest_of of_request k = k.sent_request
greatest_of of_response k = k.sent_response

-- the number of the first record of the delivery
abbrev pub delivery_of : Kind → ℕ → Known → Option ℕ
delivery_of of_request m k = option_map (λ e. e.number) (entry_of m k.delivered_requests)
delivery_of of_response m k = option_map (λ e. e.number) (entry_of m k.delivered_responses)
