-- Parts of the steps of contexts and keys that are handed in.
use Rattle.std.specs.Prelude.{ℕ, List, not, is_some, Result, Ok, codes}
use Rattle.spec_messages.specs.Message.{wanted}
use Rattle.spec_records.specs.Records.{KeySet, Context, Record, Opened, Keyed, keys_fit, used, open_context, keys}
use Rattle.spec_exchange.specs.Chain.{◌>>=◌, unless}
use Rattle.spec_exchange.specs.Outside.{Choice}
use Rattle.spec_script.specs.Refusals.{Refusal, BadEvent, KeysTwice, ContextNotFound, ContextUsed}
use Rattle.spec_script.specs.Events.{HandedContext}
use Rattle.spec_script.specs.Steps.{State, Step, or_refuses, policy_to_hold, context_with, room_for_record, puts}

-- the context that is handed in, where its policy has its form
abbrev pub context_to_open : HandedContext → Result Context Refusal
context_to_open x = policy_to_hold x.policy >>= λ policy. Ok (context_with x policy)

-- the record is put, where there is room for it
abbrev pub puts_record : List ℕ → Record → State → Choice → Step
puts_record name r s f = or_refuses s (room_for_record s >>= λ _. Ok (puts s f.putting name r))

-- the context is opened, where its id isn't used
abbrev pub opens_new : Context → State → Choice → Step
opens_new x s f = or_refuses s (unless (used x.node x.id s.records) ContextUsed >>= λ _. room_for_record s >>= λ _. Ok (puts s f.putting (codes "context") (Opened x)))

-- keys may be handed in, over these records
abbrev pub keys_may_come : List Record → (node : List ℕ) → (id : ℕ) → KeySet → Result (Unit {0}) Refusal
keys_may_come records node id set = do
  x ← wanted (open_context node id records) ContextNotFound
  _ ← unless (is_some (keys node id records)) KeysTwice
  unless (not (keys_fit x.suite set)) (BadEvent (codes "key"))

-- the keys are recorded, where they may be handed in
abbrev pub keys_new : (node : List ℕ) → (id : ℕ) → KeySet → State → Choice → Step
keys_new node id set s f = or_refuses s (keys_may_come s.records node id set >>= λ _. room_for_record s >>= λ _. Ok (puts s f.putting (codes "keys") (Keyed node id set)))
