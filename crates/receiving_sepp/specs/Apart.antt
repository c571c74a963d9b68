-- What accepting a document comes to for the context that the document names: what that context's own records alone come to (this project's own).
use Rattle.std.specs.Prelude.{◌≡◌, ⊤, ℕ, List, Bool, Option, Result, Err}
use Rattle.spec_documents.specs.Tree.{Tree}
use Rattle.spec_records.specs.Records.{Record, node_of, context_of, own}
use Rattle.context_store.specs.Stores.{Stored}
use Rattle.context_store.specs.Changes.{CallBy}
use Rattle.context_store.specs.declared.call_faults.CallFault.{CallFault}
use Rattle.context_store.specs.declared.call_faults.CallFault.TheVariants as accepting
use Rattle.spec_exchange.specs.AcceptRefusals.{Refusal}
use Rattle.spec_exchange.specs.Outside.{Cause}
use Rattle.spec_exchange.specs.Stages.{Delivery}
use Rattle.spec_exchange.specs.EntryChecks.{Verifying}
use Rattle.spec_exchange.specs.Screens.{Passes}
use Rattle.spec_exchange.specs.Calls.{accepted}
use Rattle.spec_exchange.specs.Runs.{told, Deliver}
use Rattle.spec_exchange.specs.Isolation.{unnumbered_reply, concerns}
use Rattle.receiving_sepp.specs.Outcome.{Answers}
use Rattle.receiving_sepp.specs.declared.delivery.Delivered.{Delivered}
use Rattle.receiving_sepp.specs.declared.refused.Refused.{Refused}
use Rattle.receiving_sepp.specs.declared.refused.Refused.TheVariants.{Limit}

-- the answer is that no record more may be held
abbrev pub IsFull : Result Delivered (CallFault Refused) → Type 0
IsFull result = result ≡ Err (accepting.Refused Limit)

-- the answer is the one that is wanted, but for the number of a replayed message's record
abbrev pub AnswersAlike : Result Delivered (CallFault Refused) → Result Delivery (Cause Refusal) → Type 0
AnswersAlike result wanted = (w : Result Delivery (Cause Refusal)) × (unnumbered_reply (told w) ≡ unnumbered_reply (told wanted)) × Answers result w

-- the answer is that over the records of this context alone, and the record that is put there is put
abbrev pub AcceptsApart : Passes → Verifying → (held now : Option (List (List ℕ))) (old new : Stored) (node : List ℕ) (id : ℕ) → Tree → Result Delivered (CallFault Refused) → Type 0
AcceptsApart passes v held now old new node id t (Err accepting.NoMemory) = ⊤
AcceptsApart passes v held now old new node id t result = CallBy (λ f records. accepted passes (record { keeper = f; verifier = v }) (own node id records) node t) (AnswersAlike result) held now old new

-- the record is of the context that the document is for
abbrev pub is_for : (node : List ℕ) → Tree → Record → Bool
is_for node t r = concerns (node_of r) (context_of r) (Deliver node t)
