-- Parts of the steps of handshakes.
use Rattle.std.specs.Prelude.{◌≡◌, ℕ, ℤ, Bool, List, Option, Some, None, Result, Ok, Err}
use Rattle.spec_documents.specs.Tree.{Tree}
use Rattle.spec_messages.specs.Message.{wanted}
use Rattle.spec_messages.specs.Limits.{full_wire}
use Rattle.spec_exchange.specs.Chain.{◌>>=◌, unless}
use Rattle.spec_handshake.specs.Starts.{Offer}
use Rattle.spec_script.specs.Refusals.{Refusal, NodeUnknown, WireUnknown, Beyond}
use Rattle.spec_script.specs.Offers.{HandedOffer, offer_of}
use Rattle.spec_script.specs.Answers.{answer_text}
use Rattle.spec_script.specs.Steps.{Site, Answer, Forwards, Opens, OpensAs, EndsTls, plmn_at, policy_to_hold, wire_at}
use Rattle.context_store.specs.declared.call_faults.CallFault.{CallFault}
use Rattle.n32c_handshake.specs.declared.refusal.HandRefusal.{HandRefusal}
use Rattle.n32c_handshake.specs.declared.replying.Replied.{Replied}
use Rattle.n32c_handshake.specs.declared.replying.Replied.TheVariants as replied
use Rattle.n32c_handshake.specs.declared.finishing.Finished.{Finished}
use Rattle.n32c_handshake.specs.declared.finishing.Finished.TheVariants as finished
use Rattle.n32_values.specs.declared.memory.NoMemory.{NoMemory}
use Rattle.script_lines.specs.declared.unanswered.Unanswered.{Unanswered}
use Rattle.script_lines.specs.declared.unanswered.Unanswered.TheVariants as unanswered
use Rattle.replay_world.specs.Refusing.{of_hand}
use Rattle.replay_world.specs.Wires.{HasMore}
use Rattle.replay_world.specs.declared.world.World.{World}

-- ---- checks before a call

-- the network of a node, the wire having room
abbrev pub network_checked : List Site → (full : Bool) → (node : List ℕ) → Result (List ℕ) Refusal
network_checked sites full node = do
  plmn ← wanted (plmn_at sites node) NodeUnknown
  _ ← unless full (Beyond full_wire)
  Ok plmn

-- with a document that reaches the node
abbrev pub document_checked : List Site → List Tree → (full : Bool) → (node : List ℕ) → ℤ → Result (List ℕ × Tree) Refusal
document_checked sites wire full node number = do
  plmn ← wanted (plmn_at sites node) NodeUnknown
  t ← wanted (wire_at wire number) WireUnknown
  _ ← unless full (Beyond full_wire)
  Ok (plmn, t)

abbrev pub offer_to_hold : HandedOffer → Result Offer Refusal
offer_to_hold x = do
  policy ← policy_to_hold x.policy
  Ok (offer_of x policy)

-- ---- what is told of a call that is done

-- the answer, and the document that goes on the wire with this number
abbrev pub forwarded : ℕ → Tree → Answer
forwarded number t = Forwards t number

abbrev pub replied_told : ℕ → Replied → Answer
replied_told number (replied.Selected t) = Forwards t number
replied_told number (replied.Opened t id) = Opens t number id.value

abbrev pub replied_sent : Replied → Option Tree
replied_sent (replied.Selected t) = Some t
replied_sent (replied.Opened t id) = Some t

abbrev pub finished_told : ℕ → Finished → Answer
finished_told number (finished.Next t) = Forwards t number
finished_told number (finished.Opened id) = OpensAs id.value
finished_told number finished.EndedTls = EndsTls

abbrev pub finished_sent : Finished → Option Tree
finished_sent (finished.Next t) = Some t
finished_sent (finished.Opened id) = None
finished_sent finished.EndedTls = None

-- all is as before but for the document
abbrev pub HasSent : (old new : World) → Option Tree → Type 0
HasSent old new None = new ≡ old
HasSent old new (Some t) = HasMore old new t

-- the text of the answer, with the document on the wire. Where memory was refused the world is as it was
abbrev pub Says : (number : ℕ) → (old new : World) → Answer → Option Tree → Result (List ℕ) NoMemory → Type 0
Says number old new a sent (Ok text) = (text ≡ answer_text number a) × HasSent old new sent
Says number old new a sent (Err e) = new ≡ old

-- what is told of a call, and what it leaves of the world
abbrev pub Concludes : {X : Type 0} → (X → Answer) → (X → Option Tree) → (number : ℕ) → (old new : World) → Result X (CallFault HandRefusal) → Result (List ℕ) Unanswered → Type 0
Concludes told sent number old new (Ok x) (Ok text) = (text ≡ answer_text number (told x)) × HasSent old new (sent x)
Concludes told sent number old new (Ok x) (Err why) = (why ≡ unanswered.NoMemory) × (new ≡ old)
Concludes told sent number old new (Err fault) (Ok text) = ⊥
Concludes told sent number old new (Err fault) (Err why) = (why ≡ of_hand fault) × (new ≡ old)
