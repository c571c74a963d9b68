-- What a node offers in a handshake, and the starts that wait for an answer, in the order in which they began (this project's own).
use Rattle.std.specs.Prelude.{ℕ, Bool, true, false, ◌&&◌, not, ◌==◌, List, [], ◌∷◌, if◌then◌else◌, bytes_eq, filter}
use Rattle.spec_messages.specs.Policy.{Policy}
use Rattle.spec_records.specs.Records.{Suite}
use Rattle.spec_handshake.specs.Documents.{Capability}

pub record Offer : Type 0 where
  pub id : ℕ
  pub capabilities : List Capability
  pub suites : List Suite
  pub policy : Policy
  pub ipx : List (List ℕ)

-- what a start waits for: the choice of a capability, or the selected parameters
pub data Waiting : Type 0 where
  ForChoice : Waiting
  ForSelection : Waiting

abbrev pub same_waiting : Waiting → Waiting → Bool
same_waiting ForChoice ForChoice = true
same_waiting ForSelection ForSelection = true
same_waiting ForChoice ForSelection = false
same_waiting ForSelection ForChoice = false

pub record Start : Type 0 where
  pub node : List ℕ
  pub peer : List ℕ
  pub offer : Offer
  pub waiting : Waiting

abbrev pub new_start : (node peer : List ℕ) → Offer → Start
new_start node peer offer = record { node = node; peer = peer; offer = offer; waiting = ForChoice }

-- the start is of this node and call, and waits for this from the sender
abbrev pub waits : (node : List ℕ) → (call : ℕ) → (sender : List ℕ) → Waiting → Start → Bool
waits node call sender w s = bytes_eq s.node node && ((s.offer.id == call) && (bytes_eq s.peer sender && same_waiting s.waiting w))

-- its capability was chosen, and it waits for the parameters
abbrev pub goes_on : Start → Start
goes_on s = record { node = s.node; peer = s.peer; offer = s.offer; waiting = ForSelection }

-- the first that passes goes on in its place
abbrev pub first_goes_on : (Start → Bool) → List Start → List Start
first_goes_on p [] = []
first_goes_on p (s ∷ ss) = if p s then goes_on s ∷ ss else s ∷ first_goes_on p ss

-- without the first that passes
abbrev pub without_first : (Start → Bool) → List Start → List Start
without_first p [] = []
without_first p (s ∷ ss) = if p s then ss else s ∷ without_first p ss

-- without the starts of a node, as after its restart
abbrev pub without_node : List ℕ → List Start → List Start
without_node node starts = filter (λ s. not (bytes_eq s.node node)) starts
