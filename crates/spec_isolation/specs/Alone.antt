-- What a context would be told in a world of its own (this project's own).
use Rattle.std.specs.Prelude.{ℕ, pos, Bool, List, [], ◌∷◌, Option, None}
use Rattle.spec_documents.specs.Tree.{Tree}
use Rattle.spec_records.specs.Records.{Record}
use Rattle.spec_exchange.specs.EntryChecks.{Claim, by_meaning}
use Rattle.spec_exchange.specs.Screens.{Passes}
use Rattle.spec_exchange.specs.Outside.{no_fault, with_put}
use Rattle.spec_script.specs.Events.{Send, Deliver}
use Rattle.spec_script.specs.Choices.{SignerFails, Choices}
use Rattle.spec_script.specs.Steps.{State, Step, Answer, step}
use Rattle.spec_isolation.specs.Concerns.{Brought, ToSend, Arrives, Makes}

-- the context's node alone, with these documents on the wire and these records held
abbrev pub world_of : (node : List ℕ) → (wire : List Tree) → List Record → State
world_of node wire records = record { sites = record { node = node; plmn = [] } ∷ []; wire = wire; records = records; starts = [] }

-- there neither keeper nor verifier fails, and nobody signs
abbrev pub alone : (Claim → Bool) → Choices
alone verifier = record { keeper = no_fault; signer = SignerFails; verifier = by_meaning verifier None }

-- what sending a message comes to there, and the delivery of a document
abbrev pub sends_alone : (Claim → Bool) → Passes → (node : List ℕ) (id : ℕ) → List Record → (message : Tree) (answers : Option ℕ) → Step
sends_alone verifier passes node id records message answers = step passes (world_of node [] records) (alone verifier) (Send node id message answers)

abbrev pub delivers_alone : (Claim → Bool) → Passes → (node : List ℕ) → List Record → (document : Tree) → Step
delivers_alone verifier passes node records document = step passes (world_of node (document ∷ []) records) (alone verifier) (Deliver node (pos 1))

-- the answers there to all that is sent and delivered, by what the verifier says and the screen passes, over the records held at the beginning
abbrev pub told_alone : (Claim → Bool) → Passes → (node : List ℕ) (id : ℕ) → List Record → List Brought → List Answer
told_alone verifier passes node id records [] = []
told_alone verifier passes node id records (ToSend message answers ∷ rest) =
    let r : Step = sends_alone verifier passes node id records message answers in r.answer ∷ told_alone verifier passes node id (with_put records r.put) rest
told_alone verifier passes node id records (Arrives document ∷ rest) =
    let r : Step = delivers_alone verifier passes node records document in r.answer ∷ told_alone verifier passes node id (with_put records r.put) rest
told_alone verifier passes node id records (Makes item ∷ rest) = told_alone verifier passes node id (with_put records item) rest
