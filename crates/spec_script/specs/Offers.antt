-- What a node offers in a handshake, as an event has it (this project's own): other members are ignored, and so are other words in the lists of capabilities and suites.
use Rattle.std.specs.Prelude.{ℕ, List, Option, option_and_then, Result, Ok, codes}
use Rattle.spec_documents.specs.Tree.{Tree, Members, get_member}
use Rattle.spec_documents.specs.Place.{◌>>=◌}
use Rattle.spec_messages.specs.Message.{wanted}
use Rattle.spec_messages.specs.Policy.{Policy}
use Rattle.spec_sealing.specs.Header.{object_in}
use Rattle.spec_records.specs.Records.{Suite}
use Rattle.spec_records.specs.RecordDocument.{suite_of, ipx_in}
use Rattle.spec_handshake.specs.Documents.{Capability, capability_of, words_in, id_in}
use Rattle.spec_handshake.specs.Starts.{Offer}

-- an offer that is handed in. The form of its policy is judged later
pub record HandedOffer : Type 0 where
  pub id : ℕ
  pub capabilities : List Capability
  pub suites : List Suite
  pub policy : Tree
  pub ipx : List (List ℕ)

-- a member of an offer. Where it is missing or has not its form, it is the offer that is named
abbrev pub offered_at : {A : Type 0} → (Option Tree → Option A) → List ℕ → Members → Result A (List ℕ)
offered_at read k ms = wanted (read (get_member k ms)) (codes "offer")

abbrev pub any_policy : Option Tree → Option Tree
any_policy o = o

abbrev pub offer_with : Members → Result HandedOffer (List ℕ)
offer_with ms =
    offered_at id_in (codes "id") ms >>= λ id.
    offered_at (words_in capability_of) (codes "capabilities") ms >>= λ capabilities.
    offered_at (words_in suite_of) (codes "suites") ms >>= λ suites.
    offered_at any_policy (codes "policy") ms >>= λ policy.
    offered_at ipx_in (codes "ipx") ms >>= λ ipx.
    Ok (record { id = id; capabilities = capabilities; suites = suites; policy = policy; ipx = ipx })

-- the offer of an event's members
abbrev pub offer_in : Members → Result HandedOffer (List ℕ)
offer_in ms = wanted (option_and_then object_in (get_member (codes "offer") ms)) (codes "offer") >>= offer_with

-- the offer, with the policy that its document is of
abbrev pub offer_of : HandedOffer → Policy → Offer
offer_of x policy = record { id = x.id; capabilities = x.capabilities; suites = x.suites; policy = policy; ipx = x.ipx }
