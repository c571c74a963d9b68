-- What a reply and a beginning come to, once each of their checks is known.
use Rattle.std.proofs.Common.{◌≡◌, ℕ, Bool, true, false, List, Option, None, Some, Result, Ok, refl, ap}
use Rattle.spec_documents.specs.Chain.{◌>>=◌, unless, none_of, or_refused}
use Rattle.spec_documents.specs.Tree.{Tree}
use Rattle.spec_messages.specs.Message.{wanted}
use Rattle.spec_records.specs.Records.{Suite, Record, used}
use Rattle.spec_handshake.specs.Documents.{Capability, Ask, Document, Supports, Chooses, Asks, Selects, document_of}
use Rattle.spec_handshake.specs.Differences.{Difference, difference}
use Rattle.spec_handshake.specs.Refusals.{Refusal, BadForm, NoCommonCapability, NoCommonSuite, PolicyDiffers, ContextUsed}
use Rattle.spec_handshake.specs.Starts.{Offer}
use Rattle.spec_handshake.specs.Calls.{chosen, common_suite, room_for_record, begins, Replied, Chose, OpenedBy, selection_of, context_replying, replies_to, replies}
use Rattle.n32c_handshake.specs.Outcome.{if_room}

-- ---- the first document

beginning_from : (records : List Record) (b : Bool) (d : Document) → b ≡ false → (unless b ContextUsed >>= λ u. (room_for_record records >>= λ v. Ok d)) ≡ if_room records d
unfolding ◌>>=◌
beginning_from records true d e = cc
beginning_from records false d e = refl

pub began : (records : List Record) (node : List ℕ) (offer : Offer) → used node offer.id records ≡ false → begins records node offer ≡ if_room records (Supports offer.id node offer.capabilities)
began records node offer e = beginning_from records (used node offer.id records) (Supports offer.id node offer.capabilities) e

-- ---- the document that is replied to

pub replied_to : (records : List Record) (node plmn : List ℕ) (offer : Offer) (t : Tree) (d : Document) → document_of t ≡ Ok d → replies records node plmn offer t ≡ replies_to records node plmn offer d
unfolding ◌>>=◌
replied_to records node plmn offer t d is = ap (λ r. or_refused BadForm r >>= λ x. replies_to records node plmn offer x) is

-- ---- a capability

abbrev choosing_from : ℕ → List ℕ → Option Capability → Result Replied Refusal
choosing_from call node o = do
  c ← wanted o NoCommonCapability
  Ok (Chose (Chooses call node c))

chose_by : (call : ℕ) (node : List ℕ) (o : Option Capability) (c : Capability) → Some c ≡ o → choosing_from call node o ≡ Ok (Chose (Chooses call node c))
unfolding ◌>>=◌
chose_by call node None c e = cc
chose_by call node (Some x) c e = let same : x ≡ c = cc in ap (λ z. choosing_from call node (Some z)) same

pub chose : (records : List Record) (node plmn : List ℕ) (offer : Offer) (call : ℕ) (sender : List ℕ) (theirs : List Capability) (c : Capability) → Some c ≡ chosen theirs offer.capabilities
    → replies_to records node plmn offer (Supports call sender theirs) ≡ Ok (Chose (Chooses call node c))
chose records node plmn offer call sender theirs c e = chose_by call node (chosen theirs offer.capabilities) c e

-- ---- parameters

abbrev selecting_from : List Record → (node plmn : List ℕ) → Offer → Ask → Option Suite → Option Difference → Bool → Result Replied Refusal
selecting_from records node plmn offer a o d u = do
  suite ← wanted o NoCommonSuite
  _ ← none_of PolicyDiffers d
  _ ← unless u ContextUsed
  _ ← room_for_record records
  Ok (OpenedBy (Selects (selection_of node plmn offer a suite)) (context_replying node offer a suite))

selected_by : (records : List Record) (node plmn : List ℕ) (offer : Offer) (a : Ask) (o : Option Suite) (d : Option Difference) (u : Bool) (s : Suite) → Some s ≡ o → none_of PolicyDiffers d ≡ Ok tt → u ≡ false
    → selecting_from records node plmn offer a o d u ≡ if_room records (OpenedBy (Selects (selection_of node plmn offer a s)) (context_replying node offer a s))
unfolding ◌>>=◌
selected_by records node plmn offer a None d u s e f g = cc
selected_by records node plmn offer a (Some x) (Some y) u s e f g = cc
selected_by records node plmn offer a (Some x) None true s e f g = cc
selected_by records node plmn offer a (Some x) None false s e f g = let same : x ≡ s = cc in ap (λ z. selecting_from records node plmn offer a (Some z) None false) same

pub selected : (records : List Record) (node plmn : List ℕ) (offer : Offer) (a : Ask) (s : Suite) → Some s ≡ common_suite a.suites offer.suites → none_of PolicyDiffers (difference offer.policy a.policy) ≡ Ok tt
    → used node offer.id records ≡ false → replies_to records node plmn offer (Asks a) ≡ if_room records (OpenedBy (Selects (selection_of node plmn offer a s)) (context_replying node offer a s))
selected records node plmn offer a s e f g = selected_by records node plmn offer a (common_suite a.suites offer.suites) (difference offer.policy a.policy) (used node offer.id records) s e f g
