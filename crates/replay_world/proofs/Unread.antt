-- Where the keeper isn't read, the records do not matter.
use Rattle.std.proofs.Common.{◌≡◌, ◌+◌, ℕ, List, length, Option, Some, None, Result, Ok, Err, refl}
use Rattle.spec_documents.specs.Tree.{Tree}
use Rattle.spec_records.specs.Records.{Record}
use Rattle.spec_exchange.specs.Chain.{◌>>=◌}
use Rattle.spec_exchange.specs.AcceptRefusals as receiving
use Rattle.spec_exchange.specs.Screens.{Passes}
use Rattle.spec_exchange.specs.SendingRefusals as sending
use Rattle.spec_exchange.specs.Outside.{Reading, Read, ReadFails, BadRecord, Outcome, behind_reading, Cause}
use Rattle.spec_exchange.specs.Stages.{Delivery}
use Rattle.spec_exchange.specs.Calls.{Sealed}
use Rattle.spec_handshake.specs.Documents.{Document, document_tree}
use Rattle.spec_handshake.specs.Refusals as handshake
use Rattle.spec_handshake.specs.Starts.{Start}
use Rattle.spec_handshake.specs.Calls as calls
use Rattle.spec_handshake.specs.Runs.{reply_document, next_document}
use Rattle.spec_script.specs.Offers.{offer_of}
use Rattle.spec_script.specs.Refusals.{Refusal, SignerFailed}
use Rattle.spec_script.specs.Events.{Event, AddNode, AddContext, AddKeys, Send, Inject, Deliver, Restart, Pass, Alter, Reported, StartWith, AnswerTo, FinishBy, Terminate, EndBy}
use Rattle.spec_script.specs.Choices.{Signing, Signs, SignerFails, Choices}
use Rattle.spec_script.specs.Steps.{State, Site, Step, refuses, or_refuses, sends_sealed, delivers, has_read, passes_on, step, step_with, Answer, Forwards, shakes, closes, replied_answer, finished_answer}

-- the state over these records
abbrev over : List Site → List Tree → List Start → List Record → State
over sites wire starts records = record { sites = sites; wire = wire; records = records; starts = starts }

-- a step that puts nothing, whichever the records
pub record Same (r q : Step) : Type 0 where
  pub is : r ≡ q
  pub none : r.put ≡ None

refused_same : (sites : List Site) (wire : List Tree) (starts : List Start) (rs qs : List Record) (e : Refusal) → Same (refuses (over sites wire starts rs) e) (refuses (over sites wire starts qs) e)
refused_same sites wire starts rs qs e = record { is = refl; none = refl }

bind_same : {A : Type 0} (sites : List Site) (wire : List Tree) (starts : List Start) (rs qs : List Record) (r : Result A Refusal) (k l : A → Result Step Refusal)
    → ((x : A) → Same (or_refuses (over sites wire starts rs) (k x)) (or_refuses (over sites wire starts qs) (l x))) → Same (or_refuses (over sites wire starts rs) (r >>= k)) (or_refuses (over sites wire starts qs) (r >>= l))
unfolding ◌>>=◌
bind_same sites wire starts rs qs (Ok x) k l h = h x
bind_same sites wire starts rs qs (Err e) k l h = refused_same sites wire starts rs qs e

unread_same : (sites : List Site) (wire : List Tree) (starts : List Start) (rs qs : List Record) (reading : Reading) (k l : Unit {0} → Result Step Refusal) → (reading ≡ Read → ⊥)
    → Same (or_refuses (over sites wire starts rs) (has_read reading >>= k)) (or_refuses (over sites wire starts qs) (has_read reading >>= l))
unfolding ◌>>=◌
unread_same sites wire starts rs qs Read k l not_read = absurd (not_read refl)
unread_same sites wire starts rs qs ReadFails k l not_read = refused_same sites wire starts rs qs _
unread_same sites wire starts rs qs (BadRecord n) k l not_read = refused_same sites wire starts rs qs _

sealed_same : (sites : List Site) (wire : List Tree) (starts : List Start) (rs qs : List Record) (reading : Reading) (o p : Outcome sending.Refusal Sealed) → (reading ≡ Read → ⊥)
    → Same (sends_sealed (over sites wire starts rs) (behind_reading reading o)) (sends_sealed (over sites wire starts qs) (behind_reading reading p))
sealed_same sites wire starts rs qs Read o p not_read = absurd (not_read refl)
sealed_same sites wire starts rs qs ReadFails o p not_read = record { is = refl; none = refl }
sealed_same sites wire starts rs qs (BadRecord n) o p not_read = record { is = refl; none = refl }

delivery_same : (sites : List Site) (wire : List Tree) (starts : List Start) (rs qs : List Record) (t : Tree) (reading : Reading) (o p : Outcome receiving.Refusal Delivery) → (reading ≡ Read → ⊥)
    → Same (delivers (over sites wire starts rs) t (behind_reading reading o)) (delivers (over sites wire starts qs) t (behind_reading reading p))
delivery_same sites wire starts rs qs t Read o p not_read = absurd (not_read refl)
delivery_same sites wire starts rs qs t ReadFails o p not_read = record { is = refl; none = refl }
delivery_same sites wire starts rs qs t (BadRecord n) o p not_read = record { is = refl; none = refl }

shaken_same : {T : Type 0} (sites : List Site) (wire : List Tree) (starts : List Start) (rs qs : List Record) (told : T → Answer) (made : T → Option Document) (left : Reading → Result T (Cause handshake.Refusal) → List Start) (reading : Reading) (o p : Outcome handshake.Refusal T) → (reading ≡ Read → ⊥)
    → Same (shakes (over sites wire starts rs) told made (left reading (behind_reading reading o).result) (behind_reading reading o)) (shakes (over sites wire starts qs) told made (left reading (behind_reading reading p).result) (behind_reading reading p))
shaken_same sites wire starts rs qs told made left Read o p not_read = absurd (not_read refl)
shaken_same sites wire starts rs qs told made left ReadFails o p not_read = record { is = refl; none = refl }
shaken_same sites wire starts rs qs told made left (BadRecord n) o p not_read = record { is = refl; none = refl }

-- the number of the next document on the wire
abbrev number_on : List Tree → ℕ
number_on wire = length wire + 1

closing_same : (sites : List Site) (wire : List Tree) (starts : List Start) (rs qs : List Record) (reading : Reading) (o p : Outcome handshake.Refusal calls.Closing) → (reading ≡ Read → ⊥)
    → Same (closes (over sites wire starts rs) (behind_reading reading o)) (closes (over sites wire starts qs) (behind_reading reading p))
closing_same sites wire starts rs qs reading o p not_read = shaken_same sites wire starts rs qs (λ c. Forwards (document_tree c.document) (number_on wire)) (λ c. Some c.document) (λ r x. starts) reading o p not_read

passed_same : (sites : List Site) (wire : List Tree) (starts : List Start) (rs qs : List Record) (signing : Signing) (ipx : List ℕ) (operations t : Tree) → Same (or_refuses (over sites wire starts rs) (passes_on (over sites wire starts rs) signing ipx operations t)) (or_refuses (over sites wire starts qs) (passes_on (over sites wire starts qs) signing ipx operations t))
passed_same sites wire starts rs qs (Signs g) ipx operations t = bind_same sites wire starts rs qs _ _ _ λ d. record { is = refl; none = refl }
passed_same sites wire starts rs qs SignerFails ipx operations t = bind_same sites wire starts rs qs _ _ _ λ parts. refused_same sites wire starts rs qs SignerFailed

event_same : (sites : List Site) (wire : List Tree) (starts : List Start) (rs qs : List Record) (passes : Passes) (f : Choices) → (f.keeper.reading ≡ Read → ⊥) → (e : Event) → Same (step passes (over sites wire starts rs) f e) (step passes (over sites wire starts qs) f e)
event_same sites wire starts rs qs passes f not_read (AddNode node plmn) = bind_same sites wire starts rs qs _ _ _ λ new. record { is = refl; none = refl }
event_same sites wire starts rs qs passes f not_read (AddContext x) = bind_same sites wire starts rs qs _ _ _ λ plmn. bind_same sites wire starts rs qs _ _ _ λ policy. unread_same sites wire starts rs qs f.keeper.reading _ _ not_read
event_same sites wire starts rs qs passes f not_read (AddKeys node id set) = bind_same sites wire starts rs qs _ _ _ λ plmn. unread_same sites wire starts rs qs f.keeper.reading _ _ not_read
event_same sites wire starts rs qs passes f not_read (Send node id t answers) = bind_same sites wire starts rs qs _ _ _ λ plmn. bind_same sites wire starts rs qs _ _ _ λ room. bind_same sites wire starts rs qs _ _ _ λ m. sealed_same sites wire starts rs qs f.keeper.reading _ _ not_read
event_same sites wire starts rs qs passes f not_read (Pass ipx number operations) = bind_same sites wire starts rs qs _ _ _ λ t. bind_same sites wire starts rs qs _ _ _ λ room. passed_same sites wire starts rs qs f.signer ipx operations t
event_same sites wire starts rs qs passes f not_read (Inject t) = bind_same sites wire starts rs qs _ _ _ λ room. record { is = refl; none = refl }
event_same sites wire starts rs qs passes f not_read (Alter number ops) = bind_same sites wire starts rs qs _ _ _ λ t. bind_same sites wire starts rs qs _ _ _ λ room. bind_same sites wire starts rs qs _ _ _ λ u. record { is = refl; none = refl }
event_same sites wire starts rs qs passes f not_read (Deliver node number) = bind_same sites wire starts rs qs _ _ _ λ plmn. bind_same sites wire starts rs qs _ _ _ λ t. delivery_same sites wire starts rs qs t f.keeper.reading _ _ not_read
event_same sites wire starts rs qs passes f not_read (Restart node) = bind_same sites wire starts rs qs _ _ _ λ plmn. record { is = refl; none = refl }
event_same sites wire starts rs qs passes f not_read (Reported node t) = bind_same sites wire starts rs qs _ _ _ λ plmn. bind_same sites wire starts rs qs _ _ _ λ r. record { is = refl; none = refl }
event_same sites wire starts rs qs passes f not_read (StartWith node peer x) = bind_same sites wire starts rs qs _ _ _ λ plmn. bind_same sites wire starts rs qs _ _ _ λ room. bind_same sites wire starts rs qs _ _ _ λ policy.
    shaken_same sites wire starts rs qs (λ d. Forwards (document_tree d) (number_on wire)) Some (λ r z. calls.after_start starts node peer (offer_of x policy) z) f.keeper.reading _ _ not_read
event_same sites wire starts rs qs passes f not_read (AnswerTo node number x) = bind_same sites wire starts rs qs _ _ _ λ plmn. bind_same sites wire starts rs qs _ _ _ λ t. bind_same sites wire starts rs qs _ _ _ λ room. bind_same sites wire starts rs qs _ _ _ λ policy.
    shaken_same sites wire starts rs qs (replied_answer (number_on wire)) reply_document (λ r z. starts) f.keeper.reading _ _ not_read
event_same sites wire starts rs qs passes f not_read (FinishBy node number) = bind_same sites wire starts rs qs _ _ _ λ plmn. bind_same sites wire starts rs qs _ _ _ λ t. bind_same sites wire starts rs qs _ _ _ λ room.
    shaken_same sites wire starts rs qs (finished_answer (number_on wire)) next_document (λ r z. calls.after_finish r starts node t z) f.keeper.reading _ _ not_read
event_same sites wire starts rs qs passes f not_read (Terminate node id) = bind_same sites wire starts rs qs _ _ _ λ plmn. bind_same sites wire starts rs qs _ _ _ λ room. closing_same sites wire starts rs qs f.keeper.reading _ _ not_read
event_same sites wire starts rs qs passes f not_read (EndBy node number) = bind_same sites wire starts rs qs _ _ _ λ plmn. bind_same sites wire starts rs qs _ _ _ λ t. bind_same sites wire starts rs qs _ _ _ λ room. closing_same sites wire starts rs qs f.keeper.reading _ _ not_read

pub line_same : (sites : List Site) (wire : List Tree) (starts : List Start) (rs qs : List Record) (passes : Passes) (f : Choices) → (f.keeper.reading ≡ Read → ⊥) → (r : Result Event Refusal)
    → Same (step_with passes (record { sites = sites; wire = wire; records = rs; starts = starts }) f r) (step_with passes (record { sites = sites; wire = wire; records = qs; starts = starts }) f r)
line_same sites wire starts rs qs passes f not_read (Ok e) = event_same sites wire starts rs qs passes f not_read e
line_same sites wire starts rs qs passes f not_read (Err e) = refused_same sites wire starts rs qs e
