-- No step passes the limit of records, and so no text of these records is bad.
use Rattle.std.proofs.Common.{◌≡◌, ℕ, ◌<◌, ◌≤◌, Bool, true, false, List, [], ◌∷◌, length, Option, Some, None, Result, Ok, Err, refl, arith, length-append}
use Rattle.std.proofs.lemmas.Bool.{leb-false}
use Rattle.spec_documents.specs.Tree.{Tree}
use Rattle.spec_messages.specs.Message.{Message}
use Rattle.spec_records.specs.Records.{KeySet, Context, Record, record_limit}
use Rattle.spec_exchange.specs.Chain.{◌>>=◌, unless}
use Rattle.spec_exchange.specs.Outside.{Choice, Putting, Kept, Lost, KeptUntold, with_put}
use Rattle.spec_exchange.specs.Screens.{Passes}
use Rattle.spec_exchange.specs.Calls as accepting
use Rattle.spec_exchange.specs.Calls.{accepted, Outgoing, sends, protected, delivered_record, sent_record}
use Rattle.spec_exchange.specs.Accepting.{first_failed}
use Rattle.spec_exchange.proofs.ChainLemmas.{puts-some, protected-ok}
use Rattle.spec_exchange.proofs.AcceptLemmas.{accepted-passed}
use Rattle.spec_script.specs.Refusals.{Refusal}
use Rattle.spec_script.specs.Events.{Event, AddNode, AddContext, AddKeys, Send, Inject, Deliver, Restart, Pass, Alter, Reported, StartWith, AnswerTo, FinishBy, Terminate, EndBy, line_event}
use Rattle.spec_script.specs.Choices.{Signing, Signs, SignerFails, Choices}
use Rattle.spec_script.specs.Steps.{State, Step, refuses, or_refuses, puts, sends_sealed, delivers, room_for_record, passes_on, opens, keys_up, step, step_with, line_step}
use Rattle.spec_script.specs.Offers.{offer_of}
use Rattle.spec_script.proofs.StepLemmas.{through}
use Rattle.replay_runs.proofs.HandRooms.{start_room, answer_room, finish_room, terminate_room, ended_room}

-- what is held after the step is within the limit
abbrev Fits : State → Step → Type 0
Fits s r = length s.records ≤ record_limit → length (with_put s.records r.put) ≤ record_limit

put_fits : (records : List Record) (put : Option Record) → ((r : Record) → put ≡ Some r → length records < record_limit) → length records ≤ record_limit → length (with_put records put) ≤ record_limit
put_fits records None room few = few
put_fits records (Some r) room few = omega (arith, room r refl, length-append records (r ∷ []))

unless_ok : {E : Type 0} (b : Bool) (e : E) (u : Unit {0}) → unless b e ≡ Ok u → b ≡ false
unless_ok true e u h = cc
unless_ok false e u h = refl

has_room : (s : State) (u : Unit {0}) → room_for_record s ≡ Ok u → length s.records < record_limit
has_room s u h = leb-false _ _ (unless_ok _ _ u h)

puts_fits : (s : State) (p : Putting) (name : List ℕ) (r : Record) → length s.records < record_limit → Fits s (puts s p name r)
puts_fits s Kept name r room = put_fits s.records (Some r) (λ q e. room)
puts_fits s Lost name r room = λ few. few
puts_fits s KeptUntold name r room = put_fits s.records (Some r) (λ q e. room)

refused_fits : (s : State) (e : Refusal) → Fits s (refuses s e)
refused_fits s e = λ few. few

-- behind the check for room
behind_room : (s : State) (k : Unit {0} → Result Step Refusal) → ((u : Unit {0}) → length s.records < record_limit → Fits s (or_refuses s (k u))) → Fits s (or_refuses s (room_for_record s >>= k))
unfolding ◌>>=◌
behind_room s k h = by_room (room_for_record s) refl
  where
    by_room : (r : Result (Unit {0}) Refusal) → room_for_record s ≡ r → Fits s (or_refuses s (r >>= k))
    by_room (Ok u) e = h u (has_room s u e)
    by_room (Err d) e = refused_fits s d

opened_fits : (s : State) (f : Choice) (x : Context) → Fits s (or_refuses s (opens s f x))
opened_fits s f x =
    through (Fits s) s _ _ (refused_fits s) λ read. through (Fits s) s _ _ (refused_fits s) λ new. behind_room s _ λ u room. puts_fits s f.putting _ _ room

keyed_fits : (s : State) (f : Choice) (node : List ℕ) (id : ℕ) (set : KeySet) → Fits s (or_refuses s (keys_up s f node id set))
keyed_fits s f node id set =
    through (Fits s) s _ _ (refused_fits s) λ read. through (Fits s) s _ _ (refused_fits s) λ x. through (Fits s) s _ _ (refused_fits s) λ new. through (Fits s) s _ _ (refused_fits s) λ fit.
    behind_room s _ λ u room. puts_fits s f.putting _ _ room

sealed_fits : (s : State) (f : Choice) (node : List ℕ) (id : ℕ) (o : Outgoing) (m : Message) → Fits s (sends_sealed s (sends f s.records node id o m))
sealed_fits s f node id o m = put_fits s.records (sends f s.records node id o m).put λ r e.
    let p = puts-some f.reading (protected s.records node id o m) f.putting sent_record r e in
    (protected-ok s.records node id o m p.value p.is).room

came_fits : (passes : Passes) (s : State) (f : accepting.Choices) (node : List ℕ) (t : Tree) → Fits s (delivers s t (accepted passes f s.records node t))
came_fits passes s f node t = put_fits s.records (accepted passes f s.records node t).put λ r e.
    let p = puts-some f.keeper.reading (first_failed passes f.verifier s.records node t) f.keeper.putting delivered_record r e in
    (accepted-passed passes f.verifier s.records node t p.value p.is).new.room

passed_fits : (s : State) (signing : Signing) (ipx : List ℕ) (operations t : Tree) → Fits s (or_refuses s (passes_on s signing ipx operations t))
passed_fits s (Signs g) ipx operations t = through (Fits s) s _ _ (refused_fits s) λ d few. few
passed_fits s SignerFails ipx operations t = through (Fits s) s _ _ (refused_fits s) λ parts few. few

event_fits : (passes : Passes) (s : State) (f : Choices) (e : Event) → Fits s (step passes s f e)
event_fits passes s f (AddNode node plmn) = through (Fits s) s _ _ (refused_fits s) λ new few. few
event_fits passes s f (AddContext x) = through (Fits s) s _ _ (refused_fits s) λ plmn. through (Fits s) s _ _ (refused_fits s) λ policy. opened_fits s f.keeper _
event_fits passes s f (AddKeys node id set) = through (Fits s) s _ _ (refused_fits s) λ plmn. keyed_fits s f.keeper node id set
event_fits passes s f (Send node id t answers) = through (Fits s) s _ _ (refused_fits s) λ plmn. through (Fits s) s _ _ (refused_fits s) λ room. through (Fits s) s _ _ (refused_fits s) λ m. sealed_fits s f.keeper node id m.0 m.1
event_fits passes s f (Pass ipx number operations) = through (Fits s) s _ _ (refused_fits s) λ t. through (Fits s) s _ _ (refused_fits s) λ room. passed_fits s f.signer ipx operations t
event_fits passes s f (Inject t) = through (Fits s) s _ _ (refused_fits s) λ room few. few
event_fits passes s f (Alter number ops) = through (Fits s) s _ _ (refused_fits s) λ t. through (Fits s) s _ _ (refused_fits s) λ room. through (Fits s) s _ _ (refused_fits s) λ u few. few
event_fits passes s f (Deliver node number) = through (Fits s) s _ _ (refused_fits s) λ plmn. through (Fits s) s _ _ (refused_fits s) λ t. came_fits passes s (record { keeper = f.keeper; verifier = f.verifier }) node t
event_fits passes s f (Restart node) = through (Fits s) s _ _ (refused_fits s) λ plmn few. few
event_fits passes s f (Reported node t) = through (Fits s) s _ _ (refused_fits s) λ plmn. through (Fits s) s _ _ (refused_fits s) λ r few. few
event_fits passes s f (StartWith node peer x) = through (Fits s) s _ _ (refused_fits s) λ plmn. through (Fits s) s _ _ (refused_fits s) λ room. through (Fits s) s _ _ (refused_fits s) λ policy.
    put_fits s.records _ λ r e. start_room f.keeper s.records node (offer_of x policy) r e
event_fits passes s f (AnswerTo node number x) = through (Fits s) s _ _ (refused_fits s) λ plmn. through (Fits s) s _ _ (refused_fits s) λ t. through (Fits s) s _ _ (refused_fits s) λ room. through (Fits s) s _ _ (refused_fits s) λ policy.
    put_fits s.records _ λ r e. answer_room f.keeper s.records node plmn (offer_of x policy) t r e
event_fits passes s f (FinishBy node number) = through (Fits s) s _ _ (refused_fits s) λ plmn. through (Fits s) s _ _ (refused_fits s) λ t. through (Fits s) s _ _ (refused_fits s) λ room.
    put_fits s.records _ λ r e. finish_room f.keeper s.records s.starts node plmn t r e
event_fits passes s f (Terminate node id) = through (Fits s) s _ _ (refused_fits s) λ plmn. through (Fits s) s _ _ (refused_fits s) λ room.
    put_fits s.records _ λ r e. terminate_room f.keeper s.records node id r e
event_fits passes s f (EndBy node number) = through (Fits s) s _ _ (refused_fits s) λ plmn. through (Fits s) s _ _ (refused_fits s) λ t. through (Fits s) s _ _ (refused_fits s) λ room.
    put_fits s.records _ λ r e. ended_room f.keeper s.records node t r e

read_fits : (passes : Passes) (s : State) (f : Choices) (r : Result Event Refusal) → Fits s (step_with passes s f r)
read_fits passes s f (Ok e) = event_fits passes s f e
read_fits passes s f (Err e) = refused_fits s e

pub line_fits : (passes : Passes) (s : State) (f : Choices) (line : List ℕ) → length s.records ≤ record_limit → length (with_put s.records (line_step passes s f line).put) ≤ record_limit
line_fits passes s f line = read_fits passes s f (line_event line)
