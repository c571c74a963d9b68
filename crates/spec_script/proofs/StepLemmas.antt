-- Steps by their parts: what holds of a refusal and of what follows the checks holds of the event.
use Rattle.std.proofs.Common.{ℕ, List, Option, Result, Ok, Err}
use Rattle.spec_documents.specs.Tree.{Tree}
use Rattle.spec_messages.specs.Message.{Message}
use Rattle.spec_records.specs.Records.{KeySet, Context, Record}
use Rattle.spec_exchange.specs.Chain.{◌>>=◌}
use Rattle.spec_exchange.specs.Calls.{Outgoing, sends, accepted}
use Rattle.spec_exchange.specs.Screens.{Passes}
use Rattle.spec_exchange.specs.Outside.{Outcome}
use Rattle.spec_handshake.specs.Documents.{Document}
use Rattle.spec_handshake.specs.Refusals as handshake
use Rattle.spec_handshake.specs.Starts.{Start}
use Rattle.spec_reports.specs.Report.{Report}
use Rattle.spec_script.specs.Refusals.{Refusal, SignerFailed}
use Rattle.spec_script.specs.Events.{Event, AddNode, AddContext, AddKeys, Send, Pass, Inject, Alter, Deliver, Restart, Reported, StartWith, AnswerTo, FinishBy, Terminate, EndBy}
use Rattle.spec_script.specs.Choices.{Signing, Signs, SignerFails, Choices, of_accepting}
use Rattle.spec_script.specs.Steps.{State, Answer, Step, refuses, or_refuses, restarts, injects, forwards, reports, adds_node, puts, sends_sealed, delivers, passes_on, opens, keys_up, shakes, step, step_with}
use Rattle.spec_script.specs.Offers.{offer_of}
use Rattle.spec_script.proofs.HandLemmas.{IsTold, IsCall, forwards_told, replied_told, finished_told, start_call, answer_call, finish_call, terminate_call, ended_call}

pub through : {A : Type 0} (P : Step → Type 0) (s : State) (r : Result A Refusal) (k : A → Result Step Refusal)
    → ((e : Refusal) → P (refuses s e)) → ((x : A) → P (or_refuses s (k x))) → P (or_refuses s (r >>= k))
unfolding ◌>>=◌
through P s (Err e) k refused h = refused e
through P s (Ok x) k refused h = h x

-- what holds of each kind of step
pub record Covers (P : Step → Type 0) (passes : Passes) (s : State) (f : Choices) : Type 1 where
  pub refused : (e : Refusal) → P (refuses s e)
  pub restarted : (node : List ℕ) → P (restarts s node)
  pub node : (node plmn : List ℕ) → P (adds_node s node plmn)
  pub put : (name : List ℕ) (r : Record) → P (puts s f.keeper.putting name r)
  pub injected : (t : Tree) → P (injects s t)
  pub forwarded : (t : Tree) → P (forwards s t)
  pub reported : (r : Report) → P (reports s r)
  pub sealed : (node : List ℕ) (id : ℕ) (o : Outgoing) (m : Message) → P (sends_sealed s (sends f.keeper s.records node id o m))
  pub came : (node : List ℕ) (t : Tree) → P (delivers s t (accepted passes (of_accepting f) s.records node t))
  pub shaken : {T : Type 0} (told : T → Answer) (made : T → Option Document) (starts : List Start) (o : Outcome handshake.Refusal T) → ((x : T) → IsTold s (told x) (made x)) → IsCall s starts o → P (shakes s told made starts o)

opened_covered : (P : Step → Type 0) (passes : Passes) (s : State) (f : Choices) → Covers P passes s f → (x : Context) → P (or_refuses s (opens s f.keeper x))
opened_covered P passes s f c x =
    through P s _ _ c.refused λ read. through P s _ _ c.refused λ new. through P s _ _ c.refused λ room. c.put _ _

keyed_covered : (P : Step → Type 0) (passes : Passes) (s : State) (f : Choices) → Covers P passes s f → (node : List ℕ) (id : ℕ) (set : KeySet) → P (or_refuses s (keys_up s f.keeper node id set))
keyed_covered P passes s f c node id set =
    through P s _ _ c.refused λ read. through P s _ _ c.refused λ x. through P s _ _ c.refused λ new. through P s _ _ c.refused λ fit. through P s _ _ c.refused λ room. c.put _ _

passed_covered : (P : Step → Type 0) (passes : Passes) (s : State) (f : Choices) → Covers P passes s f → (signing : Signing) (ipx : List ℕ) (operations t : Tree) → P (or_refuses s (passes_on s signing ipx operations t))
passed_covered P passes s f c (Signs g) ipx operations t = through P s _ _ c.refused λ d. c.forwarded d
passed_covered P passes s f c SignerFails ipx operations t = through P s _ _ c.refused λ parts. c.refused SignerFailed

pub covered : (P : Step → Type 0) (passes : Passes) (s : State) (f : Choices) → Covers P passes s f → (e : Event) → P (step passes s f e)
covered P passes s f c (AddNode node plmn) = through P s _ _ c.refused λ new. c.node node plmn
covered P passes s f c (AddContext x) = through P s _ _ c.refused λ plmn. through P s _ _ c.refused λ policy. opened_covered P passes s f c _
covered P passes s f c (AddKeys node id set) = through P s _ _ c.refused λ plmn. keyed_covered P passes s f c node id set
covered P passes s f c (Send node id t answers) = through P s _ _ c.refused λ plmn. through P s _ _ c.refused λ room. through P s _ _ c.refused λ m. c.sealed node id m.0 m.1
covered P passes s f c (Pass ipx number operations) = through P s _ _ c.refused λ t. through P s _ _ c.refused λ room. passed_covered P passes s f c f.signer ipx operations t
covered P passes s f c (Inject t) = through P s _ _ c.refused λ room. c.injected t
covered P passes s f c (Alter number ops) = through P s _ _ c.refused λ t. through P s _ _ c.refused λ room. through P s _ _ c.refused λ u. c.forwarded u
covered P passes s f c (Deliver node number) = through P s _ _ c.refused λ plmn. through P s _ _ c.refused λ t. c.came node t
covered P passes s f c (Restart node) = through P s _ _ c.refused λ plmn. c.restarted node
covered P passes s f c (Reported node t) = through P s _ _ c.refused λ plmn. through P s _ _ c.refused λ r. c.reported r
covered P passes s f c (StartWith node peer x) = through P s _ _ c.refused λ plmn. through P s _ _ c.refused λ room. through P s _ _ c.refused λ policy. c.shaken _ _ _ _ (forwards_told s) (start_call s f.keeper node peer (offer_of x policy))
covered P passes s f c (AnswerTo node number x) = through P s _ _ c.refused λ plmn. through P s _ _ c.refused λ t. through P s _ _ c.refused λ room. through P s _ _ c.refused λ policy. c.shaken _ _ _ _ (replied_told s) (answer_call s f.keeper node plmn (offer_of x policy) t)
covered P passes s f c (FinishBy node number) = through P s _ _ c.refused λ plmn. through P s _ _ c.refused λ t. through P s _ _ c.refused λ room. c.shaken _ _ _ _ (finished_told s) (finish_call s f.keeper node plmn t)
covered P passes s f c (Terminate node id) = through P s _ _ c.refused λ plmn. through P s _ _ c.refused λ room. c.shaken _ _ _ _ (λ x. forwards_told s x.document) (terminate_call s f.keeper node id)
covered P passes s f c (EndBy node number) = through P s _ _ c.refused λ plmn. through P s _ _ c.refused λ t. through P s _ _ c.refused λ room. c.shaken _ _ _ _ (λ x. forwards_told s x.document) (ended_call s f.keeper node t)

-- of a line
pub line_covered : (P : Step → Type 0) (passes : Passes) (s : State) (f : Choices) → Covers P passes s f → (r : Result Event Refusal) → P (step_with passes s f r)
line_covered P passes s f c (Ok e) = covered P passes s f c e
line_covered P passes s f c (Err e) = c.refused e
