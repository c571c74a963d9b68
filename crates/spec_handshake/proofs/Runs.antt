-- Whatever happens keeps the invariant, so that contexts of a run agree.
use Rattle.std.proofs.Common.{◌≡◌, ℕ, true, false, List, [], ◌∷◌, Option, Some, None, refl, subst}
use Rattle.std.specs.Prelude.{slice_get}
use Rattle.spec_records.specs.Records.{Context, Record, Offered, Opened, is_offered, takes_id}
use Rattle.spec_exchange.specs.Outside.{Choice}
use Rattle.spec_handshake.specs.Documents.{Document, Terminates}
use Rattle.spec_handshake.specs.Starts.{Offer, without_node}
use Rattle.spec_handshake.specs.Forms.{IsNode, IsPlmn}
use Rattle.spec_handshake.specs.Calls.{closes, closes_by}
use Rattle.spec_handshake.specs.Runs.{World, nothing, Happening, NodeStarts, NodeAnswers, NodeFinishes, NodeTerminates, NodeEnds, NodeRestarts, Puts, answers_at, finishes_at, happens, run, CanHappen, CanAllHappen}
use Rattle.spec_handshake.specs.Agreement.{In, Stands, Agrees}
use Rattle.spec_handshake.proofs.StartLemmas.{in_get, filter-in, filter-apart}
use Rattle.spec_handshake.proofs.Agreeing.{unlike, agreed}
use Rattle.spec_handshake.proofs.KeepingLemmas.{no_offer, plain_record, fewer_starts}
use Rattle.spec_handshake.proofs.Steps.{AreGiven, start-leaves, answer-leaves, finish-leaves, close-leaves}

not_opened : (x : Context) (r : Record) → Opened x ≡ r → takes_id r ≡ false → ⊥
not_opened x r f e = let P : Record → Type 0 = λ z. takes_id z ≡ true in unlike (takes_id r) (subst P f refl) e

not_offered : (r : Record) → takes_id r ≡ false → is_offered r ≡ false
not_offered (Offered n i) e = cc
not_offered _ e = refl

answers-keep : (w : World) → Stands w → (f : Choice) (node plmn : List ℕ) (offer : Offer) → AreGiven node plmn offer → (o : Option Document) → ((d : Document) → o ≡ Some d → In d w.made) → Stands (answers_at w f node plmn offer o)
answers-keep w inv f node plmn offer given None h = inv
answers-keep w inv f node plmn offer given (Some d) h = answer-leaves w inv f node plmn offer given d (h d refl)

finishes-keep : (w : World) → Stands w → (f : Choice) (node plmn : List ℕ) → IsNode node → IsPlmn plmn → (o : Option Document) → ((d : Document) → o ≡ Some d → In d w.made) → Stands (finishes_at w f node plmn o)
finishes-keep w inv f node plmn named network None h = inv
finishes-keep w inv f node plmn named network (Some d) h = finish-leaves w inv f node plmn named network d (h d refl)

pub happens-keeps : (w : World) (f : Choice) (e : Happening) → Stands w → CanHappen e → Stands (happens w f e)
happens-keeps w f (NodeStarts node peer offer) inv can = start-leaves w inv f node peer offer can.0 can.1
happens-keeps w f (NodeAnswers node plmn offer k) inv can = answers-keep w inv f node plmn offer (record { node_is = can.0; plmn_is = can.1.0; offer_is = can.1.1 }) (slice_get w.made k) (λ d e. in_get w.made k d e)
happens-keeps w f (NodeFinishes node plmn k) inv can = finishes-keep w inv f node plmn can.0 can.1 (slice_get w.made k) (λ d e. in_get w.made k d e)
happens-keeps w f (NodeTerminates node id) inv can = close-leaves w inv f node (closes w.records node id Terminates)
happens-keeps w f (NodeEnds node t) inv can = close-leaves w inv f node (closes_by w.records node t)
happens-keeps w f (NodeRestarts node) inv can = fewer_starts w.records w.starts w.made (without_node node w.starts) inv (λ s h. filter-in _ w.starts s h) (filter-apart _ w.starts inv.apart)
happens-keeps w f (Puts r) inv can = plain_record w.records w.starts w.made r inv (λ x e. not_opened x r e can) (λ x h. no_offer x.node x.id r (not_offered r can))

run-keeps : (w : World) (events : List (Choice × Happening)) → Stands w → CanAllHappen events → Stands (run w events)
run-keeps w [] inv can = inv
run-keeps w (e ∷ es) inv can = run-keeps (happens w e.0 e.1) es (happens-keeps w e.0 e.1 inv can.0) can.1

pub nothing-stands : Stands nothing
nothing-stands = record {
  apart = tt;
  start_offered = λ s h. absurd h;
  start_unopened = λ s h. absurd h;
  start_fresh = λ s h. absurd h;
  start_asked = λ s h. absurd h;
  start_formed = λ s h. absurd h;
  ask_offered = λ a h. absurd h;
  ask_alone = λ a b h. absurd h;
  opened_alone = λ x y h. absurd h;
  selection_backed = λ b h. absurd h;
  opened_from = λ x h. absurd h;
  made_formed = λ d h. absurd h;
}

pub stands_agree : (w : World) → Stands w → Agrees w.records
stands_agree w inv = agreed w.records w.starts w.made inv

pub runs_agree : (events : List (Choice × Happening)) → CanAllHappen events → Agrees (run nothing events).records
runs_agree events can = stands_agree (run nothing events) (run-keeps nothing events nothing-stands can)
