-- The steps of handshakes, once their checks are made.
use Rattle.std.proofs.Common.{◌≡◌, ℕ, ℤ, List, Result, Ok, Err, ap, ◌∙◌}
use Rattle.spec_documents.specs.Tree.{Tree}
use Rattle.spec_exchange.specs.Chain.{◌>>=◌}
use Rattle.spec_exchange.specs.Outside.{Choice}
use Rattle.spec_handshake.specs.Starts.{Offer}
use Rattle.spec_handshake.specs.Calls as calls
use Rattle.spec_script.specs.Refusals.{Refusal}
use Rattle.spec_script.specs.Events.{StartWith, AnswerTo, FinishBy, Terminate, EndBy}
use Rattle.spec_script.specs.Offers.{HandedOffer, offer_of}
use Rattle.spec_script.specs.Steps.{State, Step, refuses, or_refuses, is_full, policy_to_hold, starts_with, answers_to, finishes_by, closes}
use Rattle.replay_world.specs.Outsiders.{unasked}
use Rattle.replay_world.specs.Shaking.{network_checked, document_checked, offer_to_hold}

-- ---- chains of checks

network_ok : {A B E : Type 0} (a : Result A E) (c : Result (Unit {0}) E) (x : A) (k : A → Result B E) → (a >>= λ p. c >>= λ u. Ok p) ≡ Ok x → (a >>= λ p. c >>= λ u. k p) ≡ k x
unfolding ◌>>=◌
network_ok (Ok p) (Ok u) x k h = let same : p ≡ x = cc in ap k same
network_ok (Ok p) (Err d) x k h = cc
network_ok (Err d) c x k h = cc

network_err : {A B E : Type 0} (a : Result A E) (c : Result (Unit {0}) E) (e : E) (k : A → Result B E) → (a >>= λ p. c >>= λ u. Ok p) ≡ Err e → (a >>= λ p. c >>= λ u. k p) ≡ Err e
unfolding ◌>>=◌
network_err (Ok p) (Ok u) e k h = cc
network_err (Ok p) (Err d) e k h = let same : d ≡ e = cc in ap Err same
network_err (Err d) c e k h = let same : d ≡ e = cc in ap Err same

abbrev both : {A B : Type 0} → A → B → A × B
both p t = (p, t)

abbrev pair : {A B E : Type 0} → A → B → Result (A × B) E
pair p t = Ok (both p t)

document_ok : {A B D E : Type 0} (a : Result A E) (b : Result B E) (c : Result (Unit {0}) E) (x : A) (y : B) (k : A → B → Result D E) → (a >>= λ p. b >>= λ t. c >>= λ u. pair p t) ≡ pair x y → (a >>= λ p. b >>= λ t. c >>= λ u. k p t) ≡ k x y
unfolding ◌>>=◌
document_ok {A} {B} (Ok p) (Ok t) (Ok u) x y k h = let same : both p t ≡ both x y = cc in ap (λ (z : A × B). k z.0 z.1) same
document_ok (Ok p) (Ok t) (Err d) x y k h = cc
document_ok (Ok p) (Err d) c x y k h = cc
document_ok (Err d) b c x y k h = cc

document_err : {A B D E : Type 0} (a : Result A E) (b : Result B E) (c : Result (Unit {0}) E) (e : E) (k : A → B → Result D E) → (a >>= λ p. b >>= λ t. c >>= λ u. pair p t) ≡ Err e → (a >>= λ p. b >>= λ t. c >>= λ u. k p t) ≡ Err e
unfolding ◌>>=◌
document_err (Ok p) (Ok t) (Ok u) e k h = cc
document_err (Ok p) (Ok t) (Err d) e k h = let same : d ≡ e = cc in ap Err same
document_err (Ok p) (Err d) c e k h = let same : d ≡ e = cc in ap Err same
document_err (Err d) b c e k h = let same : d ≡ e = cc in ap Err same

held_ok : {P O S E : Type 0} (p : Result P E) (g : P → O) (o : O) (k : O → S) → (p >>= λ y. Ok (g y)) ≡ Ok o → (p >>= λ y. Ok (k (g y))) ≡ Ok (k o)
unfolding ◌>>=◌
held_ok (Ok y) g o k h = let same : g y ≡ o = cc in ap (λ z. Ok (k z)) same
held_ok (Err d) g o k h = cc

held_err : {P O S E : Type 0} (p : Result P E) (g : P → O) (e : E) (k : O → S) → (p >>= λ y. Ok (g y)) ≡ Err e → (p >>= λ y. Ok (k (g y))) ≡ Err e
unfolding ◌>>=◌
held_err (Ok y) g e k h = cc
held_err (Err d) g e k h = let same : d ≡ e = cc in ap Err same

-- ---- a node starts a handshake

pub start_unchecked : (s : State) (f : Choice) (node peer : List ℕ) (x : HandedOffer) (e : Refusal) → network_checked s.sites (is_full s.wire) node ≡ Err e → unasked (StartWith node peer x) s f ≡ refuses s e
start_unchecked s f node peer x e h = ap (or_refuses s) (network_err _ _ e (λ plmn. policy_to_hold x.policy >>= λ policy. Ok (starts_with s f node peer (offer_of x policy))) h)

pub start_unheld : (s : State) (f : Choice) (node peer : List ℕ) (x : HandedOffer) (plmn : List ℕ) (e : Refusal) → network_checked s.sites (is_full s.wire) node ≡ Ok plmn → offer_to_hold x ≡ Err e → unasked (StartWith node peer x) s f ≡ refuses s e
start_unheld s f node peer x plmn e h o = ap (or_refuses s) (network_ok _ _ plmn (λ z. policy_to_hold x.policy >>= λ policy. Ok (starts_with s f node peer (offer_of x policy))) h ∙ held_err (policy_to_hold x.policy) (offer_of x) e (starts_with s f node peer) o)

pub start_goes_on : (s : State) (f : Choice) (node peer : List ℕ) (x : HandedOffer) (plmn : List ℕ) (offer : Offer) → network_checked s.sites (is_full s.wire) node ≡ Ok plmn → offer_to_hold x ≡ Ok offer
    → unasked (StartWith node peer x) s f ≡ starts_with s f node peer offer
start_goes_on s f node peer x plmn offer h o = ap (or_refuses s) (network_ok _ _ plmn (λ z. policy_to_hold x.policy >>= λ policy. Ok (starts_with s f node peer (offer_of x policy))) h ∙ held_ok (policy_to_hold x.policy) (offer_of x) offer (starts_with s f node peer) o)

-- ---- a document reaches a node, which answers it

abbrev answers_under : State → Choice → (node : List ℕ) → HandedOffer → (plmn : List ℕ) → Tree → Result Step Refusal
answers_under s f node x plmn t = policy_to_hold x.policy >>= λ policy. Ok (answers_to s f node plmn (offer_of x policy) t)

pub answer_unchecked : (s : State) (f : Choice) (node : List ℕ) (wire : ℤ) (x : HandedOffer) (e : Refusal) → document_checked s.sites s.wire (is_full s.wire) node wire ≡ Err e → unasked (AnswerTo node wire x) s f ≡ refuses s e
answer_unchecked s f node wire x e h = ap (or_refuses s) (document_err _ _ _ e (answers_under s f node x) h)

pub answer_unheld : (s : State) (f : Choice) (node : List ℕ) (wire : ℤ) (x : HandedOffer) (plmn : List ℕ) (t : Tree) (e : Refusal) → document_checked s.sites s.wire (is_full s.wire) node wire ≡ Ok (plmn, t) → offer_to_hold x ≡ Err e
    → unasked (AnswerTo node wire x) s f ≡ refuses s e
answer_unheld s f node wire x plmn t e h o = ap (or_refuses s) (document_ok _ _ _ plmn t (answers_under s f node x) h ∙ held_err (policy_to_hold x.policy) (offer_of x) e (λ offer. answers_to s f node plmn offer t) o)

pub answer_goes_on : (s : State) (f : Choice) (node : List ℕ) (wire : ℤ) (x : HandedOffer) (plmn : List ℕ) (t : Tree) (offer : Offer) → document_checked s.sites s.wire (is_full s.wire) node wire ≡ Ok (plmn, t) → offer_to_hold x ≡ Ok offer
    → unasked (AnswerTo node wire x) s f ≡ answers_to s f node plmn offer t
answer_goes_on s f node wire x plmn t offer h o = ap (or_refuses s) (document_ok _ _ _ plmn t (answers_under s f node x) h ∙ held_ok (policy_to_hold x.policy) (offer_of x) offer (λ y. answers_to s f node plmn y t) o)

-- ---- a reply reaches the node that started

pub finish_unchecked : (s : State) (f : Choice) (node : List ℕ) (wire : ℤ) (e : Refusal) → document_checked s.sites s.wire (is_full s.wire) node wire ≡ Err e → unasked (FinishBy node wire) s f ≡ refuses s e
finish_unchecked s f node wire e h = ap (or_refuses s) (document_err _ _ _ e (λ plmn t. Ok (finishes_by s f node plmn t)) h)

pub finish_goes_on : (s : State) (f : Choice) (node : List ℕ) (wire : ℤ) (plmn : List ℕ) (t : Tree) → document_checked s.sites s.wire (is_full s.wire) node wire ≡ Ok (plmn, t) → unasked (FinishBy node wire) s f ≡ finishes_by s f node plmn t
finish_goes_on s f node wire plmn t h = ap (or_refuses s) (document_ok _ _ _ plmn t (λ p u. Ok (finishes_by s f node p u)) h)

-- ---- contexts end

pub terminate_unchecked : (s : State) (f : Choice) (node : List ℕ) (id : ℕ) (e : Refusal) → network_checked s.sites (is_full s.wire) node ≡ Err e → unasked (Terminate node id) s f ≡ refuses s e
terminate_unchecked s f node id e h = ap (or_refuses s) (network_err _ _ e (λ plmn. Ok (closes s (calls.terminate f s.records node id))) h)

pub terminate_goes_on : (s : State) (f : Choice) (node : List ℕ) (id : ℕ) (plmn : List ℕ) → network_checked s.sites (is_full s.wire) node ≡ Ok plmn → unasked (Terminate node id) s f ≡ closes s (calls.terminate f s.records node id)
terminate_goes_on s f node id plmn h = ap (or_refuses s) (network_ok _ _ plmn (λ z. Ok (closes s (calls.terminate f s.records node id))) h)

pub ended_unchecked : (s : State) (f : Choice) (node : List ℕ) (wire : ℤ) (e : Refusal) → document_checked s.sites s.wire (is_full s.wire) node wire ≡ Err e → unasked (EndBy node wire) s f ≡ refuses s e
ended_unchecked s f node wire e h = ap (or_refuses s) (document_err _ _ _ e (λ plmn t. Ok (closes s (calls.ended f s.records node t))) h)

pub ended_goes_on : (s : State) (f : Choice) (node : List ℕ) (wire : ℤ) (plmn : List ℕ) (t : Tree) → document_checked s.sites s.wire (is_full s.wire) node wire ≡ Ok (plmn, t) → unasked (EndBy node wire) s f ≡ closes s (calls.ended f s.records node t)
ended_goes_on s f node wire plmn t h = ap (or_refuses s) (document_ok _ _ _ plmn t (λ p u. Ok (closes s (calls.ended f s.records node u))) h)
