-- Each call of the handshake keeps the invariant.
use Rattle.std.proofs.Common.{◌≡◌, ℕ, ◌<◌, ◌^◌, Bool, true, false, ◌||◌, List, [], ◌∷◌, ◌++◌, Option, Some, None, Result, Ok, Err, refl, sym, ap, ◌∙◌, subst, cond, inl, inr, ⊎_elim}
use Rattle.std.specs.Prelude.{◌==◌, bytes_eq, find}
use Rattle.std.proofs.lemmas.Bool.{or_right, and_parts, false_from_ne_true}
use Rattle.std.proofs.lemmas.Slice.Eq.{bytes_eq-Decides}
use Rattle.spec_documents.specs.Chain.{◌>>=◌, or_refused}
use Rattle.spec_records.specs.Records.{Suite, Context, Record, Offered, Opened, Closed, is_offered, used, offered}
use Rattle.spec_exchange.specs.Outside.{Choice, Reading, Read, ReadFails, BadRecord, Putting, Kept, Lost, KeptUntold, Keeper, Cause, Own, Outside, Outcome, puts, behind_reading, or_refusal, with_put}
use Rattle.spec_handshake.specs.Documents.{Capability, Prins, Tls, Ask, Selection, Document, Supports, Chooses, Asks, Selects, Terminates, Terminated, document_tree}
use Rattle.spec_handshake.specs.Differences.{difference}
use Rattle.spec_handshake.specs.Refusals.{Refusal, BadForm, ends_start}
use Rattle.spec_handshake.specs.Starts.{Offer, Start, Waiting, ForChoice, ForSelection, same_waiting, waits, new_start, goes_on, first_goes_on, without_first}
use Rattle.spec_handshake.specs.Forms.{IsNode, IsPlmn, IsOffer}
use Rattle.spec_handshake.specs.Calls.{begins, start, after_start, Replied, Chose, OpenedBy, selection_of, context_replying, replies_to, put_reply, answer, Finished, OpenedAs, ask_of, context_finishing, waits_for, waits_for_read, after_choice, finishes_with, put_finished, finish, starts_left, if_read, after_finish, Closing, put_closing}
use Rattle.spec_handshake.specs.Runs.{World, with_made, made_by, reply_document, next_document}
use Rattle.spec_handshake.specs.Agreement.{In, HasAsk, IsBacked, Invariant, Stands}
use Rattle.spec_handshake.proofs.Chains.{bind_then, unless_ok, none_ok, wanted_ok, ok_same}
use Rattle.spec_handshake.proofs.RecordLemmas.{is_of-self, offered-append, one_found}
use Rattle.spec_handshake.proofs.StartLemmas.{in_last, in_push, push-apart, found-in, without-in, without-apart, without-other, first_goes_on-in, first_goes_on-apart}
use Rattle.spec_handshake.proofs.PolicyLemmas.{same_policies}
use Rattle.spec_handshake.proofs.ReadBack.{document_back}
use Rattle.spec_handshake.proofs.KeepingLemmas.{unused_unopened, unused_unoffered, no_offer, other_offer, plain_record, opened_record, IsNewAsk, more_made, fewer_starts, IsNewStart, more_start}

-- ---- calls by their parts

-- what a call leaves has the invariant; the starts that wait then depend on its result
abbrev pub Leaves : {T : Type 0} → World → (Result T (Cause Refusal) → List Start) → (T → Option Document) → Outcome Refusal T → Type 0
Leaves w after document o = Invariant (with_put w.records o.put) (after o.result) (with_made w.made (made_by document o.result))

leaves_read : {T : Type 0} (w : World) (after : Reading → Result T (Cause Refusal) → List Start) (document : T → Option Document) (reading : Reading) (o : Outcome Refusal T)
    → ((c : Cause Refusal) → Invariant w.records (after ReadFails (Err c)) w.made) → ((k : ℕ) (c : Cause Refusal) → Invariant w.records (after (BadRecord k) (Err c)) w.made)
    → Leaves w (after Read) document o → Leaves w (after reading) document (behind_reading reading o)
leaves_read w after document Read o fails bad h = h
leaves_read w after document ReadFails o fails bad h = fails (Outside Keeper)
leaves_read w after document (BadRecord k) o fails bad h = bad k _

leaves_refusal : {X T : Type 0} (w : World) (after : Result T (Cause Refusal) → List Start) (document : T → Option Document) (r : Result X Refusal) (g : X → Outcome Refusal T)
    → ((e : Refusal) → Invariant w.records (after (Err (Own e))) w.made) → ((x : X) → r ≡ Ok x → Leaves w after document (g x)) → Leaves w after document (or_refusal r g)
leaves_refusal w after document (Ok x) g refused passed = passed x refl
leaves_refusal w after document (Err e) g refused passed = refused e

leaves_put : {T : Type 0} (w : World) (after : Result T (Cause Refusal) → List Start) (document : T → Option Document) (p : Putting) (r : Record) (x : T)
    → Invariant (w.records ++ r ∷ []) (after (Ok x)) (with_made w.made (document x)) → Invariant w.records (after (Err (Outside Keeper))) w.made → Invariant (w.records ++ r ∷ []) (after (Err (Outside Keeper))) w.made
    → Leaves w after document (puts p r x)
leaves_put w after document Kept r x kept lost untold = kept
leaves_put w after document Lost r x kept lost untold = lost
leaves_put w after document KeptUntold r x kept lost untold = untold

-- ---- start

unused_first : (w : World) → Stands w → (node : List ℕ) (id : ℕ) → used node id w.records ≡ false → (s : Start) → In s w.starts → s.node ≡ node → s.offer.id ≡ id → ⊥
unused_first w inv node id e s h n i = unused_unoffered node id w.records s.node s.offer.id e (inv.start_offered s h) n i

start_record : (w : World) → Stands w → (node : List ℕ) (id : ℕ) → used node id w.records ≡ false → Invariant (w.records ++ Offered node id ∷ []) w.starts w.made
start_record w inv node id e = plain_record w.records w.starts w.made (Offered node id) inv (λ x f. cc) (λ x h. other_offer node id w.records x e h)

start_new : (w : World) → Stands w → (node peer : List ℕ) (offer : Offer) → IsOffer offer → used node offer.id w.records ≡ false → IsNewStart (w.records ++ Offered node offer.id ∷ []) w.made (new_start node peer offer)
start_new w inv node peer offer formed e = record {
  is_offered = offered-append node offer.id w.records (Offered node offer.id ∷ []) ∙ or_right _ _ (one_found is_offered node offer.id (Offered node offer.id) (is_of-self (Offered node offer.id)) refl);
  unopened = λ x h n i. ⊎_elim (λ m. unused_unopened node offer.id w.records x e m n i) (λ f. cc) (in_push (Opened x) w.records (Offered node offer.id) h);
  fresh = λ f a h n i. unused_unoffered node offer.id w.records a.sender a.id e (inv.ask_offered a h) n i;
  asked = λ f. cc;
  formed = formed;
}

start_told : (w : World) → Stands w → (node peer : List ℕ) (offer : Offer) → IsNode node → IsOffer offer → used node offer.id w.records ≡ false
    → Invariant (w.records ++ Offered node offer.id ∷ []) (w.starts ++ new_start node peer offer ∷ []) (w.made ++ Supports offer.id node offer.capabilities ∷ [])
start_told w inv node peer offer named formed e =
    more_made (w.records ++ Offered node offer.id ∷ []) (w.starts ++ new_start node peer offer ∷ []) w.made (Supports offer.id node offer.capabilities)
    (more_start (w.records ++ Offered node offer.id ∷ []) w.starts w.made (w.starts ++ new_start node peer offer ∷ []) (new_start node peer offer)
    (start_record w inv node offer.id e)
    (λ s h. ⊎_elim (λ m. inr m) (λ f. inl f) (in_push s w.starts (new_start node peer offer) h))
    (push-apart w.starts (new_start node peer offer) inv.apart (λ t h n i. unused_first w inv node offer.id e t h n i))
    (start_new w inv node peer offer formed e))
    (formed.id, named) (λ a f. cc) (λ b f. cc)

-- what stands behind a document that begins
record Begins (records : List Record) (node : List ℕ) (offer : Offer) (d : Document) : Type 0 where
  unused : used node offer.id records ≡ false
  is : Supports offer.id node offer.capabilities ≡ d

begins-ok : (records : List Record) (node : List ℕ) (offer : Offer) (d : Document) → begins records node offer ≡ Ok d → Begins records node offer d
begins-ok records node offer d e =
    bind_then _ _ d e λ u eu e1.
    bind_then _ _ d e1 λ v ev e2.
    record { unused = unless_ok _ _ u eu; is = ok_same {E = Refusal} _ d e2 }

pub start-leaves : (w : World) → Stands w → (f : Choice) (node peer : List ℕ) (offer : Offer) → IsNode node → IsOffer offer → Leaves w (after_start w.starts node peer offer) Some (start f w.records node offer)
start-leaves w inv f node peer offer named formed =
    leaves_read w (λ reading. after_start w.starts node peer offer) Some f.reading _ (λ c. inv) (λ k c. inv)
    (leaves_refusal w (after_start w.starts node peer offer) Some (begins w.records node offer) (λ d. puts f.putting (Offered node offer.id) d) (λ e. inv)
    (λ d e. let b = begins-ok w.records node offer d e in
    let P : Document → Type 0 = λ z. Leaves w (after_start w.starts node peer offer) Some (puts f.putting (Offered node offer.id) z) in
    subst P b.is (leaves_put w (after_start w.starts node peer offer) Some f.putting (Offered node offer.id) (Supports offer.id node offer.capabilities)
    (start_told w inv node peer offer named formed b.unused) inv (start_record w inv node offer.id b.unused))))

-- ---- answer

answer_record : (w : World) → Stands w → (node : List ℕ) (offer : Offer) (a : Ask) (suite : Suite) → In (Asks a) w.made → used node offer.id w.records ≡ false
    → Invariant (w.records ++ Opened (context_replying node offer a suite) ∷ []) w.starts w.made
answer_record w inv node offer a suite h e =
    opened_record w.records w.starts w.made (context_replying node offer a suite) inv
    (λ y m n i. unused_unopened node offer.id w.records y e m n i)
    (λ s m n i. unused_first w inv node offer.id e s m n i)
    (inl (record {
      unoffered = false_from_ne_true _ (λ t. unused_unoffered node offer.id w.records node offer.id e t refl refl);
      ask = record { ask = a; is_made = h; node_is = refl; id_is = refl; ipx_is = refl };
    }))

answer_told : (w : World) → Stands w → (node plmn : List ℕ) (offer : Offer) (a : Ask) (suite : Suite) → IsNode node → IsPlmn plmn → IsOffer offer → In (Asks a) w.made → used node offer.id w.records ≡ false
    → Invariant (w.records ++ Opened (context_replying node offer a suite) ∷ []) w.starts (w.made ++ Selects (selection_of node plmn offer a suite) ∷ [])
answer_told w inv node plmn offer a suite named network formed h e =
    let x : Context = context_replying node offer a suite in
    let after = answer_record w inv node offer a suite h e in
    more_made (w.records ++ Opened x ∷ []) w.starts w.made (Selects (selection_of node plmn offer a suite)) after
    (record { call = (inv.made_formed (Asks a) h).call; sender = named; id = formed.id; plmn = network; policy = formed.policy; ipx = formed.ipx })
    (λ c f. cc)
    (λ b f. let same : selection_of node plmn offer a suite ≡ b = cc in
    let P : Selection → Type 0 = λ z. IsBacked (w.records ++ Opened x ∷ []) w.made z in
    subst P same (record {
      context = x;
      held = in_last w.records (Opened x);
      answering = record {
        unoffered = unoffered;
        ask = record { ask = a; is_made = h; node_is = refl; id_is = refl; ipx_is = refl };
      };
      node_is = refl;
      id_is = refl;
      suite_is = refl;
      policy_is = refl;
      ipx_is = refl;
    }))
  where
    unoffered : offered node offer.id (w.records ++ Opened (context_replying node offer a suite) ∷ []) ≡ false
    unoffered = offered-append node offer.id w.records (Opened (context_replying node offer a suite) ∷ [])
        ∙ (ap (λ z. z || offered node offer.id (Opened (context_replying node offer a suite) ∷ [])) (false_from_ne_true (offered node offer.id w.records) (λ t. unused_unoffered node offer.id w.records node offer.id e t refl refl))
        ∙ no_offer node offer.id (Opened (context_replying node offer a suite)) refl)

-- the offers, names and networks of a call have their forms
pub record AreGiven (node plmn : List ℕ) (offer : Offer) : Type 0 where
  pub node_is : IsNode node
  pub plmn_is : IsPlmn plmn
  pub offer_is : IsOffer offer

capability-leaves : (w : World) → Stands w → (node : List ℕ) (call : ℕ) (c : Capability) → IsNode node → call < 2 ^ 64 → (p : Putting) → Leaves w (λ r. w.starts) reply_document (put_reply p (Chose (Chooses call node c)))
capability-leaves w inv node call c named range p = more_made w.records w.starts w.made (Chooses call node c) inv (range, named) (λ a f. cc) (λ b f. cc)

ask-leaves : (w : World) → Stands w → (node plmn : List ℕ) (offer : Offer) (a : Ask) (suite : Suite) → AreGiven node plmn offer → In (Asks a) w.made → used node offer.id w.records ≡ false → (p : Putting)
    → Leaves w (λ r. w.starts) reply_document (put_reply p (OpenedBy (Selects (selection_of node plmn offer a suite)) (context_replying node offer a suite)))
ask-leaves w inv node plmn offer a suite given h unused p =
    leaves_put w (λ r. w.starts) reply_document p (Opened (context_replying node offer a suite)) (OpenedBy (Selects (selection_of node plmn offer a suite)) (context_replying node offer a suite))
    (answer_told w inv node plmn offer a suite given.node_is given.plmn_is given.offer_is h unused) inv (answer_record w inv node offer a suite h unused)

replied-leaves : (w : World) → Stands w → (p : Putting) (node plmn : List ℕ) (offer : Offer) → AreGiven node plmn offer → (d : Document) → In d w.made → (x : Replied) → replies_to w.records node plmn offer d ≡ Ok x → Leaves w (λ r. w.starts) reply_document (put_reply p x)
replied-leaves w inv p node plmn offer given (Supports call sender capabilities) h x e =
    let P : Replied → Type 0 = λ z. Leaves w (λ r. w.starts) reply_document (put_reply p z) in
    bind_then _ _ x e λ c ec e1. subst P (ok_same {E = Refusal} _ x e1) (capability-leaves w inv node call c given.node_is (inv.made_formed (Supports call sender capabilities) h).0 p)
replied-leaves w inv p node plmn offer given (Asks a) h x e =
    let P : Replied → Type 0 = λ z. Leaves w (λ r. w.starts) reply_document (put_reply p z) in
    bind_then _ _ x e λ suite es e1.
    bind_then _ _ x e1 λ u eu e2.
    bind_then _ _ x e2 λ v ev e3.
    bind_then _ _ x e3 λ y ey e4.
    subst P (ok_same {E = Refusal} _ x e4) (ask-leaves w inv node plmn offer a suite given h (unless_ok _ _ v ev) p)
replied-leaves w inv p node plmn offer given (Chooses call sender c) h x e = cc
replied-leaves w inv p node plmn offer given (Selects b) h x e = cc
replied-leaves w inv p node plmn offer given (Terminates id) h x e = cc
replied-leaves w inv p node plmn offer given (Terminated id) h x e = cc

pub answer-leaves : (w : World) → Stands w → (f : Choice) (node plmn : List ℕ) (offer : Offer) → AreGiven node plmn offer → (d : Document) → In d w.made → Leaves w (λ r. w.starts) reply_document (answer f w.records node plmn offer (document_tree d))
unfolding ◌>>=◌
answer-leaves w inv f node plmn offer given d h =
    let P : Result Document (List ℕ) → Type 0 = λ z. Leaves w (λ r. w.starts) reply_document (behind_reading f.reading (or_refusal (or_refused BadForm z >>= replies_to w.records node plmn offer) (put_reply f.putting))) in
    subst P (sym (document_back d (inv.made_formed d h)))
    (leaves_read w (λ reading r. w.starts) reply_document f.reading _ (λ c. inv) (λ k c. inv)
    (leaves_refusal w (λ r. w.starts) reply_document (replies_to w.records node plmn offer d) (put_reply f.putting) (λ e. inv)
    (λ x e. replied-leaves w inv f.putting node plmn offer given d h x e)))

-- ---- finish

-- what a start that is found says
record IsFound (w : World) (p : Start → Bool) (node : List ℕ) (waiting : Waiting) (s : Start) : Type 0 where
  is : find p w.starts ≡ Some s
  is_there : In s w.starts
  node_is : s.node ≡ node
  waiting_is : s.waiting ≡ waiting

same_waiting-is : (a b : Waiting) → same_waiting a b ≡ true → a ≡ b
same_waiting-is ForChoice ForChoice e = refl
same_waiting-is ForSelection ForSelection e = refl
same_waiting-is _ _ e = cc

is_found : (w : World) (node : List ℕ) (call : ℕ) (sender : List ℕ) (waiting : Waiting) (s : Start) → find (waits node call sender waiting) w.starts ≡ Some s → IsFound w (waits node call sender waiting) node waiting s
is_found w node call sender waiting s e =
    let f = found-in (waits node call sender waiting) w.starts s e in
    let a = and_parts (bytes_eq s.node node) _ f.1 in
    let b = and_parts (s.offer.id == call) _ a.1 in
    let c = and_parts (bytes_eq s.peer sender) _ b.1 in
    record { is = e; is_there = f.0; node_is = (bytes_eq-Decides s.node node).0 a.0; waiting_is = same_waiting-is s.waiting waiting c.1 }

without : (w : World) → Stands w → (p : Start → Bool) → Invariant w.records (without_first p w.starts) w.made
without w inv p = fewer_starts w.records w.starts w.made (without_first p w.starts) inv (λ s h. without-in p w.starts s h) (without-apart p w.starts inv.apart)

offered_there : (w : World) → Stands w → (p : Start → Bool) (node : List ℕ) (waiting : Waiting) (s : Start) → IsFound w p node waiting s → offered node s.offer.id w.records ≡ true
offered_there w inv p node waiting s found = let P : List ℕ → Type 0 = λ z. offered z s.offer.id w.records ≡ true in subst P found.node_is (inv.start_offered s found.is_there)

finish_asked : (w : World) → Stands w → (p : Start → Bool) (node plmn : List ℕ) (s : Start) → IsNode node → IsPlmn plmn → IsFound w p node ForChoice s
    → Invariant w.records (without_first p w.starts) (w.made ++ Asks (ask_of node plmn s.offer) ∷ [])
finish_asked w inv p node plmn s named network found =
    let formed : IsOffer s.offer = inv.start_formed s found.is_there in
    more_made w.records (without_first p w.starts) w.made (Asks (ask_of node plmn s.offer)) (without w inv p)
    (record { call = formed.id; sender = named; id = formed.id; plmn = network; policy = formed.policy; ipx = formed.ipx })
    (λ a f. let same : ask_of node plmn s.offer ≡ a = cc in
    let P : Ask → Type 0 = λ z. IsNewAsk w.records (without_first p w.starts) w.made z in
    subst P same (record {
      is_offered = offered_there w inv p node ForChoice s found;
      first = λ c h n i. inv.start_fresh s found.is_there found.waiting_is c h (n ∙ sym found.node_is) i;
      unawaited = λ u h k n i. without-other p w.starts s u inv.apart found.is h (sym n ∙ sym found.node_is) (sym i);
    }))
    (λ b f. cc)

finish_next : (w : World) → Stands w → (p : Start → Bool) (node plmn : List ℕ) (s : Start) → IsNode node → IsPlmn plmn → IsFound w p node ForChoice s
    → Invariant w.records (first_goes_on p w.starts) (w.made ++ Asks (ask_of node plmn s.offer) ∷ [])
finish_next w inv p node plmn s named network found =
    more_start w.records (without_first p w.starts) (w.made ++ Asks (ask_of node plmn s.offer) ∷ []) (first_goes_on p w.starts) (goes_on s)
    (finish_asked w inv p node plmn s named network found)
    (λ u h. first_goes_on-in p w.starts s u found.is h)
    (first_goes_on-apart p w.starts inv.apart)
    (record {
      is_offered = inv.start_offered s found.is_there;
      unopened = inv.start_unopened s found.is_there;
      fresh = λ f. cc;
      asked = λ f. record { ask = ask_of node plmn s.offer; is_made = in_last w.made (Asks (ask_of node plmn s.offer)); node_is = sym found.node_is; id_is = refl; ipx_is = refl };
      formed = inv.start_formed s found.is_there;
    })

finish_record : (w : World) → Stands w → (p : Start → Bool) (node : List ℕ) (b : Selection) (s : Start) → IsFound w p node ForSelection s → In (Selects b) w.made → s.offer.policy ≡ b.policy
    → Invariant (w.records ++ Opened (context_finishing node s.offer b) ∷ []) (without_first p w.starts) w.made
finish_record w inv p node b s found h same =
    opened_record w.records (without_first p w.starts) w.made (context_finishing node s.offer b) (without w inv p)
    (λ y m n i. inv.start_unopened s found.is_there y m (n ∙ sym found.node_is) i)
    (λ u m n i. without-other p w.starts s u inv.apart found.is m (n ∙ sym found.node_is) i)
    (inr (record {
      is_offered = offered_there w inv p node ForSelection s found;
      own_ask = (let P : List ℕ → Type 0 = λ z. HasAsk w.made z s.offer.id s.offer.ipx in subst P found.node_is (inv.start_asked s found.is_there found.waiting_is));
      selection = b;
      is_made = h;
      suite_is = refl;
      policy_is = same;
      peer_is = refl;
      peer_node_is = refl;
      peer_ipx_is = refl;
    }))

choice-leaves : (w : World) → Stands w → (p : Start → Bool) (put : Putting) (node plmn : List ℕ) (s : Start) (c : Capability) → IsNode node → IsPlmn plmn → IsFound w p node ForChoice s
    → Leaves w (starts_left p w.starts) next_document (put_finished put (after_choice node plmn s.offer c))
choice-leaves w inv p put node plmn s Prins named network found = finish_next w inv p node plmn s named network found
choice-leaves w inv p put node plmn s Tls named network found = without w inv p

selection-leaves : (w : World) → Stands w → (p : Start → Bool) (put : Putting) (node : List ℕ) (s : Start) (b : Selection) → IsFound w p node ForSelection s → In (Selects b) w.made → difference s.offer.policy b.policy ≡ None
    → Leaves w (starts_left p w.starts) next_document (put_finished put (OpenedAs (context_finishing node s.offer b)))
selection-leaves w inv p put node s b found h none =
    let same = same_policies s.offer.policy b.policy (inv.start_formed s found.is_there).policy (inv.made_formed (Selects b) h).policy none in
    let after = finish_record w inv p node b s found h same in
    leaves_put w (starts_left p w.starts) next_document put (Opened (context_finishing node s.offer b)) (OpenedAs (context_finishing node s.offer b)) after (without w inv p) after

finished-leaves : (w : World) → Stands w → (put : Putting) (node plmn : List ℕ) → IsNode node → IsPlmn plmn → (d : Document) → In d w.made → (x : Finished) → finishes_with w.records w.starts node plmn d ≡ Ok x
    → Leaves w (starts_left (waits_for node d) w.starts) next_document (put_finished put x)
finished-leaves w inv put node plmn named network (Chooses call sender c) h x e =
    let P : Finished → Type 0 = λ z. Leaves w (starts_left (waits node call sender ForChoice) w.starts) next_document (put_finished put z) in
    bind_then _ _ x e λ s es e1.
    bind_then _ _ x e1 λ u eu e2.
    subst P (ok_same {E = Refusal} _ x e2) (choice-leaves w inv (waits node call sender ForChoice) put node plmn s c named network (is_found w node call sender ForChoice s (wanted_ok _ _ s es)))
finished-leaves w inv put node plmn named network (Selects b) h x e =
    let P : Finished → Type 0 = λ z. Leaves w (starts_left (waits node b.call b.sender ForSelection) w.starts) next_document (put_finished put z) in
    bind_then _ _ x e λ s es e1.
    bind_then _ _ x e1 λ u eu e2.
    bind_then _ _ x e2 λ v ev e3.
    bind_then _ _ x e3 λ y ey e4.
    subst P (ok_same {E = Refusal} _ x e4) (selection-leaves w inv (waits node b.call b.sender ForSelection) put node s b (is_found w node b.call b.sender ForSelection s (wanted_ok _ _ s es)) h (none_ok _ _ v ev))
finished-leaves w inv put node plmn named network (Supports call sender capabilities) h x e = cc
finished-leaves w inv put node plmn named network (Asks a) h x e = cc
finished-leaves w inv put node plmn named network (Terminates id) h x e = cc
finished-leaves w inv put node plmn named network (Terminated id) h x e = cc

-- a refusal drops the start or leaves it
refused-leaves : (w : World) → Stands w → (p : Start → Bool) (e : Refusal) → Invariant w.records (starts_left p w.starts (Err (Own e))) w.made
refused-leaves w inv p e = by (ends_start e)
  where
    by : (b : Bool) → Invariant w.records (cond b (without_first p w.starts) w.starts) w.made
    by true = without w inv p
    by false = inv

pub finish-leaves : (w : World) → Stands w → (f : Choice) (node plmn : List ℕ) → IsNode node → IsPlmn plmn → (d : Document) → In d w.made
    → Leaves w (after_finish f.reading w.starts node (document_tree d)) next_document (finish f w.records w.starts node plmn (document_tree d))
unfolding ◌>>=◌
finish-leaves w inv f node plmn named network d h =
    let P : Result Document (List ℕ) → Type 0 = λ z. Leaves w (λ r. if_read f.reading w.starts (starts_left (waits_for_read node z) w.starts r)) next_document
    (behind_reading f.reading (or_refusal (or_refused BadForm z >>= finishes_with w.records w.starts node plmn) (put_finished f.putting))) in
    subst P (sym (document_back d (inv.made_formed d h)))
    (leaves_read w (λ reading r. if_read reading w.starts (starts_left (waits_for node d) w.starts r)) next_document f.reading _ (λ c. inv) (λ k c. inv)
    (leaves_refusal w (starts_left (waits_for node d) w.starts) next_document (finishes_with w.records w.starts node plmn d) (put_finished f.putting) (refused-leaves w inv (waits_for node d))
    (λ x e. finished-leaves w inv f.putting node plmn named network d h x e)))

-- ---- terminate, ended

closing-leaves : (w : World) → Stands w → (p : Putting) (node : List ℕ) (c : Closing) → Leaves w (λ r. w.starts) (λ z. None) (put_closing node p c)
closing-leaves w inv p node c =
    let after = plain_record w.records w.starts w.made (Closed node c.id) inv (λ y e. cc) (λ y h. no_offer y.node y.id (Closed node c.id) refl) in
    leaves_put w (λ r. w.starts) (λ z. None) p (Closed node c.id) c after inv after

pub close-leaves : (w : World) → Stands w → (f : Choice) (node : List ℕ) (r : Result Closing Refusal) → Leaves w (λ z. w.starts) (λ z. None) (behind_reading f.reading (or_refusal r (put_closing node f.putting)))
close-leaves w inv f node r =
    leaves_read w (λ reading z. w.starts) (λ z. None) f.reading _ (λ c. inv) (λ k c. inv)
    (leaves_refusal w (λ z. w.starts) (λ z. None) r (put_closing node f.putting) (λ e. inv) (λ c e. closing-leaves w inv f.putting node c))
