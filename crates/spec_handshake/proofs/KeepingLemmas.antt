-- One more record, document or start keeps the invariant.
use Rattle.std.proofs.Common.{◌≡◌, ℕ, Bool, true, false, List, [], ◌∷◌, ◌++◌, refl, sym, ap, ◌∙◌, subst, inl, inr, ⊎_elim}
use Rattle.std.specs.Prelude.{◌⊎◌}
use Rattle.std.specs.List.{list_any}
use Rattle.std.proofs.lemmas.Bool.{or_left, or_right, or_from, or_cases}
use Rattle.spec_records.specs.Records.{Context, Record, Offered, Opened, is_of, own, is_offered, takes_id, used, offered}
use Rattle.spec_handshake.specs.Documents.{Ask, Selection, Document, Asks, Selects}
use Rattle.spec_handshake.specs.Starts.{Start, ForChoice, ForSelection}
use Rattle.spec_handshake.specs.Forms.{IsOffer, IsFormed}
use Rattle.spec_handshake.specs.Agreement.{In, AreApart, HasAsk, IsAnswering, IsFinishing, IsBacked, Invariant}
use Rattle.spec_handshake.proofs.RecordLemmas.{is_of-self, is_of-names, own-one, own-other, used-append, offered-append, one_found}
use Rattle.spec_handshake.proofs.StartLemmas.{in_left, in_push}
use Rattle.spec_handshake.proofs.Agreeing.{unlike}

-- ---- used and offered

opened_used : (records : List Record) (x : Context) → In (Opened x) records → used x.node x.id records ≡ true
opened_used [] x h = absurd h
opened_used (r ∷ rs) x (inl e) =
    let P : Record → Type 0 = λ z. list_any takes_id (own x.node x.id (z ∷ [])) ≡ true in
    used-append x.node x.id (r ∷ []) rs ∙ or_left _ _ (subst P e (one_found takes_id x.node x.id (Opened x) (is_of-self (Opened x)) refl))
opened_used (r ∷ rs) x (inr h) = used-append x.node x.id (r ∷ []) rs ∙ or_right _ _ (opened_used rs x h)

offered_takes : (r : Record) → is_offered r ≡ true → takes_id r ≡ true
offered_takes (Offered n i) e = refl
offered_takes _ e = cc

any_takes : (rs : List Record) → list_any is_offered rs ≡ true → list_any takes_id rs ≡ true
any_takes [] e = cc
any_takes (r ∷ rs) e = ⊎_elim (λ h. or_left _ _ (offered_takes r h)) (λ h. or_right _ _ (any_takes rs h)) (or_cases (is_offered r) (list_any is_offered rs) e)

pub offered_used : (node : List ℕ) (id : ℕ) (records : List Record) → offered node id records ≡ true → used node id records ≡ true
offered_used node id records e = any_takes (own node id records) e

-- what is not used has no opening
pub unused_unopened : (node : List ℕ) (id : ℕ) (records : List Record) (x : Context) → used node id records ≡ false → In (Opened x) records → x.node ≡ node → x.id ≡ id → ⊥
unused_unopened node id records x e h n i = let P : List ℕ → Type 0 = λ m. used m x.id records ≡ true in let Q : ℕ → Type 0 = λ j. used node j records ≡ true in
    unlike (used node id records) (subst Q i (subst P n (opened_used records x h))) e

pub unused_unoffered : (node : List ℕ) (id : ℕ) (records : List Record) (m : List ℕ) (j : ℕ) → used node id records ≡ false → offered m j records ≡ true → m ≡ node → j ≡ id → ⊥
unused_unoffered node id records m j e h n i = let P : List ℕ → Type 0 = λ z. used z j records ≡ true in let Q : ℕ → Type 0 = λ z. used node z records ≡ true in
    unlike (used node id records) (subst Q i (subst P n (offered_used m j records h))) e

-- a record that offers nothing
pub no_offer : (node : List ℕ) (id : ℕ) (r : Record) → is_offered r ≡ false → offered node id (r ∷ []) ≡ false
no_offer node id r e = at (is_of node id r) refl
  where
    at : (b : Bool) → is_of node id r ≡ b → offered node id (r ∷ []) ≡ false
    at true h = ap (list_any is_offered) (own-one node id r h) ∙ or_from _ _ e refl
    at false h = ap (list_any is_offered) (own-other node id r h)

-- an id that was not used is offered for no context that is opened
pub other_offer : (node : List ℕ) (id : ℕ) (records : List Record) (x : Context) → used node id records ≡ false → In (Opened x) records → offered x.node x.id (Offered node id ∷ []) ≡ false
other_offer node id records x e h = at (is_of x.node x.id (Offered node id)) refl
  where
    at : (b : Bool) → is_of x.node x.id (Offered node id) ≡ b → offered x.node x.id (Offered node id ∷ []) ≡ false
    at true f = let names = is_of-names x.node x.id (Offered node id) f in absurd (unused_unopened node id records x e h (sym names.0) (sym names.1))
    at false f = ap (list_any is_offered) (own-other x.node x.id (Offered node id) f)

offered_more : (node : List ℕ) (id : ℕ) (records : List Record) (r : Record) → offered node id records ≡ true → offered node id (records ++ r ∷ []) ≡ true
offered_more node id records r e = offered-append node id records (r ∷ []) ∙ or_left _ _ e

unoffered_more : (node : List ℕ) (id : ℕ) (records : List Record) (r : Record) → offered node id records ≡ false → offered node id (r ∷ []) ≡ false → offered node id (records ++ r ∷ []) ≡ false
unoffered_more node id records r e f = offered-append node id records (r ∷ []) ∙ or_from _ _ e f

-- ---- parts, with one more record

answering-records : (records : List Record) (made : List Document) (r : Record) (x : Context) → IsAnswering records made x → offered x.node x.id (r ∷ []) ≡ false → IsAnswering (records ++ r ∷ []) made x
answering-records records made r x a e = record { unoffered = unoffered_more x.node x.id records r a.unoffered e; ask = a.ask }

finishing-records : (records : List Record) (made : List Document) (r : Record) (x : Context) → IsFinishing records made x → IsFinishing (records ++ r ∷ []) made x
finishing-records records made r x f = record {
  is_offered = offered_more x.node x.id records r f.is_offered;
  own_ask = f.own_ask;
  selection = f.selection;
  is_made = f.is_made;
  suite_is = f.suite_is;
  policy_is = f.policy_is;
  peer_is = f.peer_is;
  peer_node_is = f.peer_node_is;
  peer_ipx_is = f.peer_ipx_is;
}

backed-records : (records : List Record) (made : List Document) (r : Record) (b : Selection) → IsBacked records made b → ((x : Context) → In (Opened x) records → offered x.node x.id (r ∷ []) ≡ false) → IsBacked (records ++ r ∷ []) made b
backed-records records made r b k e = record {
  context = k.context;
  held = in_left (Opened k.context) records (r ∷ []) k.held;
  answering = answering-records records made r k.context k.answering (e k.context k.held);
  node_is = k.node_is;
  id_is = k.id_is;
  suite_is = k.suite_is;
  policy_is = k.policy_is;
  ipx_is = k.ipx_is;
}

-- a record that opens nothing, and offers no id of a context that is opened
pub plain_record : (records : List Record) (starts : List Start) (made : List Document) (r : Record) → Invariant records starts made
    → ((x : Context) → Opened x ≡ r → ⊥) → ((x : Context) → In (Opened x) records → offered x.node x.id (r ∷ []) ≡ false) → Invariant (records ++ r ∷ []) starts made
plain_record records starts made r inv closed foreign =
    let old : (x : Context) → In (Opened x) (records ++ r ∷ []) → In (Opened x) records = λ x h. ⊎_elim (λ m. m) (λ e. absurd (closed x e)) (in_push (Opened x) records r h) in
    record {
      apart = inv.apart;
      start_offered = λ s h. offered_more s.node s.offer.id records r (inv.start_offered s h);
      start_unopened = λ s h x m n i. inv.start_unopened s h x (old x m) n i;
      start_fresh = inv.start_fresh;
      start_asked = inv.start_asked;
      start_formed = inv.start_formed;
      ask_offered = λ a h. offered_more a.sender a.id records r (inv.ask_offered a h);
      ask_alone = inv.ask_alone;
      opened_alone = λ x y h k n i. inv.opened_alone x y (old x h) (old y k) n i;
      selection_backed = λ b h. backed-records records made r b (inv.selection_backed b h) foreign;
      opened_from = λ x h. ⊎_elim (λ a. inl (answering-records records made r x a (foreign x (old x h)))) (λ f. inr (finishing-records records made r x f)) (inv.opened_from x (old x h));
      made_formed = inv.made_formed;
    }

-- an opening of a name that has none, and no start that waits
pub opened_record : (records : List Record) (starts : List Start) (made : List Document) (x : Context) → Invariant records starts made
    → ((y : Context) → In (Opened y) records → y.node ≡ x.node → y.id ≡ x.id → ⊥)
    → ((s : Start) → In s starts → s.node ≡ x.node → s.offer.id ≡ x.id → ⊥)
    → IsAnswering records made x ⊎ IsFinishing records made x
    → Invariant (records ++ Opened x ∷ []) starts made
opened_record records starts made x inv first unawaited from =
    let r : Record = Opened x in
    let foreign : (y : Context) → offered y.node y.id (Opened x ∷ []) ≡ false = λ y. no_offer y.node y.id (Opened x) refl in
    let same : (y : Context) → Opened y ≡ Opened x → y ≡ x = λ y e. cc in
    let pushed : (y : Context) → In (Opened y) (records ++ Opened x ∷ []) → In (Opened y) records ⊎ (y ≡ x) = λ y h. ⊎_elim (λ m. inl m) (λ e. inr (same y e)) (in_push (Opened y) records (Opened x) h) in
    let more : (y : Context) → IsAnswering records made y ⊎ IsFinishing records made y → IsAnswering (records ++ Opened x ∷ []) made y ⊎ IsFinishing (records ++ Opened x ∷ []) made y =
    λ y o. ⊎_elim (λ a. inl (answering-records records made (Opened x) y a (foreign y))) (λ f. inr (finishing-records records made (Opened x) y f)) o in
    record {
      apart = inv.apart;
      start_offered = λ s h. offered_more s.node s.offer.id records (Opened x) (inv.start_offered s h);
      start_unopened = λ s h y m n i. ⊎_elim (λ k. inv.start_unopened s h y k n i) (λ e. unawaited s h (sym n ∙ ap (λ z. z.node) e) (sym i ∙ ap (λ z. z.id) e)) (pushed y m);
      start_fresh = inv.start_fresh;
      start_asked = inv.start_asked;
      start_formed = inv.start_formed;
      ask_offered = λ a h. offered_more a.sender a.id records (Opened x) (inv.ask_offered a h);
      ask_alone = inv.ask_alone;
      opened_alone = λ y z h k n i. ⊎_elim
          (λ h'. ⊎_elim (λ k'. inv.opened_alone y z h' k' n i) (λ e. absurd (first y h' (n ∙ ap (λ w. w.node) e) (i ∙ ap (λ w. w.id) e))) (pushed z k))
          (λ e. ⊎_elim (λ k'. absurd (first z k' (sym n ∙ ap (λ w. w.node) e) (sym i ∙ ap (λ w. w.id) e))) (λ e'. e ∙ sym e') (pushed z k))
          (pushed y h);
      selection_backed = λ b h. backed-records records made (Opened x) b (inv.selection_backed b h) (λ y k. foreign y);
      opened_from = λ y h. ⊎_elim (λ m. more y (inv.opened_from y m)) (λ e. let P : Context → Type 0 = λ z. IsAnswering (records ++ Opened x ∷ []) made z ⊎ IsFinishing (records ++ Opened x ∷ []) made z in subst P (sym e) (more x from)) (pushed y h);
      made_formed = inv.made_formed;
    }

-- ---- one more document

asked-made : (made : List Document) (d : Document) (node : List ℕ) (id : ℕ) (ipx : List (List ℕ)) → HasAsk made node id ipx → HasAsk (made ++ d ∷ []) node id ipx
asked-made made d node id ipx a = record { ask = a.ask; is_made = in_left (Asks a.ask) made (d ∷ []) a.is_made; node_is = a.node_is; id_is = a.id_is; ipx_is = a.ipx_is }

answering-made : (records : List Record) (made : List Document) (d : Document) (x : Context) → IsAnswering records made x → IsAnswering records (made ++ d ∷ []) x
answering-made records made d x a = record { unoffered = a.unoffered; ask = asked-made made d x.peer_node x.peer x.peer_ipx a.ask }

finishing-made : (records : List Record) (made : List Document) (d : Document) (x : Context) → IsFinishing records made x → IsFinishing records (made ++ d ∷ []) x
finishing-made records made d x f = record {
  is_offered = f.is_offered;
  own_ask = asked-made made d x.node x.id x.own_ipx f.own_ask;
  selection = f.selection;
  is_made = in_left (Selects f.selection) made (d ∷ []) f.is_made;
  suite_is = f.suite_is;
  policy_is = f.policy_is;
  peer_is = f.peer_is;
  peer_node_is = f.peer_node_is;
  peer_ipx_is = f.peer_ipx_is;
}

backed-made : (records : List Record) (made : List Document) (d : Document) (b : Selection) → IsBacked records made b → IsBacked records (made ++ d ∷ []) b
backed-made records made d b k = record {
  context = k.context;
  held = k.held;
  answering = answering-made records made d k.context k.answering;
  node_is = k.node_is;
  id_is = k.id_is;
  suite_is = k.suite_is;
  policy_is = k.policy_is;
  ipx_is = k.ipx_is;
}

-- an ask that may be made
pub record IsNewAsk (records : List Record) (starts : List Start) (made : List Document) (a : Ask) : Type 0 where
  pub is_offered : offered a.sender a.id records ≡ true
  pub first : (c : Ask) → In (Asks c) made → c.sender ≡ a.sender → c.id ≡ a.id → ⊥
  pub unawaited : (s : Start) → In s starts → s.waiting ≡ ForChoice → a.sender ≡ s.node → a.id ≡ s.offer.id → ⊥

pub more_made : (records : List Record) (starts : List Start) (made : List Document) (d : Document) → Invariant records starts made
    → IsFormed d → ((a : Ask) → Asks a ≡ d → IsNewAsk records starts made a) → ((b : Selection) → Selects b ≡ d → IsBacked records made b) → Invariant records starts (made ++ d ∷ [])
more_made records starts made d inv formed new_ask new_selection =
    let like : (a c : Ask) → Asks a ≡ d → Asks c ≡ d → a ≡ c = λ a c e f. cc in
    record {
      apart = inv.apart;
      start_offered = inv.start_offered;
      start_unopened = inv.start_unopened;
      start_fresh = λ s h w a m n i. ⊎_elim (λ k. inv.start_fresh s h w a k n i) (λ e. (new_ask a e).unawaited s h w n i) (in_push (Asks a) made d m);
      start_asked = λ s h w. asked-made made d s.node s.offer.id s.offer.ipx (inv.start_asked s h w);
      start_formed = inv.start_formed;
      ask_offered = λ a m. ⊎_elim (λ k. inv.ask_offered a k) (λ e. (new_ask a e).is_offered) (in_push (Asks a) made d m);
      ask_alone = λ a c h k n i. ⊎_elim
          (λ h'. ⊎_elim (λ k'. inv.ask_alone a c h' k' n i) (λ e. absurd ((new_ask c e).first a h' n i)) (in_push (Asks c) made d k))
          (λ e. ⊎_elim (λ k'. absurd ((new_ask a e).first c k' (sym n) (sym i))) (λ f. like a c e f) (in_push (Asks c) made d k))
          (in_push (Asks a) made d h);
      opened_alone = inv.opened_alone;
      selection_backed = λ b m. backed-made records made d b (⊎_elim (λ k. inv.selection_backed b k) (λ e. new_selection b e) (in_push (Selects b) made d m));
      opened_from = λ x h. ⊎_elim (λ a. inl (answering-made records made d x a)) (λ f. inr (finishing-made records made d x f)) (inv.opened_from x h);
      made_formed = λ e m. ⊎_elim (λ k. inv.made_formed e k) (λ f. subst IsFormed (sym f) formed) (in_push e made d m);
    }

-- ---- starts

pub fewer_starts : (records : List Record) (starts : List Start) (made : List Document) (fewer : List Start) → Invariant records starts made
    → ((s : Start) → In s fewer → In s starts) → AreApart fewer → Invariant records fewer made
fewer_starts records starts made fewer inv within apart = record {
  apart = apart;
  start_offered = λ s h. inv.start_offered s (within s h);
  start_unopened = λ s h. inv.start_unopened s (within s h);
  start_fresh = λ s h. inv.start_fresh s (within s h);
  start_asked = λ s h. inv.start_asked s (within s h);
  start_formed = λ s h. inv.start_formed s (within s h);
  ask_offered = inv.ask_offered;
  ask_alone = inv.ask_alone;
  opened_alone = inv.opened_alone;
  selection_backed = inv.selection_backed;
  opened_from = inv.opened_from;
  made_formed = inv.made_formed;
}

-- a start that may wait
pub record IsNewStart (records : List Record) (made : List Document) (t : Start) : Type 0 where
  pub is_offered : offered t.node t.offer.id records ≡ true
  pub unopened : (x : Context) → In (Opened x) records → x.node ≡ t.node → x.id ≡ t.offer.id → ⊥
  pub fresh : t.waiting ≡ ForChoice → (a : Ask) → In (Asks a) made → a.sender ≡ t.node → a.id ≡ t.offer.id → ⊥
  pub asked : t.waiting ≡ ForSelection → HasAsk made t.node t.offer.id t.offer.ipx
  pub formed : IsOffer t.offer

pub more_start : (records : List Record) (starts : List Start) (made : List Document) (more : List Start) (t : Start) → Invariant records starts made
    → ((s : Start) → In s more → (s ≡ t) ⊎ In s starts) → AreApart more → IsNewStart records made t → Invariant records more made
more_start records starts made more t inv within apart new =
    let each : (P : Start → Type 0) → P t → ((s : Start) → In s starts → P s) → (s : Start) → In s more → P s =
    λ P here there s h. ⊎_elim (λ e. subst P (sym e) here) (λ m. there s m) (within s h) in
    record {
      apart = apart;
      start_offered = each (λ s. offered s.node s.offer.id records ≡ true) new.is_offered inv.start_offered;
      start_unopened = each (λ s. (x : Context) → In (Opened x) records → x.node ≡ s.node → x.id ≡ s.offer.id → ⊥) new.unopened inv.start_unopened;
      start_fresh = each (λ s. s.waiting ≡ ForChoice → (a : Ask) → In (Asks a) made → a.sender ≡ s.node → a.id ≡ s.offer.id → ⊥) new.fresh inv.start_fresh;
      start_asked = each (λ s. s.waiting ≡ ForSelection → HasAsk made s.node s.offer.id s.offer.ipx) new.asked inv.start_asked;
      start_formed = each (λ s. IsOffer s.offer) new.formed inv.start_formed;
      ask_offered = inv.ask_offered;
      ask_alone = inv.ask_alone;
      opened_alone = inv.opened_alone;
      selection_backed = inv.selection_backed;
      opened_from = inv.opened_from;
      made_formed = inv.made_formed;
    }
