-- One more record: what is kept of its context tells it too, and what is kept of the others stays.
use Rattle.std.proofs.Common.{◌≡◌, ◌∙◌, ℕ, ◌+◌, max, zero, suc, Bool, true, false, cond, ◌&&◌, ◌||◌, ◌==◌, List, [], ◌∷◌, ◌++◌, length, slice_get, Option, Some, None, is_some, option_map, if◌then◌else◌, bytes_eq, refl, ap, sym, subst, arith}
use Rattle.std.specs.List.{list_any, position_from}
use Rattle.std.specs.Option.{option_or}
use Rattle.std.proofs.lemmas.Bool.{and_parts, eqb-true}
use Rattle.std.proofs.lemmas.Bool.Decides.{nat_tests}
use Rattle.std.proofs.lemmas.List.Folds.{list_any-append}
use Rattle.std.specs.Cmp.Lexicographic.{bytes_decides}
use Rattle.spec_messages.specs.Message.{Kind, of_request, of_response}
use Rattle.spec_records.specs.Records as spec
use Rattle.spec_records.specs.Records.{Record, Offered, Opened, Keyed, Sent, Delivered, Closed, KeySet, Context, is_of, own, first_of, greater, greatest_sent, keys_behind, opened_context, keyed_for, keys_fit, takes_id, is_closed, is_delivery, is_reply_to, request_sent, request_delivered, sent_number, node_of, context_of}
use Rattle.spec_records.proofs.RecordLemmas.{own-append, own-append_other, first_of-append, delivered_at-other}
use Rattle.id_runs.specs.Runs.{entry_of, with_entry}
use Rattle.id_runs.specs.declared.run_list.Entry.{Entry}
use Rattle.id_runs.proofs.Entries.{with_entry_told}
use Rattle.context_cache.specs.declared.fact.Fact.TheVariants as tells
use Rattle.context_cache.specs.Known.{Known, entry, noted}
use Rattle.context_cache.specs.Tables.{Kept, is_named, known_at}
use Rattle.context_cache.specs.Mirror.{IsKnown, IsMirror, fact_of, fits_opening, held_at, held_in, keyed_set}

-- ---- words

or_false : (b : Bool) → b ≡ (b || false)
or_false true = refl
or_false false = refl

or_true : (b : Bool) → true ≡ (b || true)
or_true true = refl
or_true false = refl

or_none : {X : Type 0} (o : Option X) → o ≡ option_or o None
or_none None = refl
or_none (Some x) = refl

or_assoc : {X : Type 0} (a b c : Option X) → option_or (option_or a b) c ≡ option_or a (option_or b c)
or_assoc None b c = refl
or_assoc (Some x) b c = refl

greater_none : (o : Option ℕ) → o ≡ greater o None
greater_none None = refl
greater_none (Some a) = refl

max_assoc : (a b c : ℕ) → max (max a b) c ≡ max a (max b c)
max_assoc a b c = omega arith

greater_assoc : (a b c : Option ℕ) → greater (greater a b) c ≡ greater a (greater b c)
greater_assoc None b c = refl
greater_assoc (Some a) None c = refl
greater_assoc (Some a) (Some b) None = refl
greater_assoc (Some a) (Some b) (Some c) = ap Some (max_assoc a b c)

eq_back : (a b : ℕ) → (a == b) ≡ (b == a)
eq_back a b = grind (arith, nat_tests)

-- ---- the questions after one more record of the context

own_more : (node : List ℕ) (id : ℕ) (rs : List Record) (r : Record) → is_of node id r ≡ true → own node id (rs ++ r ∷ []) ≡ own node id rs ++ r ∷ []
own_more node id rs r is = own-append node id rs (r ∷ []) ∙ ap (λ b. own node id rs ++ cond b (r ∷ []) []) is

any_more : (p : Record → Bool) (xs : List Record) (r : Record) → list_any p (xs ++ r ∷ []) ≡ (list_any p xs || p r)
any_more p xs r = list_any-append p xs (r ∷ []) ∙ ap (λ b. list_any p xs || b) (sym (or_false (p r)))

first_more : {X : Type 0} (f : Record → Option X) (xs : List Record) (r : Record) → first_of f (xs ++ r ∷ []) ≡ option_or (first_of f xs) (f r)
first_more f xs r = first_of-append f xs (r ∷ []) ∙ ap (option_or (first_of f xs)) (sym (or_none (f r)))

greatest_more : (kind : Kind) (xs : List Record) (r : Record) → greatest_sent kind (xs ++ r ∷ []) ≡ greater (greatest_sent kind xs) (sent_number kind r)
greatest_more kind [] r = sym (greater_none (sent_number kind r))
greatest_more kind (x ∷ xs) r = ap (greater (sent_number kind x)) (greatest_more kind xs r) ∙ sym (greater_assoc (sent_number kind x) (greatest_sent kind xs) (sent_number kind r))

-- the keys of one more record, where the context was opened before it
abbrev pub keyed_after : Option Context → Record → Option KeySet
keyed_after None r = None
keyed_after (Some x) r = keyed_for x.suite r

keys_more : (o : Option Context) (xs : List Record) (r : Record) → keys_behind o (xs ++ r ∷ []) ≡ option_or (keys_behind o xs) (keyed_after (option_or o (first_of opened_context xs)) r)
keys_more None [] r = refl
keys_more (Some x) [] r = sym (or_none (keyed_for x.suite r))
keys_more None (q ∷ xs) r = keys_more (opened_context q) xs r
keys_more (Some x) (q ∷ xs) r = ap (option_or (keyed_for x.suite q)) (keys_more (Some x) xs r) ∙ sym (or_assoc (keyed_for x.suite q) (keys_behind (Some x) xs) (keyed_for x.suite r))

place_more : (p : Record → Bool) (k n : ℕ) (xs : List Record) (r : Record) → k + length xs ≡ n → position_from p k (xs ++ r ∷ []) ≡ option_or (position_from p k xs) (cond (p r) (Some n) None)
place_more p k n [] r e = let same : k ≡ n = omega (arith, e) in ap (λ z. cond (p r) (Some z) None) same
place_more p k n (x ∷ xs) r e = step (p x) (place_more p (k + 1) n xs r (omega (arith, e)))
  where
    step : (b : Bool) → position_from p (k + 1) (xs ++ r ∷ []) ≡ option_or (position_from p (k + 1) xs) (cond (p r) (Some n) None) → cond b (Some k) (position_from p (k + 1) (xs ++ r ∷ [])) ≡ option_or (cond b (Some k) (position_from p (k + 1) xs)) (cond (p r) (Some n) None)
    step true h = refl
    step false h = h

-- ---- what a record of a number holds

get_front : (rs : List Record) (n : ℕ) (q r : Record) → slice_get rs n ≡ Some q → slice_get (rs ++ r ∷ []) n ≡ Some q
get_front [] n q r e = cc
get_front (x ∷ rs) zero q r e = e
get_front (x ∷ rs) (suc n) q r e = get_front rs n q r e

get_last : (rs : List Record) (r : Record) → slice_get (rs ++ r ∷ []) (length rs) ≡ Some r
get_last [] r = refl
get_last (x ∷ rs) r = get_last rs r

held_stays : {X : Type 0} (f : Record → Option X) (rs : List Record) (r : Record) (o : Option ℕ) (x : Option X) → held_at f rs o ≡ x → is_some o ≡ is_some x → held_at f (rs ++ r ∷ []) o ≡ x
held_stays f rs r None x e s = e
held_stays f rs r (Some n) None e s = cc
held_stays {X} f rs r (Some n) (Some y) e s = by (slice_get rs n) refl e
  where
    by : (q : Option Record) → slice_get rs n ≡ q → held_in f q ≡ Some y → held_in f (slice_get (rs ++ r ∷ []) n) ≡ Some y
    by None at h = cc
    by (Some q) at h = ap (held_in f) (get_front rs n q r at) ∙ h

held_new : {X : Type 0} (f : Record → Option X) (rs : List Record) (r : Record) (o : Option ℕ) (x : Option X) → held_at f rs o ≡ x → is_some o ≡ is_some x → held_at f (rs ++ r ∷ []) (option_or o (Some (length rs))) ≡ option_or x (f r)
held_new f rs r None None e s = ap (held_in f) (get_last rs r)
held_new f rs r None (Some y) e s = cc
held_new f rs r (Some n) None e s = cc
held_new f rs r (Some n) (Some y) e s = held_stays f rs r (Some n) (Some y) e s

some_new : {X : Type 0} (n : ℕ) (o : Option ℕ) (x : Option X) (y : X) → is_some o ≡ is_some x → is_some (option_or o (Some n)) ≡ is_some (option_or x (Some y))
some_new n None None y s = refl
some_new n None (Some z) y s = cc
some_new n (Some m) None y s = cc
some_new n (Some m) (Some z) y s = refl

-- ---- the entry of one more id

entry_added : (m id : ℕ) (e : Entry) (es : List (ℕ × Entry)) → entry_of m (with_entry id e es) ≡ option_or (entry_of m es) (if id == m then Some e else None)
entry_added m id e es = by (entry_of id es) refl
  where
    there : (y : Entry) → entry_of id es ≡ Some y → (b : Bool) → (id == m) ≡ b → entry_of m es ≡ option_or (entry_of m es) (if b then Some e else None)
    there y at true f = let same : id ≡ m = eqb-true id m f in let its : entry_of m es ≡ Some y = subst (λ z. entry_of z es ≡ Some y) same at in rw its refl
    there y at false f = or_none (entry_of m es)

    by : (o : Option Entry) → entry_of id es ≡ o → entry_of m (with_entry id e es) ≡ option_or (entry_of m es) (if id == m then Some e else None)
    by None at = with_entry_told m id e es at ∙ ap (λ b. option_or (entry_of m es) (if b then Some e else None)) (eq_back m id)
    by (Some y) at = ap (λ o. entry_of m (if is_some o then es else es ++ (id, e) ∷ [])) at ∙ there y at (id == m) refl

told : {Y : Type 0} (g : Entry → Y) (m id : ℕ) (e : Entry) (es : List (ℕ × Entry)) → option_map g (entry_of m (with_entry id e es)) ≡ option_or (option_map g (entry_of m es)) (if id == m then Some (g e) else None)
told g m id e es = ap (option_map g) (entry_added m id e es) ∙ split (entry_of m es) (id == m)
  where
    split : (o : Option Entry) (b : Bool) → option_map g (option_or o (if b then Some e else None)) ≡ option_or (option_map g o) (if b then Some (g e) else None)
    split (Some y) b = refl
    split None true = refl
    split None false = refl

some_told : (m id : ℕ) (e : Entry) (es : List (ℕ × Entry)) → is_some (entry_of m (with_entry id e es)) ≡ (is_some (entry_of m es) || (id == m))
some_told m id e es = ap is_some (entry_added m id e es) ∙ split (entry_of m es) (id == m)
  where
    split : (o : Option Entry) (b : Bool) → is_some (option_or o (if b then Some e else None)) ≡ (is_some o || b)
    split (Some y) b = refl
    split None true = refl
    split None false = refl

-- ---- each fact after one more record

record Steps (node : List ℕ) (id : ℕ) (rs : List Record) (r : Record) (k : Known) : Type 0 where
  pub used : (b : Bool) → b ≡ (k.used || takes_id r) → b ≡ spec.used node id (rs ++ r ∷ [])
  pub opened_stays : None ≡ opened_context r → held_at opened_context (rs ++ r ∷ []) k.opened ≡ spec.opening node id (rs ++ r ∷ [])
  pub opens_stays : None ≡ opened_context r → is_some k.opened ≡ is_some (spec.opening node id (rs ++ r ∷ []))
  pub opened_new : held_at opened_context (rs ++ r ∷ []) (option_or k.opened (Some (length rs))) ≡ spec.opening node id (rs ++ r ∷ [])
  pub opens_new : (x : Context) → Some x ≡ opened_context r → is_some (option_or k.opened (Some (length rs))) ≡ is_some (spec.opening node id (rs ++ r ∷ []))
  pub closed : (b : Bool) → b ≡ (k.closed || is_closed r) → b ≡ spec.closed node id (rs ++ r ∷ [])
  pub keyed_stays : None ≡ keyed_after (spec.opening node id rs) r → held_at keyed_set (rs ++ r ∷ []) k.keyed ≡ spec.keys node id (rs ++ r ∷ [])
  pub keys_stays : None ≡ keyed_after (spec.opening node id rs) r → is_some k.keyed ≡ is_some (spec.keys node id (rs ++ r ∷ []))
  pub keyed_new : keyed_set r ≡ keyed_after (spec.opening node id rs) r → held_at keyed_set (rs ++ r ∷ []) (option_or k.keyed (Some (length rs))) ≡ spec.keys node id (rs ++ r ∷ [])
  pub keys_new : (x : KeySet) → Some x ≡ keyed_after (spec.opening node id rs) r → is_some (option_or k.keyed (Some (length rs))) ≡ is_some (spec.keys node id (rs ++ r ∷ []))
  pub sent_request : (o : Option ℕ) → o ≡ greater k.sent_request (sent_number of_request r) → o ≡ greatest_sent of_request (own node id (rs ++ r ∷ []))
  pub sent_response : (o : Option ℕ) → o ≡ greater k.sent_response (sent_number of_response r) → o ≡ greatest_sent of_response (own node id (rs ++ r ∷ []))
  pub mapping_sent : (m : ℕ) (o : Option (Option ℕ)) → o ≡ option_or (option_map (λ e. e.mapping) (entry_of m k.sent_requests)) (request_sent m r) → o ≡ spec.mapping_sent node id m (rs ++ r ∷ [])
  pub answered : (m : ℕ) (b : Bool) → b ≡ (is_some (entry_of m k.sent_responses) || is_reply_to m r) → b ≡ spec.answered node id m (rs ++ r ∷ [])
  pub mapping_delivered : (m : ℕ) (o : Option (Option ℕ)) → o ≡ option_or (option_map (λ e. e.mapping) (entry_of m k.delivered_requests)) (request_delivered m r) → o ≡ spec.mapping_delivered node id m (rs ++ r ∷ [])
  pub delivered_request : (m : ℕ) (o : Option ℕ) → o ≡ option_or (option_map (λ e. e.number) (entry_of m k.delivered_requests)) (cond (is_delivery of_request m r) (Some (length rs)) None) → o ≡ spec.delivered_at node id of_request m (rs ++ r ∷ [])
  pub delivered_response : (m : ℕ) (o : Option ℕ) → o ≡ option_or (option_map (λ e. e.number) (entry_of m k.delivered_responses)) (cond (is_delivery of_response m r) (Some (length rs)) None) → o ≡ spec.delivered_at node id of_response m (rs ++ r ∷ [])

steps : (node : List ℕ) (id : ℕ) (rs : List Record) (r : Record) (k : Known) → is_of node id r ≡ true → IsKnown node id rs k → Steps node id rs r k
steps node id rs r k is h =
    let mine : own node id (rs ++ r ∷ []) ≡ own node id rs ++ r ∷ [] = own_more node id rs r is in
    let opening : option_or (spec.opening node id rs) (opened_context r) ≡ spec.opening node id (rs ++ r ∷ []) = sym (ap (first_of opened_context) mine ∙ first_more opened_context (own node id rs) r) in
    let keys : option_or (spec.keys node id rs) (keyed_after (spec.opening node id rs) r) ≡ spec.keys node id (rs ++ r ∷ []) = sym (ap (keys_behind None) mine ∙ keys_more None (own node id rs) r) in
    let delivered = λ (kind : Kind) (m : ℕ). place_more (λ x. is_of node id x && is_delivery kind m x) 0 (length rs) rs r (omega arith) ∙ ap (λ b. option_or (spec.delivered_at node id kind m rs) (cond (b && is_delivery kind m r) (Some (length rs)) None)) is in
    record {
      used = λ b e. e ∙ ap (λ z. z || takes_id r) h.used ∙ sym (ap (list_any takes_id) mine ∙ any_more takes_id (own node id rs) r);
      opened_stays = λ e. held_stays opened_context rs r k.opened (spec.opening node id rs) h.opened h.opens ∙ or_none (spec.opening node id rs) ∙ ap (option_or (spec.opening node id rs)) e ∙ opening;
      opens_stays = λ e. h.opens ∙ ap is_some (or_none (spec.opening node id rs) ∙ ap (option_or (spec.opening node id rs)) e ∙ opening);
      opened_new = held_new opened_context rs r k.opened (spec.opening node id rs) h.opened h.opens ∙ opening;
      opens_new = λ x e. some_new (length rs) k.opened (spec.opening node id rs) x h.opens ∙ ap (λ z. is_some (option_or (spec.opening node id rs) z)) e ∙ ap is_some opening;
      closed = λ b e. e ∙ ap (λ z. z || is_closed r) h.closed ∙ sym (ap (list_any is_closed) mine ∙ any_more is_closed (own node id rs) r);
      keyed_stays = λ e. held_stays keyed_set rs r k.keyed (spec.keys node id rs) h.keyed h.keys ∙ or_none (spec.keys node id rs) ∙ ap (option_or (spec.keys node id rs)) e ∙ keys;
      keys_stays = λ e. h.keys ∙ ap is_some (or_none (spec.keys node id rs) ∙ ap (option_or (spec.keys node id rs)) e ∙ keys);
      keyed_new = λ e. held_new keyed_set rs r k.keyed (spec.keys node id rs) h.keyed h.keys ∙ ap (option_or (spec.keys node id rs)) e ∙ keys;
      keys_new = λ x e. some_new (length rs) k.keyed (spec.keys node id rs) x h.keys ∙ ap (λ z. is_some (option_or (spec.keys node id rs) z)) e ∙ ap is_some keys;
      sent_request = λ o e. e ∙ ap (λ z. greater z (sent_number of_request r)) h.sent_request ∙ sym (ap (greatest_sent of_request) mine ∙ greatest_more of_request (own node id rs) r);
      sent_response = λ o e. e ∙ ap (λ z. greater z (sent_number of_response r)) h.sent_response ∙ sym (ap (greatest_sent of_response) mine ∙ greatest_more of_response (own node id rs) r);
      mapping_sent = λ m o e. e ∙ ap (λ z. option_or z (request_sent m r)) (h.mapping_sent m) ∙ sym (ap (first_of (request_sent m)) mine ∙ first_more (request_sent m) (own node id rs) r);
      answered = λ m b e. e ∙ ap (λ z. z || is_reply_to m r) (h.answered m) ∙ sym (ap (list_any (is_reply_to m)) mine ∙ any_more (is_reply_to m) (own node id rs) r);
      mapping_delivered = λ m o e. e ∙ ap (λ z. option_or z (request_delivered m r)) (h.mapping_delivered m) ∙ sym (ap (first_of (request_delivered m)) mine ∙ first_more (request_delivered m) (own node id rs) r);
      delivered_request = λ m o e. e ∙ ap (λ z. option_or z (cond (is_delivery of_request m r) (Some (length rs)) None)) (h.delivered_request m) ∙ sym (delivered of_request m);
      delivered_response = λ m o e. e ∙ ap (λ z. option_or z (cond (is_delivery of_response m r) (Some (length rs)) None)) (h.delivered_response m) ∙ sym (delivered of_response m);
    }

-- ---- one lemma a kind of record

no_keys : (o : Option Context) (r : Record) → ((suite : spec.Suite) → None ≡ keyed_for suite r) → None ≡ keyed_after o r
no_keys None r h = refl
no_keys (Some x) r h = h x.suite

fit_keys : (o : Option Context) (n : List ℕ) (i : ℕ) (y : KeySet) → fits_opening o y ≡ true → Some y ≡ keyed_after o (Keyed n i y)
fit_keys None n i y e = cc
fit_keys (Some x) n i y e = ap (λ b. if b then Some y else None) (sym e)

unfit_keys : (o : Option Context) (n : List ℕ) (i : ℕ) (y : KeySet) → fits_opening o y ≡ false → None ≡ keyed_after o (Keyed n i y)
unfit_keys None n i y e = refl
unfit_keys (Some x) n i y e = ap (λ b. if b then Some y else None) (sym e)

offered_known : (node : List ℕ) (id : ℕ) (rs : List Record) (k : Known) (n : List ℕ) (i : ℕ) → is_of node id (Offered n i) ≡ true → IsKnown node id rs k → IsKnown node id (rs ++ Offered n i ∷ []) (noted (length rs) tells.Offered k)
offered_known node id rs k n i is h =
    let s = steps node id rs (Offered n i) k is h in
    record {
      used = s.used true (or_true k.used);
      opened = s.opened_stays refl;
      opens = s.opens_stays refl;
      closed = s.closed k.closed (or_false k.closed);
      keyed = s.keyed_stays (no_keys (spec.opening node id rs) (Offered n i) (λ suite. refl));
      keys = s.keys_stays (no_keys (spec.opening node id rs) (Offered n i) (λ suite. refl));
      sent_request = s.sent_request k.sent_request (greater_none k.sent_request);
      sent_response = s.sent_response k.sent_response (greater_none k.sent_response);
      mapping_sent = λ m. s.mapping_sent m _ (or_none (option_map (λ e. e.mapping) (entry_of m k.sent_requests)));
      answered = λ m. s.answered m _ (or_false (is_some (entry_of m k.sent_responses)));
      mapping_delivered = λ m. s.mapping_delivered m _ (or_none (option_map (λ e. e.mapping) (entry_of m k.delivered_requests)));
      delivered_request = λ m. s.delivered_request m _ (or_none (option_map (λ e. e.number) (entry_of m k.delivered_requests)));
      delivered_response = λ m. s.delivered_response m _ (or_none (option_map (λ e. e.number) (entry_of m k.delivered_responses)));
    }

opened_known : (node : List ℕ) (id : ℕ) (rs : List Record) (k : Known) (y : Context) → is_of node id (Opened y) ≡ true → IsKnown node id rs k → IsKnown node id (rs ++ Opened y ∷ []) (noted (length rs) tells.Opened k)
opened_known node id rs k y is h =
    let s = steps node id rs (Opened y) k is h in
    record {
      used = s.used true (or_true k.used);
      opened = s.opened_new;
      opens = s.opens_new y refl;
      closed = s.closed k.closed (or_false k.closed);
      keyed = s.keyed_stays (no_keys (spec.opening node id rs) (Opened y) (λ suite. refl));
      keys = s.keys_stays (no_keys (spec.opening node id rs) (Opened y) (λ suite. refl));
      sent_request = s.sent_request k.sent_request (greater_none k.sent_request);
      sent_response = s.sent_response k.sent_response (greater_none k.sent_response);
      mapping_sent = λ m. s.mapping_sent m _ (or_none (option_map (λ e. e.mapping) (entry_of m k.sent_requests)));
      answered = λ m. s.answered m _ (or_false (is_some (entry_of m k.sent_responses)));
      mapping_delivered = λ m. s.mapping_delivered m _ (or_none (option_map (λ e. e.mapping) (entry_of m k.delivered_requests)));
      delivered_request = λ m. s.delivered_request m _ (or_none (option_map (λ e. e.number) (entry_of m k.delivered_requests)));
      delivered_response = λ m. s.delivered_response m _ (or_none (option_map (λ e. e.number) (entry_of m k.delivered_responses)));
    }

keyed_known : (node : List ℕ) (id : ℕ) (rs : List Record) (k : Known) (n : List ℕ) (i : ℕ) (y : KeySet) → is_of node id (Keyed n i y) ≡ true → IsKnown node id rs k → fits_opening (spec.opening node id rs) y ≡ true → IsKnown node id (rs ++ Keyed n i y ∷ []) (noted (length rs) tells.Keyed k)
keyed_known node id rs k n i y is h fits =
    let s = steps node id rs (Keyed n i y) k is h in
    record {
      used = s.used k.used (or_false k.used);
      opened = s.opened_stays refl;
      opens = s.opens_stays refl;
      closed = s.closed k.closed (or_false k.closed);
      keyed = s.keyed_new (fit_keys (spec.opening node id rs) n i y fits);
      keys = s.keys_new y (fit_keys (spec.opening node id rs) n i y fits);
      sent_request = s.sent_request k.sent_request (greater_none k.sent_request);
      sent_response = s.sent_response k.sent_response (greater_none k.sent_response);
      mapping_sent = λ m. s.mapping_sent m _ (or_none (option_map (λ e. e.mapping) (entry_of m k.sent_requests)));
      answered = λ m. s.answered m _ (or_false (is_some (entry_of m k.sent_responses)));
      mapping_delivered = λ m. s.mapping_delivered m _ (or_none (option_map (λ e. e.mapping) (entry_of m k.delivered_requests)));
      delivered_request = λ m. s.delivered_request m _ (or_none (option_map (λ e. e.number) (entry_of m k.delivered_requests)));
      delivered_response = λ m. s.delivered_response m _ (or_none (option_map (λ e. e.number) (entry_of m k.delivered_responses)));
    }

unfit_known : (node : List ℕ) (id : ℕ) (rs : List Record) (k : Known) (n : List ℕ) (i : ℕ) (y : KeySet) → is_of node id (Keyed n i y) ≡ true → IsKnown node id rs k → fits_opening (spec.opening node id rs) y ≡ false → IsKnown node id (rs ++ Keyed n i y ∷ []) (k)
unfit_known node id rs k n i y is h fits =
    let s = steps node id rs (Keyed n i y) k is h in
    record {
      used = s.used k.used (or_false k.used);
      opened = s.opened_stays refl;
      opens = s.opens_stays refl;
      closed = s.closed k.closed (or_false k.closed);
      keyed = s.keyed_stays (unfit_keys (spec.opening node id rs) n i y fits);
      keys = s.keys_stays (unfit_keys (spec.opening node id rs) n i y fits);
      sent_request = s.sent_request k.sent_request (greater_none k.sent_request);
      sent_response = s.sent_response k.sent_response (greater_none k.sent_response);
      mapping_sent = λ m. s.mapping_sent m _ (or_none (option_map (λ e. e.mapping) (entry_of m k.sent_requests)));
      answered = λ m. s.answered m _ (or_false (is_some (entry_of m k.sent_responses)));
      mapping_delivered = λ m. s.mapping_delivered m _ (or_none (option_map (λ e. e.mapping) (entry_of m k.delivered_requests)));
      delivered_request = λ m. s.delivered_request m _ (or_none (option_map (λ e. e.number) (entry_of m k.delivered_requests)));
      delivered_response = λ m. s.delivered_response m _ (or_none (option_map (λ e. e.number) (entry_of m k.delivered_responses)));
    }

sent_request_known : (node : List ℕ) (id : ℕ) (rs : List Record) (k : Known) (n : List ℕ) (i q c : ℕ) (p : Option ℕ) → is_of node id (Sent n i of_request q c p) ≡ true → IsKnown node id rs k → IsKnown node id (rs ++ Sent n i of_request q c p ∷ []) (noted (length rs) (tells.SentRequest q c p) k)
sent_request_known node id rs k n i q c p is h =
    let s = steps node id rs (Sent n i of_request q c p) k is h in
    record {
      used = s.used k.used (or_false k.used);
      opened = s.opened_stays refl;
      opens = s.opens_stays refl;
      closed = s.closed k.closed (or_false k.closed);
      keyed = s.keyed_stays (no_keys (spec.opening node id rs) (Sent n i of_request q c p) (λ suite. refl));
      keys = s.keys_stays (no_keys (spec.opening node id rs) (Sent n i of_request q c p) (λ suite. refl));
      sent_request = s.sent_request _ refl;
      sent_response = s.sent_response k.sent_response (greater_none k.sent_response);
      mapping_sent = λ m. s.mapping_sent m _ (told (λ e. e.mapping) m c (entry (length rs) p) k.sent_requests);
      answered = λ m. s.answered m _ (or_false (is_some (entry_of m k.sent_responses)));
      mapping_delivered = λ m. s.mapping_delivered m _ (or_none (option_map (λ e. e.mapping) (entry_of m k.delivered_requests)));
      delivered_request = λ m. s.delivered_request m _ (or_none (option_map (λ e. e.number) (entry_of m k.delivered_requests)));
      delivered_response = λ m. s.delivered_response m _ (or_none (option_map (λ e. e.number) (entry_of m k.delivered_responses)));
    }

sent_response_known : (node : List ℕ) (id : ℕ) (rs : List Record) (k : Known) (n : List ℕ) (i q c : ℕ) (p : Option ℕ) → is_of node id (Sent n i of_response q c p) ≡ true → IsKnown node id rs k → IsKnown node id (rs ++ Sent n i of_response q c p ∷ []) (noted (length rs) (tells.SentResponse q c p) k)
sent_response_known node id rs k n i q c p is h =
    let s = steps node id rs (Sent n i of_response q c p) k is h in
    record {
      used = s.used k.used (or_false k.used);
      opened = s.opened_stays refl;
      opens = s.opens_stays refl;
      closed = s.closed k.closed (or_false k.closed);
      keyed = s.keyed_stays (no_keys (spec.opening node id rs) (Sent n i of_response q c p) (λ suite. refl));
      keys = s.keys_stays (no_keys (spec.opening node id rs) (Sent n i of_response q c p) (λ suite. refl));
      sent_request = s.sent_request k.sent_request (greater_none k.sent_request);
      sent_response = s.sent_response _ refl;
      mapping_sent = λ m. s.mapping_sent m _ (or_none (option_map (λ e. e.mapping) (entry_of m k.sent_requests)));
      answered = λ m. s.answered m _ (some_told m c (entry (length rs) p) k.sent_responses);
      mapping_delivered = λ m. s.mapping_delivered m _ (or_none (option_map (λ e. e.mapping) (entry_of m k.delivered_requests)));
      delivered_request = λ m. s.delivered_request m _ (or_none (option_map (λ e. e.number) (entry_of m k.delivered_requests)));
      delivered_response = λ m. s.delivered_response m _ (or_none (option_map (λ e. e.number) (entry_of m k.delivered_responses)));
    }

delivered_request_known : (node : List ℕ) (id : ℕ) (rs : List Record) (k : Known) (n : List ℕ) (i c : ℕ) (p : Option ℕ) → is_of node id (Delivered n i of_request c p) ≡ true → IsKnown node id rs k → IsKnown node id (rs ++ Delivered n i of_request c p ∷ []) (noted (length rs) (tells.DeliveredRequest c p) k)
delivered_request_known node id rs k n i c p is h =
    let s = steps node id rs (Delivered n i of_request c p) k is h in
    record {
      used = s.used k.used (or_false k.used);
      opened = s.opened_stays refl;
      opens = s.opens_stays refl;
      closed = s.closed k.closed (or_false k.closed);
      keyed = s.keyed_stays (no_keys (spec.opening node id rs) (Delivered n i of_request c p) (λ suite. refl));
      keys = s.keys_stays (no_keys (spec.opening node id rs) (Delivered n i of_request c p) (λ suite. refl));
      sent_request = s.sent_request k.sent_request (greater_none k.sent_request);
      sent_response = s.sent_response k.sent_response (greater_none k.sent_response);
      mapping_sent = λ m. s.mapping_sent m _ (or_none (option_map (λ e. e.mapping) (entry_of m k.sent_requests)));
      answered = λ m. s.answered m _ (or_false (is_some (entry_of m k.sent_responses)));
      mapping_delivered = λ m. s.mapping_delivered m _ (told (λ e. e.mapping) m c (entry (length rs) p) k.delivered_requests);
      delivered_request = λ m. s.delivered_request m _ (told (λ e. e.number) m c (entry (length rs) p) k.delivered_requests);
      delivered_response = λ m. s.delivered_response m _ (or_none (option_map (λ e. e.number) (entry_of m k.delivered_responses)));
    }

delivered_response_known : (node : List ℕ) (id : ℕ) (rs : List Record) (k : Known) (n : List ℕ) (i c : ℕ) (p : Option ℕ) → is_of node id (Delivered n i of_response c p) ≡ true → IsKnown node id rs k → IsKnown node id (rs ++ Delivered n i of_response c p ∷ []) (noted (length rs) (tells.DeliveredResponse c p) k)
delivered_response_known node id rs k n i c p is h =
    let s = steps node id rs (Delivered n i of_response c p) k is h in
    record {
      used = s.used k.used (or_false k.used);
      opened = s.opened_stays refl;
      opens = s.opens_stays refl;
      closed = s.closed k.closed (or_false k.closed);
      keyed = s.keyed_stays (no_keys (spec.opening node id rs) (Delivered n i of_response c p) (λ suite. refl));
      keys = s.keys_stays (no_keys (spec.opening node id rs) (Delivered n i of_response c p) (λ suite. refl));
      sent_request = s.sent_request k.sent_request (greater_none k.sent_request);
      sent_response = s.sent_response k.sent_response (greater_none k.sent_response);
      mapping_sent = λ m. s.mapping_sent m _ (or_none (option_map (λ e. e.mapping) (entry_of m k.sent_requests)));
      answered = λ m. s.answered m _ (or_false (is_some (entry_of m k.sent_responses)));
      mapping_delivered = λ m. s.mapping_delivered m _ (or_none (option_map (λ e. e.mapping) (entry_of m k.delivered_requests)));
      delivered_request = λ m. s.delivered_request m _ (or_none (option_map (λ e. e.number) (entry_of m k.delivered_requests)));
      delivered_response = λ m. s.delivered_response m _ (told (λ e. e.number) m c (entry (length rs) p) k.delivered_responses);
    }

closed_known : (node : List ℕ) (id : ℕ) (rs : List Record) (k : Known) (n : List ℕ) (i : ℕ) → is_of node id (Closed n i) ≡ true → IsKnown node id rs k → IsKnown node id (rs ++ Closed n i ∷ []) (noted (length rs) tells.Closed k)
closed_known node id rs k n i is h =
    let s = steps node id rs (Closed n i) k is h in
    record {
      used = s.used k.used (or_false k.used);
      opened = s.opened_stays refl;
      opens = s.opens_stays refl;
      closed = s.closed true (or_true k.closed);
      keyed = s.keyed_stays (no_keys (spec.opening node id rs) (Closed n i) (λ suite. refl));
      keys = s.keys_stays (no_keys (spec.opening node id rs) (Closed n i) (λ suite. refl));
      sent_request = s.sent_request k.sent_request (greater_none k.sent_request);
      sent_response = s.sent_response k.sent_response (greater_none k.sent_response);
      mapping_sent = λ m. s.mapping_sent m _ (or_none (option_map (λ e. e.mapping) (entry_of m k.sent_requests)));
      answered = λ m. s.answered m _ (or_false (is_some (entry_of m k.sent_responses)));
      mapping_delivered = λ m. s.mapping_delivered m _ (or_none (option_map (λ e. e.mapping) (entry_of m k.delivered_requests)));
      delivered_request = λ m. s.delivered_request m _ (or_none (option_map (λ e. e.number) (entry_of m k.delivered_requests)));
      delivered_response = λ m. s.delivered_response m _ (or_none (option_map (λ e. e.number) (entry_of m k.delivered_responses)));
    }

pub known_more : (node : List ℕ) (id : ℕ) (rs : List Record) (r : Record) (k : Known) → is_of node id r ≡ true → IsKnown node id rs k → IsKnown node id (rs ++ r ∷ []) (noted (length rs) (fact_of (spec.opening node id rs) r) k)
known_more node id rs (Offered n i) k is h = offered_known node id rs k n i is h
known_more node id rs (Opened y) k is h = opened_known node id rs k y is h
known_more node id rs (Keyed n i y) k is h = by (fits_opening (spec.opening node id rs) y) refl
  where
    by : (b : Bool) → fits_opening (spec.opening node id rs) y ≡ b → IsKnown node id (rs ++ Keyed n i y ∷ []) (noted (length rs) (if b then tells.Keyed else tells.Nothing) k)
    by true e = keyed_known node id rs k n i y is h e
    by false e = unfit_known node id rs k n i y is h e
known_more node id rs (Sent n i of_request q c p) k is h = sent_request_known node id rs k n i q c p is h
known_more node id rs (Sent n i of_response q c p) k is h = sent_response_known node id rs k n i q c p is h
known_more node id rs (Delivered n i of_request c p) k is h = delivered_request_known node id rs k n i c p is h
known_more node id rs (Delivered n i of_response c p) k is h = delivered_response_known node id rs k n i c p is h
known_more node id rs (Closed n i) k is h = closed_known node id rs k n i is h

-- ---- a record of another context

pub known_other : (node : List ℕ) (id : ℕ) (rs : List Record) (r : Record) (k : Known) → is_of node id r ≡ false → IsKnown node id rs k → IsKnown node id (rs ++ r ∷ []) k
known_other node id rs r k other h =
    let same : own node id rs ≡ own node id (rs ++ r ∷ []) = sym (own-append_other node id rs r other) in
    record {
      used = h.used ∙ ap (list_any takes_id) same;
      opened = held_stays opened_context rs r k.opened (spec.opening node id rs) h.opened h.opens ∙ ap (first_of opened_context) same;
      opens = h.opens ∙ ap (λ z. is_some (first_of opened_context z)) same;
      closed = h.closed ∙ ap (list_any is_closed) same;
      keyed = held_stays keyed_set rs r k.keyed (spec.keys node id rs) h.keyed h.keys ∙ ap (keys_behind None) same;
      keys = h.keys ∙ ap (λ z. is_some (keys_behind None z)) same;
      sent_request = h.sent_request ∙ ap (greatest_sent of_request) same;
      sent_response = h.sent_response ∙ ap (greatest_sent of_response) same;
      mapping_sent = λ m. h.mapping_sent m ∙ ap (first_of (request_sent m)) same;
      answered = λ m. h.answered m ∙ ap (list_any (is_reply_to m)) same;
      mapping_delivered = λ m. h.mapping_delivered m ∙ ap (first_of (request_delivered m)) same;
      delivered_request = λ m. h.delivered_request m ∙ sym (delivered_at-other node id of_request m rs r other);
      delivered_response = λ m. h.delivered_response m ∙ sym (delivered_at-other node id of_response m rs r other);
    }

-- ---- the table

pub mirror_same : (old new : List Kept) (rs : List Record) → ((n : List ℕ) (i : ℕ) → known_at n i new ≡ known_at n i old) → IsMirror old rs → IsMirror new rs
mirror_same old new rs same h = λ node id. subst (λ k. IsKnown node id rs k) (sym (same node id)) (h node id)

named_back : (n : List ℕ) (i : ℕ) (r : Record) → is_named n i (node_of r) (context_of r) ≡ is_of n i r
named_back n i r = ap (λ b. b && (i == context_of r)) (texts_back n (node_of r)) ∙ ap (λ b. bytes_eq (node_of r) n && b) (eq_back i (context_of r))
  where
    texts_back : (a b : List ℕ) → bytes_eq a b ≡ bytes_eq b a
    texts_back a b = by (bytes_eq a b) (bytes_eq b a) refl refl
      where
        by : (x y : Bool) → bytes_eq a b ≡ x → bytes_eq b a ≡ y → x ≡ y
        by true true e f = refl
        by false false e f = refl
        by true false e f = let clash : bytes_eq b a ≡ true = (bytes_decides b a).1 (sym ((bytes_decides a b).0 e)) in cc
        by false true e f = let clash : bytes_eq a b ≡ true = (bytes_decides a b).1 (sym ((bytes_decides b a).0 f)) in cc

-- the record is noted, and the table is of the records with it
pub mirror_more : (old new : List Kept) (rs : List Record) (r : Record) → IsMirror old rs
    → ((n : List ℕ) (i : ℕ) → known_at n i new ≡ (if is_named n i (node_of r) (context_of r) then noted (length rs) (fact_of (spec.opening (node_of r) (context_of r) rs) r) (known_at (node_of r) (context_of r) old) else known_at n i old))
    → IsMirror new (rs ++ r ∷ [])
mirror_more old new rs r h is = λ node id. subst (λ k. IsKnown node id (rs ++ r ∷ []) k) (sym (is node id ∙ ap (λ b. if b then noted (length rs) (fact_of (spec.opening (node_of r) (context_of r) rs) r) (known_at (node_of r) (context_of r) old) else known_at node id old) (named_back node id r))) (by node id (is_of node id r) refl)
  where
    by : (node : List ℕ) (id : ℕ) (b : Bool) → is_of node id r ≡ b → IsKnown node id (rs ++ r ∷ []) (if b then noted (length rs) (fact_of (spec.opening (node_of r) (context_of r) rs) r) (known_at (node_of r) (context_of r) old) else known_at node id old)
    by node id false e = known_other node id rs r (known_at node id old) e (h node id)
    by node id true e =
        let parts = and_parts (bytes_eq (node_of r) node) (context_of r == id) e in
        let named : node ≡ node_of r = sym ((bytes_decides (node_of r) node).0 parts.0) in
        let same : id ≡ context_of r = sym (eqb-true (context_of r) id parts.1) in
        subst (λ n. IsKnown node id (rs ++ r ∷ []) (noted (length rs) (fact_of (spec.opening n (context_of r) rs) r) (known_at n (context_of r) old))) named
        (subst (λ i. IsKnown node id (rs ++ r ∷ []) (noted (length rs) (fact_of (spec.opening node i rs) r) (known_at node i old))) same
        (known_more node id rs r (known_at node id old) e (h node id)))
