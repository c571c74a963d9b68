-- Over runs: each message is delivered once at most, and each number sent once at most.
use Rattle.std.proofs.Common.{◌≡◌, ℕ, ◌+◌, ◌≤◌, Bool, true, false, ◌||◌, List, [], ◌∷◌, ◌++◌, Option, Some, None, Result, Ok, Err, refl, sym, ap, ◌∙◌, cond, arith}
use Rattle.std.specs.Prelude.{bytes_eq, count_by, is_some, ◌==◌}
use Rattle.std.specs.List.{list_any}
use Rattle.std.proofs.lemmas.Bool.{and_parts, and_from, or_right, eqb-true}
use Rattle.std.proofs.lemmas.List.Folds.{list_any-append}
use Rattle.std.proofs.lemmas.List.Sums.{sum_by-cons}
use Rattle.std.proofs.lemmas.Slice.Eq.{bytes_eq-Decides}
use Rattle.spec_messages.specs.Message.{Kind, of_request, of_response}
use Rattle.spec_records.specs.Records.{same_kind, Record, is_of, own, is_delivery, is_numbered, was_delivered, was_sent, delivered_at}
use Rattle.spec_records.proofs.RecordLemmas.{own-append, delivered_at-is_some, next_seq-new}
use Rattle.spec_exchange.specs.SendingRefusals as sending
use Rattle.spec_exchange.specs.Stages.{Delivery}
use Rattle.spec_exchange.specs.Outside.{Cause, with_put}
use Rattle.spec_exchange.specs.Calls.{Sealed, Outgoing, delivered_record, sent_record, accepted, sends, protected, Choices}
use Rattle.spec_exchange.specs.Runs.{Call, Deliver, Send, Puts, Reply, Told, Made, told, made, reply_of, after, replies, delivers, numbers, Event}
use Rattle.spec_exchange.proofs.ChainLemmas.{IsNew, IsNext, protected-ok, puts-ok}
use Rattle.spec_exchange.specs.AcceptRefusals as accepting
use Rattle.spec_exchange.specs.Screens.{Passes}
use Rattle.spec_exchange.specs.Accepting.{first_failed}
use Rattle.spec_exchange.proofs.AcceptLemmas.{accepted-passed}

-- ---- records of one context

same_kind-is : (a b : Kind) → same_kind a b ≡ true → a ≡ b
same_kind-is of_request of_request e = refl
same_kind-is of_response of_response e = refl
same_kind-is of_request of_response e = cc
same_kind-is of_response of_request e = cc

own_any-append : (p : Record → Bool) (node : List ℕ) (id : ℕ) (xs ys : List Record) → list_any p (own node id (xs ++ ys)) ≡ (list_any p (own node id xs) || list_any p (own node id ys))
own_any-append p node id xs ys = ap (list_any p) (own-append node id xs ys) ∙ list_any-append p (own node id xs) (own node id ys)

one_found : (p : Record → Bool) (node : List ℕ) (id : ℕ) (r : Record) → is_of node id r ≡ true → p r ≡ true → list_any p (own node id (r ∷ [])) ≡ true
one_found p node id r at passes = rw at (ap (λ b. b || false) passes)

pub never_delivered : (node : List ℕ) (id : ℕ) (kind : Kind) (message : ℕ) (records : List Record) → delivered_at node id kind message records ≡ None → was_delivered node id kind message records ≡ false
never_delivered node id kind message records e = sym (delivered_at-is_some node id kind message records) ∙ ap is_some e

-- as a number
abbrev pub bit : Bool → ℕ
bit b = cond b 1 0

pub bit-below : (b : Bool) → bit b ≤ 1
bit-below true = omega arith
bit-below false = omega arith

bit-or : (a b : Bool) → bit a ≤ bit (a || b)
bit-or true b = omega arith
bit-or false true = omega arith
bit-or false false = omega arith

-- what a test finds among the records of a context, it finds in more records
pub held-more : (p : Record → Bool) (node : List ℕ) (id : ℕ) (records : List Record) (o : Option Record) → bit (list_any p (own node id records)) ≤ bit (list_any p (own node id (with_put records o)))
held-more p node id records None = omega arith
held-more p node id records (Some r) = rw own_any-append (bit-or (list_any p (own node id records)) (list_any p (own node id (r ∷ []))))

-- a count in a run that a step's potential bounds
counted : (passes : Passes) (p : Reply → Bool) (held : List Record → Bool)
    → ((records : List Record) (f : Choices) (call : Call) → bit (p (reply_of passes records f call)) + bit (held records) ≤ bit (held (after passes records f call)))
    → (records : List Record) (events : List Event) → count_by p (replies passes records events) + bit (held records) ≤ 1
counted passes p held step records [] = omega (arith, bit-below (held records))
counted passes p held step records (e ∷ es) =
    omega (arith, sum_by-cons (λ x. bit (p x)) (reply_of passes records e.0 e.1) (replies passes (after passes records e.0 e.1) es), step records e.0 e.1, counted passes p held step (after passes records e.0 e.1) es)

-- one more record of a context, where there was none that passes
pub newly : (p : Record → Bool) (node : List ℕ) (id : ℕ) (records : List Record) (o : Option Record) (r : Record) → list_any p (own node id records) ≡ false → o ≡ Some r → is_of node id r ≡ true → p r ≡ true
    → 1 + bit (list_any p (own node id records)) ≤ bit (list_any p (own node id (with_put records o)))
newly p node id records o r none put at passes =
    let found : list_any p (own node id (with_put records o)) ≡ true = ap (λ z. list_any p (own node id (with_put records z))) put ∙ (own_any-append p node id records (r ∷ []) ∙ or_right _ _ (one_found p node id r at passes)) in
    rw (none, found) (omega arith)

-- ---- deliveries

-- a delivery of this message is of one that was new
pub delivered-new : (node : List ℕ) (id : ℕ) (kind : Kind) (message : ℕ) (records : List Record) (at : List ℕ) (d : Delivery) → IsNew records at d → delivers node id kind message (Told d) ≡ true
    → was_delivered node id kind message records ≡ false
delivered-new node id kind message records at d new e =
    let a = and_parts (bytes_eq d.node node) _ e in
    let b = and_parts (d.id == id) _ a.1 in
    let k = and_parts (same_kind d.kind kind) _ b.1 in
    let same_node : d.node ≡ node = (bytes_eq-Decides d.node node).0 a.0 in
    let same_id : d.id ≡ id = eqb-true d.id id b.0 in
    let same_kinds : d.kind ≡ kind = same_kind-is d.kind kind k.0 in
    let same_message : d.message ≡ message = eqb-true d.message message k.1 in
    never_delivered node id kind message records (cc (new.never))

delivered-step : (passes : Passes) (node : List ℕ) (id : ℕ) (kind : Kind) (message : ℕ) (records : List Record) (f : Choices) (call : Call)
    → bit (delivers node id kind message (reply_of passes records f call)) + bit (was_delivered node id kind message records) ≤ bit (was_delivered node id kind message (after passes records f call))
delivered-step passes node id kind message records f (Puts o) = omega (arith, held-more (is_delivery kind message) node id records o)
delivered-step passes node id kind message records f (Send at i o content) = sent (sends f.keeper records at i o content).result
  where
    sent : (r : Result Sealed (Cause sending.Refusal)) → bit (delivers node id kind message (made r)) + bit (was_delivered node id kind message records) ≤ bit (was_delivered node id kind message (after passes records f (Send at i o content)))
    sent (Ok s) = omega (arith, held-more (is_delivery kind message) node id records (sends f.keeper records at i o content).put)
    sent (Err d) = omega (arith, held-more (is_delivery kind message) node id records (sends f.keeper records at i o content).put)
delivered-step passes node id kind message records f (Deliver at t) = came (accepted passes f records at t).result refl
  where
    one : (d : Delivery) (b : Bool) → (accepted passes f records at t).result ≡ Ok d → delivers node id kind message (Told d) ≡ b
        → bit b + bit (was_delivered node id kind message records) ≤ bit (was_delivered node id kind message (after passes records f (Deliver at t)))
    one d false e h = omega (arith, held-more (is_delivery kind message) node id records (accepted passes f records at t).put)
    one d true e h =
        let p = puts-ok f.keeper.reading (first_failed passes f.verifier records at t) f.keeper.putting delivered_record d e in
        let a = and_parts (bytes_eq d.node node) _ h in
        let b = and_parts (d.id == id) _ a.1 in
        newly (is_delivery kind message) node id records (accepted passes f records at t).put (delivered_record d)
        (delivered-new node id kind message records at d (accepted-passed passes f.verifier records at t d p.0).new h)
        p.1 (and_from _ _ a.0 b.0) b.1

    came : (r : Result Delivery (Cause accepting.Refusal)) → (accepted passes f records at t).result ≡ r
        → bit (delivers node id kind message (told r)) + bit (was_delivered node id kind message records) ≤ bit (was_delivered node id kind message (after passes records f (Deliver at t)))
    came (Err d) e = omega (arith, held-more (is_delivery kind message) node id records (accepted passes f records at t).put)
    came (Ok d) e = one d (delivers node id kind message (Told d)) e refl

pub delivered-once : (passes : Passes) (records : List Record) (events : List Event) (node : List ℕ) (id : ℕ) (kind : Kind) (message : ℕ)
    → count_by (delivers node id kind message) (replies passes records events) + bit (was_delivered node id kind message records) ≤ 1
delivered-once passes records events node id kind message = counted passes (delivers node id kind message) (was_delivered node id kind message) (delivered-step passes node id kind message) records events

-- ---- numbers

-- a document of this number is of one that was not sent before
pub numbered-new : (node : List ℕ) (id : ℕ) (kind : Kind) (seq : ℕ) (records : List Record) (at : List ℕ) (i : ℕ) (o : Outgoing) (s : Sealed) → IsNext records at i o s → numbers node id kind seq (Made s) ≡ true
    → was_sent node id kind seq records ≡ false
numbered-new node id kind seq records at i o s next e =
    let a = and_parts (bytes_eq s.node node) _ e in
    let b = and_parts (s.id == id) _ a.1 in
    let k = and_parts (same_kind s.kind kind) _ b.1 in
    let same_node : s.node ≡ node = (bytes_eq-Decides s.node node).0 a.0 in
    let same_id : s.id ≡ id = eqb-true s.id id b.0 in
    let same_kinds : s.kind ≡ kind = same_kind-is s.kind kind k.0 in
    let same_seq : s.seq ≡ seq = eqb-true s.seq seq k.1 in
    next_seq-new node id kind seq records (cc (next.next, next.node_is, next.id_is, next.kind_is))

numbered-step : (passes : Passes) (node : List ℕ) (id : ℕ) (kind : Kind) (seq : ℕ) (records : List Record) (f : Choices) (call : Call)
    → bit (numbers node id kind seq (reply_of passes records f call)) + bit (was_sent node id kind seq records) ≤ bit (was_sent node id kind seq (after passes records f call))
numbered-step passes node id kind seq records f (Puts o) = omega (arith, held-more (is_numbered kind seq) node id records o)
numbered-step passes node id kind seq records f (Deliver at t) = came (accepted passes f records at t).result
  where
    came : (r : Result Delivery (Cause accepting.Refusal)) → bit (numbers node id kind seq (told r)) + bit (was_sent node id kind seq records) ≤ bit (was_sent node id kind seq (after passes records f (Deliver at t)))
    came (Ok d) = omega (arith, held-more (is_numbered kind seq) node id records (accepted passes f records at t).put)
    came (Err d) = omega (arith, held-more (is_numbered kind seq) node id records (accepted passes f records at t).put)
numbered-step passes node id kind seq records f (Send at i o content) = sent (sends f.keeper records at i o content).result refl
  where
    one : (s : Sealed) (b : Bool) → (sends f.keeper records at i o content).result ≡ Ok s → numbers node id kind seq (Made s) ≡ b
        → bit b + bit (was_sent node id kind seq records) ≤ bit (was_sent node id kind seq (after passes records f (Send at i o content)))
    one s false e h = omega (arith, held-more (is_numbered kind seq) node id records (sends f.keeper records at i o content).put)
    one s true e h =
        let p = puts-ok f.keeper.reading (protected records at i o content) f.keeper.putting sent_record s e in
        let a = and_parts (bytes_eq s.node node) _ h in
        let b = and_parts (s.id == id) _ a.1 in
        newly (is_numbered kind seq) node id records (sends f.keeper records at i o content).put (sent_record s)
        (numbered-new node id kind seq records at i o s (protected-ok records at i o content s p.0) h)
        p.1 (and_from _ _ a.0 b.0) b.1

    sent : (r : Result Sealed (Cause sending.Refusal)) → (sends f.keeper records at i o content).result ≡ r
        → bit (numbers node id kind seq (made r)) + bit (was_sent node id kind seq records) ≤ bit (was_sent node id kind seq (after passes records f (Send at i o content)))
    sent (Err d) e = omega (arith, held-more (is_numbered kind seq) node id records (sends f.keeper records at i o content).put)
    sent (Ok s) e = one s (numbers node id kind seq (Made s)) e refl

pub numbered-once : (passes : Passes) (records : List Record) (events : List Event) (node : List ℕ) (id : ℕ) (kind : Kind) (seq : ℕ)
    → count_by (numbers node id kind seq) (replies passes records events) + bit (was_sent node id kind seq records) ≤ 1
numbered-once passes records events node id kind seq = counted passes (numbers node id kind seq) (was_sent node id kind seq) (numbered-step passes node id kind seq) records events

-- what a count and a bit of at most 1 in all say
pub alone : (n : ℕ) (b : Bool) → n + bit b ≤ 1 → b ≡ true → n ≡ 0
alone n true h e = omega arith
alone n false h e = cc
