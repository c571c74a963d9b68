-- What the questions on records answer after more records, and over the records of one context.
use Rattle.std.proofs.Common.{◌≡◌, ℕ, ◌+◌, ◌≤◌, ◌^◌, max, Bool, true, false, ◌&&◌, ◌||◌, List, [], ◌∷◌, ◌++◌, Option, Some, None, is_some, refl, sym, ap, ◌∙◌, subst, cond, arith, ⊎_elim}
use Rattle.std.specs.Prelude.{filter, nat_lt}
use Rattle.std.specs.List.{list_any, position_from}
use Rattle.std.specs.Option.{option_or}
use Rattle.std.proofs.lemmas.List.Elements.{filter-append}
use Rattle.std.proofs.lemmas.List.Folds.{list_any-append}
use Rattle.std.proofs.lemmas.List.{append-nil}
use Rattle.std.proofs.lemmas.Bool.{and_parts, eqb-true, or_cases}
use Rattle.spec_messages.specs.Message.{Kind}
use Rattle.spec_records.specs.Records.{KeySet, Context, Record, Sent, same_kind, is_of, own, first_of, opened_context, takes_id, sent_number, is_delivery, greater, greatest_sent, seq_at, seq_after, seq_with, used, opening, keys, was_delivered, delivered_at, next_seq, is_numbered, was_sent}

-- ---- searches

option_or_assoc : {X : Type 0} (a b c : Option X) → option_or (option_or a b) c ≡ option_or a (option_or b c)
option_or_assoc None b c = refl
option_or_assoc (Some x) b c = refl

pub first_of-append : {X Y : Type 0} (f : X → Option Y) (xs ys : List X) → first_of f (xs ++ ys) ≡ option_or (first_of f xs) (first_of f ys)
first_of-append f [] ys = refl
first_of-append f (x ∷ xs) ys = ap (option_or (f x)) (first_of-append f xs ys) ∙ sym (option_or_assoc (f x) (first_of f xs) (first_of f ys))

pub position_from-is_some : {X : Type 0} (p : X → Bool) (k : ℕ) (xs : List X) → is_some (position_from p k xs) ≡ list_any p xs
position_from-is_some p k [] = refl
position_from-is_some p k (x ∷ xs) = found (p x) (position_from-is_some p (k + 1) xs)
  where
    found : (b : Bool) → is_some (position_from p (k + 1) xs) ≡ list_any p xs → is_some (cond b (Some k) (position_from p (k + 1) xs)) ≡ (b || list_any p xs)
    found true h = refl
    found false h = h

-- one more that does not pass changes no place
pub position_from-other : {X : Type 0} (p : X → Bool) (k : ℕ) (xs : List X) (y : X) → p y ≡ false → position_from p k (xs ++ y ∷ []) ≡ position_from p k xs
position_from-other p k [] y e = rw e
position_from-other p k (x ∷ xs) y e = ap (cond (p x) (Some k)) (position_from-other p (k + 1) xs y e)

-- a search among those that pass q
pub list_any-filter : {X : Type 0} (p q : X → Bool) (xs : List X) → list_any p (filter q xs) ≡ list_any (λ x. q x && p x) xs
list_any-filter p q [] = refl
list_any-filter p q (x ∷ xs) = passed (q x) (list_any-filter p q xs)
  where
    passed : (b : Bool) → list_any p (filter q xs) ≡ list_any (λ x. q x && p x) xs → list_any p (cond b (x ∷ filter q xs) (filter q xs)) ≡ ((b && p x) || list_any (λ x. q x && p x) xs)
    passed true h = ap (λ r. p x || r) h
    passed false h = h

-- ---- the records of one context

pub own-append : (node : List ℕ) (id : ℕ) (xs ys : List Record) → own node id (xs ++ ys) ≡ own node id xs ++ own node id ys
own-append node id xs ys = filter-append (is_of node id) xs ys

own-other : (node : List ℕ) (id : ℕ) (r : Record) → is_of node id r ≡ false → own node id (r ∷ []) ≡ []
own-other node id r e = rw e

pub own-append_other : (node : List ℕ) (id : ℕ) (records : List Record) (r : Record) → is_of node id r ≡ false → own node id (records ++ r ∷ []) ≡ own node id records
own-append_other node id records r e = own-append node id records (r ∷ []) ∙ (ap (λ rs. own node id records ++ rs) (own-other node id r e) ∙ append-nil (own node id records))

pub delivered_at-other : (node : List ℕ) (id : ℕ) (kind : Kind) (message : ℕ) (records : List Record) (r : Record) → is_of node id r ≡ false → delivered_at node id kind message (records ++ r ∷ []) ≡ delivered_at node id kind message records
delivered_at-other node id kind message records r e = position_from-other (λ x. is_of node id x && is_delivery kind message x) 0 records r (ap (λ b. b && is_delivery kind message r) e)

-- ---- what stays

used-append : (node : List ℕ) (id : ℕ) (xs ys : List Record) → used node id (xs ++ ys) ≡ (used node id xs || used node id ys)
used-append node id xs ys = ap (list_any takes_id) (own-append node id xs ys) ∙ list_any-append takes_id (own node id xs) (own node id ys)

pub used-stays : (node : List ℕ) (id : ℕ) (first more : List Record) → used node id first ≡ true → used node id (first ++ more) ≡ true
used-stays node id first more e = used-append node id first more ∙ ap (λ b. b || used node id more) e

opening-append : (node : List ℕ) (id : ℕ) (xs ys : List Record) → opening node id (xs ++ ys) ≡ option_or (opening node id xs) (opening node id ys)
opening-append node id xs ys = ap (first_of opened_context) (own-append node id xs ys) ∙ first_of-append opened_context (own node id xs) (own node id ys)

pub opening-stays : (node : List ℕ) (id : ℕ) (first more : List Record) (x : Context) → opening node id first ≡ Some x → opening node id (first ++ more) ≡ Some x
opening-stays node id first more x e = opening-append node id first more ∙ ap (λ o. option_or o (opening node id more)) e

pub delivered_at-is_some : (node : List ℕ) (id : ℕ) (kind : Kind) (message : ℕ) (records : List Record) → is_some (delivered_at node id kind message records) ≡ was_delivered node id kind message records
delivered_at-is_some node id kind message records = position_from-is_some (λ r. is_of node id r && is_delivery kind message r) 0 records ∙ sym (list_any-filter (is_delivery kind message) (is_of node id) records)

-- ---- numbers

-- a number among those that were sent is at most the greatest of them
pub record AtMostGreatest (kind : Kind) (seq : ℕ) (greatest : Option ℕ) : Type 0 where
  pub value : ℕ
  pub is : greatest ≡ Some value
  pub above : seq ≤ value

numbered_number : (kind : Kind) (seq : ℕ) (r : Record) → is_numbered kind seq r ≡ true → sent_number kind r ≡ Some seq
numbered_number kind seq (Sent n i k s m p) e =
    let a = and_parts (same_kind k kind) _ e in
    let same : s ≡ seq = eqb-true s seq a.1 in
    rw (a.0, same)
numbered_number kind seq _ e = cc

greater-left : (kind : Kind) (a : ℕ) (o : Option ℕ) → AtMostGreatest kind a (greater (Some a) o)
greater-left kind a None = record { value = a; is = refl; above = omega arith }
greater-left kind a (Some b) = record { value = max a b; is = refl; above = omega arith }

greater-right : (kind : Kind) (seq : ℕ) (o p : Option ℕ) → AtMostGreatest kind seq p → AtMostGreatest kind seq (greater o p)
greater-right kind seq None p h = h
greater-right kind seq (Some a) p h = let P : Option ℕ → Type 0 = λ z. AtMostGreatest kind seq (greater (Some a) z) in subst P (sym h.is) (record { value = max a h.value; is = refl; above = omega (arith, h.above) })

numbered-below : (kind : Kind) (seq : ℕ) (rs : List Record) → list_any (is_numbered kind seq) rs ≡ true → AtMostGreatest kind seq (greatest_sent kind rs)
numbered-below kind seq [] e = cc
numbered-below kind seq (r ∷ rs) e =
    ⊎_elim
    (λ h. let P : Option ℕ → Type 0 = λ z. AtMostGreatest kind seq (greater z (greatest_sent kind rs)) in subst P (sym (numbered_number kind seq r h)) (greater-left kind seq (greatest_sent kind rs)))
    (λ h. greater-right kind seq (sent_number kind r) (greatest_sent kind rs) (numbered-below kind seq rs h))
    (or_cases (is_numbered kind seq r) (list_any (is_numbered kind seq) rs) e)

seq_at-is : (n s : ℕ) → seq_at n ≡ Some s → n ≡ s
seq_at-is n s e = given (nat_lt n (2 ^ 32)) e
  where
    given : (b : Bool) → cond b (Some n) None ≡ Some s → n ≡ s
    given true h = cc
    given false h = cc

-- a next number is none that was sent
next-new : (k : Option KeySet) (kind : Kind) (seq : ℕ) (rs : List Record) → seq_with k (greatest_sent kind rs) ≡ Some seq → list_any (is_numbered kind seq) rs ≡ false
next-new None kind seq rs e = cc
next-new (Some k) kind seq rs e = known (list_any (is_numbered kind seq) rs) refl
  where
    over : (g : ℕ) → seq_after k (Some g) ≡ Some seq → seq ≤ g → ⊥
    over g h le = let n = seq_at-is (g + 1) seq h in omega arith

    known : (b : Bool) → list_any (is_numbered kind seq) rs ≡ b → b ≡ false
    known false h = refl
    known true h =
        let below = numbered-below kind seq rs h in
        let P : Option ℕ → Type 0 = λ z. seq_after k z ≡ Some seq in
        absurd (over below.value (subst P below.is e) below.above)

pub next_seq-new : (node : List ℕ) (id : ℕ) (kind : Kind) (seq : ℕ) (records : List Record) → next_seq node id kind records ≡ Some seq → was_sent node id kind seq records ≡ false
next_seq-new node id kind seq records e = next-new (keys node id records) kind seq (own node id records) e
