-- What an accepted document and a sealed message tell: each check before them held.
use Rattle.std.proofs.Common.{◌≡◌, ℕ, ◌<◌, Bool, true, false, List, length, Option, Some, None, Result, Ok, Err, refl, ap, subst}
use Rattle.std.proofs.lemmas.Bool.{leb-false}
use Rattle.spec_messages.specs.Message.{Message, wanted}
use Rattle.spec_records.specs.Records.{Record, record_limit, delivered_at, next_seq}
use Rattle.spec_exchange.specs.Chain.{◌>>=◌, unless, none_of}
use Rattle.spec_exchange.specs.SendingRefusals as sending
use Rattle.spec_exchange.specs.Stages.{Delivery}
use Rattle.spec_exchange.specs.Outside.{Cause, Reading, Read, ReadFails, BadRecord, Putting, Kept, Lost, KeptUntold, puts, behind_reading, or_refusal}
use Rattle.spec_exchange.specs.Calls.{Sealed, Outgoing, kind_of_outgoing, protected}

pub none_ok : {X E : Type 0} (e : X → E) (o : Option X) (u : Unit {0}) → none_of e o ≡ Ok u → o ≡ None
none_ok e None u h = refl
none_ok e (Some x) u h = cc

pub unless_ok : {E : Type 0} (b : Bool) (e : E) (u : Unit {0}) → unless b e ≡ Ok u → b ≡ false
unless_ok true e u h = cc
unless_ok false e u h = refl

pub wanted_ok : {X E : Type 0} (o : Option X) (e : E) (x : X) → wanted o e ≡ Ok x → o ≡ Some x
wanted_ok None e x h = cc
wanted_ok (Some y) e x h = cc

pub ok_same : {A E : Type 0} (x y : A) → (let r : Result A E = Ok x in r) ≡ Ok y → x ≡ y
ok_same x y e = cc

-- the first step's value, and then the rest
pub bind_then : {A B E P : Type 0} (r : Result A E) (f : A → Result B E) (y : B) → (r >>= f) ≡ Ok y → ((x : A) → r ≡ Ok x → f x ≡ Ok y → P) → P
unfolding ◌>>=◌
bind_then (Ok x) f y e k = k x refl e
bind_then (Err d) f y e k = cc

-- ---- receiving

-- what stands behind a document that is delivered
pub record IsNew (records : List Record) (node : List ℕ) (d : Delivery) : Type 0 where
  pub node_is : d.node ≡ node
  pub never : delivered_at node d.id d.kind d.message records ≡ None
  pub room : length records < record_limit

-- ---- sending

-- what stands behind a message that is sealed
pub record IsNext (records : List Record) (node : List ℕ) (id : ℕ) (o : Outgoing) (s : Sealed) : Type 0 where
  pub node_is : s.node ≡ node
  pub id_is : s.id ≡ id
  pub kind_is : s.kind ≡ kind_of_outgoing o
  pub next : next_seq node id (kind_of_outgoing o) records ≡ Some s.seq
  pub room : length records < record_limit

pub protected-ok : (records : List Record) (node : List ℕ) (id : ℕ) (o : Outgoing) (m : Message) (y : Sealed) → protected records node id o m ≡ Ok y → IsNext records node id o y
protected-ok records node id o m y e =
    bind_then _ _ y e λ x e_open e1.
    bind_then _ _ y e1 λ k e_keys e2.
    bind_then _ _ y e2 λ mapping e_mapping e3.
    bind_then _ _ y e3 λ seq e_seq e4.
    bind_then _ _ y e4 λ u4 e_split e5.
    bind_then _ _ y e5 λ u5 e_limit e6.
    let P : Sealed → Type 0 = λ y. IsNext records node id o y in
    subst P (ok_same {E = sending.Refusal} _ y e6) (record {
      node_is = refl;
      id_is = refl;
      kind_is = refl;
      next = wanted_ok _ _ seq e_seq;
      room = leb-false _ _ (unless_ok _ _ u5 e_limit);
    })

-- ---- calls that put one record

-- a call that answers Ok has put its record
pub puts-ok : {X R : Type 0} (reading : Reading) (r : Result X R) (p : Putting) (item : X → Record) (x : X)
    → (behind_reading reading (or_refusal r (λ y. puts p (item y) y))).result ≡ Ok x
    → (r ≡ Ok x) × ((behind_reading reading (or_refusal r (λ y. puts p (item y) y))).put ≡ Some (item x))
puts-ok {X} {R} Read (Ok y) Kept item x e = let same : y ≡ x = ok_same {E = Cause R} y x e in (ap (λ z. Ok z) same, ap (λ z. Some (item z)) same)
puts-ok Read (Ok y) Lost item x e = cc
puts-ok Read (Ok y) KeptUntold item x e = cc
puts-ok Read (Err d) p item x e = cc
puts-ok ReadFails r p item x e = cc
puts-ok (BadRecord k) r p item x e = cc

-- what a call puts is the record of what it would answer
pub record IsPut {X R : Type 0} (r : Result X R) (item : X → Record) (put : Record) : Type 0 where
  pub value : X
  pub is : r ≡ Ok value
  pub item_is : item value ≡ put

pub puts-some : {X R : Type 0} (reading : Reading) (r : Result X R) (p : Putting) (item : X → Record) (z : Record)
    → (behind_reading reading (or_refusal r (λ y. puts p (item y) y))).put ≡ Some z → IsPut r item z
puts-some Read (Ok y) Kept item z e = record { value = y; is = refl; item_is = cc }
puts-some Read (Ok y) Lost item z e = cc
puts-some Read (Ok y) KeptUntold item z e = record { value = y; is = refl; item_is = cc }
puts-some Read (Err d) p item z e = cc
puts-some ReadFails r p item z e = cc
puts-some (BadRecord k) r p item z e = cc
