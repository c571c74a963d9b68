-- What a call comes to, from what its parts come to.
use Rattle.std.proofs.Common.{◌≡◌, ◌⊎◌, ⊎_elim, ℕ, ◌<◌, ◌≤◌, List, [], ◌∷◌, ◌++◌, length, Bool, true, false, Option, None, IfSome, Result, Ok, Err, refl, sym, ap, subst, ◌∙◌}
use Rattle.std.proofs.lemmas.Bool.{lt-leb, le-leb}
use Rattle.spec_records.specs.Records.{Record, record_limit}
use Rattle.n32_outside.specs.Contents.{Stays, Gains}
use Rattle.context_records.specs.Reading.{ReadsRecord, written}
use Rattle.context_store.specs.Stores.{Stored, Holds, IsFirstBad}
use Rattle.spec_exchange.specs.Chain.{◌>>=◌}
use Rattle.spec_exchange.specs.Outside.{Choice, Reading, Read, ReadFails, BadRecord, Putting, Kept, Lost, KeptUntold, Journal, Keeper, Cause, Own, Outside, Outcome, puts, behind_reading, or_refusal, with_put}
use Rattle.context_store.specs.Changes.{Nothing, ComesTo, IsChosen, CallBy, AddsOwn, with_room, putting, PutBy}

-- a call that checks over the records, once they are read, and puts the record of what passes
abbrev pub checked : {X R : Type 0} → (List Record → Result X R) → (X → Record) → Choice → List Record → Outcome R X
checked checks item f records = behind_reading f.reading (or_refusal (checks records) (λ x. puts f.putting (item x) x))

-- ---- the put

pub roomy : {X R : Type 0} (e : R) (records : List Record) (x : X) → length records < record_limit → with_room e records x ≡ Ok x
unfolding ◌>>=◌
roomy e records x lt = rw (lt-leb record_limit (length records) lt) refl

pub full : {X R : Type 0} (e : R) (records : List Record) (x : X) → record_limit ≤ length records → with_room e records x ≡ Err e
unfolding ◌>>=◌
full e records x le = rw (le-leb record_limit (length records) le) refl

pub recorded : {X R : Type 0} (e : R) (item : X → Record) (Answers : Result X (Cause R) → Type 0) (held now : Option (List (List ℕ))) (old new : Stored) (x : X)
    → Answers (Ok x) → length old.records < record_limit → Gains held now (written (item x)) → ReadsRecord (written (item x)) (item x) → new.records ≡ old.records ++ item x ∷ [] → new.fresh ≡ true → PutBy e item Answers held now old new x
recorded e item Answers held now old new x answer lt gains reads more fresh = record {
  choice = Kept;
  comes = subst (λ w. ComesTo Answers held now old.records new (or_refusal w (λ x. puts Kept (item x) x))) (sym (roomy e old.records x lt))
      (record { answer = answer; change = record { told = (gains, reads); kept = λ f. more }; still = λ e. fresh });
}

pub no_room : {X R : Type 0} (e : R) (item : X → Record) (Answers : Result X (Cause R) → Type 0) (held now : Option (List (List ℕ))) (old new : Stored) (x : X)
    → Answers (Err (Own e)) → record_limit ≤ length old.records → Stays held now → new ≡ old → old.fresh ≡ true → PutBy e item Answers held now old new x
no_room e item Answers held now old new x answer le stays same fresh = record {
  choice = Kept;
  comes = subst (λ w. ComesTo Answers held now old.records new (or_refusal w (λ x. puts Kept (item x) x))) (sym (full e old.records x le))
      (record { answer = answer; change = record { told = stays; kept = λ f. ap (λ z. z.records) same }; still = λ e. ap (λ z. z.fresh) same ∙ fresh });
}

-- a put that failed may have kept the record
pub untold : {X R : Type 0} (e : R) (item : X → Record) (Answers : Result X (Cause R) → Type 0) (held now : Option (List (List ℕ))) (old new : Stored) (x : X)
    → Answers (Err (Outside Keeper)) → length old.records < record_limit → new.fresh ≡ false → Stays held now ⊎ Gains held now (written (item x)) → ReadsRecord (written (item x)) (item x) → PutBy e item Answers held now old new x
untold e item Answers held now old new x answer lt stale either reads = ⊎_elim
    (λ stays. record {
      choice = Lost;
      comes = subst (λ w. ComesTo Answers held now old.records new (or_refusal w (λ x. puts Lost (item x) x))) (sym (roomy e old.records x lt))
          (record { answer = answer; change = record { told = stays; kept = λ f. cc }; still = λ e. cc });
    })
    (λ gains. record {
      choice = KeptUntold;
      comes = subst (λ w. ComesTo Answers held now old.records new (or_refusal w (λ x. puts KeptUntold (item x) x))) (sym (roomy e old.records x lt))
          (record { answer = answer; change = record { told = (gains, reads); kept = λ f. cc }; still = λ e. cc });
    }) either

-- ---- the reading

-- the store is read, and these records are as they were or those that are held
pub record IsRead (held now : Option (List (List ℕ))) (old new : Stored) : Type 0 where
  pub told : Stays held now
  pub holds : Holds now new.records
  pub few : length new.records ≤ record_limit
  pub fresh : new.fresh ≡ true
  pub same : old.fresh ≡ true → new ≡ old

pub chosen_read : (held now : Option (List (List ℕ))) (old new : Stored) (p : Putting) → IsRead held now old new → IsChosen held old (record { reading = Read; putting = p }) new.records
chosen_read held now old new p is_read = record {
  fresh = λ f. (refl, ap (λ z. z.records) (is_read.same f));
  read = λ r. subst (λ z. Holds z new.records) is_read.told is_read.holds;
  few = λ stale r. is_read.few;
  bad = λ k r. cc;
}

-- nothing is read: this text is of no record, or the keeper failed
pub chosen_bad : (held : Option (List (List ℕ))) (old : Stored) (p : Putting) (number : ℕ) → old.fresh ≡ false → IfSome held (λ texts. IsFirstBad texts number) → IsChosen held old (record { reading = BadRecord number; putting = p }) []
chosen_bad held old p number stale first = record {
  fresh = λ f. cc;
  read = λ e. cc;
  few = λ s e. cc;
  bad = λ k e. let same : number ≡ k = cc in subst (λ n. IfSome held (λ texts. IsFirstBad texts n)) same first;
}

pub chosen_none : (held : Option (List (List ℕ))) (old : Stored) (p : Putting) → old.fresh ≡ false → IsChosen held old (record { reading = ReadFails; putting = p }) []
chosen_none held old p stale = record { fresh = λ f. cc; read = λ e. cc; few = λ s e. cc; bad = λ k e. cc }

-- ---- the call

-- the store isn't read: this text is of no record
pub bad_record : {X R : Type 0} (checks : List Record → Result X R) (item : X → Record) (Answers : Result X (Cause R) → Type 0) (held now : Option (List (List ℕ))) (old new : Stored) (number : ℕ)
    → Answers (Err (Outside (Journal number))) → Stays held now → old.fresh ≡ false → new.fresh ≡ false → IfSome held (λ texts. IsFirstBad texts number) → CallBy (checked checks item) Answers held now old new
bad_record checks item Answers held now old new number answer stays before after first = record {
  choice = record { reading = BadRecord number; putting = Kept };
  records = [];
  chosen = chosen_bad held old Kept number before first;
  few = λ f. cc;
  comes = record { answer = answer; change = record { told = stays; kept = λ f. cc }; still = λ e. cc };
}

-- the store isn't read: the keeper failed
pub unread : {X R : Type 0} (checks : List Record → Result X R) (item : X → Record) (Answers : Result X (Cause R) → Type 0) (held now : Option (List (List ℕ))) (old new : Stored)
    → Answers (Err (Outside Keeper)) → Stays held now → old.fresh ≡ false → new.fresh ≡ false → CallBy (checked checks item) Answers held now old new
unread checks item Answers held now old new answer stays before after = record {
  choice = record { reading = ReadFails; putting = Kept };
  records = [];
  chosen = chosen_none held old Kept before;
  few = λ f. cc;
  comes = record { answer = answer; change = record { told = stays; kept = λ f. cc }; still = λ e. cc };
}

-- a check refuses over the records that were read
pub refused : {X R : Type 0} (checks : List Record → Result X R) (item : X → Record) (Answers : Result X (Cause R) → Type 0) (held now : Option (List (List ℕ))) (old new : Stored) (e : R)
    → Answers (Err (Own e)) → IsRead held now old new → checks new.records ≡ Err e → CallBy (checked checks item) Answers held now old new
refused checks item Answers held now old new e answer is_read is = record {
  choice = record { reading = Read; putting = Kept };
  records = new.records;
  chosen = chosen_read held now old new Kept is_read;
  few = λ f. is_read.few;
  comes = subst (λ w. ComesTo Answers held now new.records new (or_refusal w (λ x. puts Kept (item x) x))) (sym is)
      (record { answer = answer; change = record { told = is_read.told; kept = λ f. refl }; still = λ r. is_read.fresh });
}

-- the record of what passes the checks is put over the records that were read
pub put : {X R : Type 0} (e : R) (checks : List Record → Result X R) (item : X → Record) (Answers : Result X (Cause R) → Type 0) (held mid now : Option (List (List ℕ))) (old read new : Stored) (x : X)
    → PutBy e item Answers mid now read new x → IsRead held mid old read → checks read.records ≡ with_room e read.records x → CallBy (checked checks item) Answers held now old new
put e checks item Answers held mid now old read new x h is_read is = record {
  choice = record { reading = Read; putting = h.choice };
  records = read.records;
  chosen = chosen_read held mid old read h.choice is_read;
  few = λ f. is_read.few;
  comes = subst (λ w. ComesTo Answers held now read.records new (or_refusal w (λ x. puts h.choice (item x) x))) (sym is)
      (subst (λ z. ComesTo Answers z now read.records new (putting e item read.records x h.choice)) is_read.told h.comes);
}

-- ---- what a call tells of its checks and its record

-- what isn't the answer is no refusal of the checks
pub not_refused : {X R : Type 0} (item : X → Record) (Answers : Result X (Cause R) → Type 0) (held now : Option (List (List ℕ))) (records : List Record) (new : Stored) (p : Putting) (r : Result X R) (e : R)
    → (Answers (Err (Own e)) → ⊥) → ComesTo Answers held now records new (or_refusal r (λ x. puts p (item x) x)) → r ≡ Err e → ⊥
not_refused item Answers held now records new p (Ok x) e other c is = cc
not_refused item Answers held now records new p (Err d) e other c is = let same : d ≡ e = cc in other (subst (λ z. Answers (Err (Own z))) same c.answer)

put_own : {X R : Type 0} (is_own : Record → Bool) (item : X → Record) (reading : Reading) (p : Putting) (r : Result X R) → ((x : X) → r ≡ Ok x → is_own (item x) ≡ true)
    → IfSome (behind_reading reading (or_refusal r (λ x. puts p (item x) x))).put (λ z. is_own z ≡ true)
put_own is_own item Read Kept (Ok x) own = own x refl
put_own is_own item Read Lost (Ok x) own = tt
put_own is_own item Read KeptUntold (Ok x) own = own x refl
put_own is_own item Read p (Err e) own = tt
put_own is_own item ReadFails p r own = tt
put_own is_own item (BadRecord k) p r own = tt

-- where the record of all that passes the checks is of the test, so is that which is held more
pub adds_own : {X R : Type 0} (is_own : Record → Bool) (checks : List Record → Result X R) (item : X → Record) (Answers : Result X (Cause R) → Type 0) (held now : Option (List (List ℕ))) (old new : Stored)
    → ((records : List Record) (x : X) → checks records ≡ Ok x → is_own (item x) ≡ true) → CallBy (checked checks item) Answers held now old new → AddsOwn is_own held now old new
adds_own is_own checks item Answers held now old new own c =
    let added : Option Record = (checked checks item c.choice c.records).put in
    (added, put_own is_own item c.choice.reading c.choice.putting (checks c.records) (own c.records), c.comes.change.told, λ f g. c.comes.change.kept g ∙ ap (λ (rs : List Record). with_put rs added) (c.chosen.fresh f).1)

pub adds_nothing : (is_own : Record → Bool) (held now : Option (List (List ℕ))) (old new : Stored) → Nothing held now old new → AddsOwn is_own held now old new
adds_nothing is_own held now old new h = (None, tt, h.told, λ f g. ap (λ (z : Stored). z.records) (h.kept f))
