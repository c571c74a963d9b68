-- What a call on a store and its keeper comes to: the answer, and what is held after it (this project's own).
use Rattle.std.specs.Prelude.{◌≡◌, ℕ, ◌≤◌, List, length, Bool, true, false, nat_le, Option, Some, None, Result, Ok, Err, IfSome}
use Rattle.spec_records.specs.Records.{Record, record_limit}
use Rattle.n32_outside.specs.Contents.{Stays, Gains}
use Rattle.context_records.specs.Reading.{ReadsRecord, written}
use Rattle.context_store.specs.Stores.{Stored, Holds, IsFirstBad}
use Rattle.spec_exchange.specs.Chain.{◌>>=◌, unless}
use Rattle.spec_exchange.specs.Outside.{Choice, Read, BadRecord, Putting, Cause, Outside, Outcome, puts, or_refusal, with_put}

-- ---- what is held

-- the text of the record is told more, and is read to it; or the same is told, or still nothing
abbrev pub Keeps : (held now : Option (List (List ℕ))) → Option Record → Type 0
Keeps held now None = Stays held now
Keeps held now (Some r) = Gains held now (written r) × ReadsRecord (written r) r

-- what is held, and the records of a store that has them all, after a call over these records
pub record Change (held now : Option (List (List ℕ))) (records : List Record) (new : Stored) (put : Option Record) : Type 0 where
  pub told : Keeps held now put
  pub kept : new.fresh ≡ true → new.records ≡ with_put records put

-- nothing has changed, but that a stale store may have been read
pub record Nothing (held now : Option (List (List ℕ))) (old new : Stored) : Type 0 where
  pub told : Stays held now
  pub kept : old.fresh ≡ true → new ≡ old

-- ---- a call

-- the answer is that the keeper failed, or that it holds what is no record
abbrev pub is_of_keeper : {X R : Type 0} → Result X (Cause R) → Bool
is_of_keeper (Err (Outside fault)) = true
is_of_keeper _ = false

-- an outcome over these records is what is answered and what is held then. After an answer that isn't of the keeper the store has all records that are held
pub record ComesTo {X R : Type 0} (Answers : Result X (Cause R) → Type 0) (held now : Option (List (List ℕ))) (records : List Record) (new : Stored) (outcome : Outcome R X) : Type 0 where
  pub answer : Answers outcome.result
  pub change : Change held now records new outcome.put
  pub still : is_of_keeper outcome.result ≡ false → new.fresh ≡ true

-- a choice of the keeper, and records, that a call or a step over the store may go by
pub record IsChosen (held : Option (List (List ℕ))) (old : Stored) (choice : Choice) (records : List Record) : Type 0 where
  -- a fresh store is not read
  pub fresh : old.fresh ≡ true → (choice.reading ≡ Read) × (records ≡ old.records)
  -- what is read are the records that are held, within their limit, and the first of the held texts that is of no record, or one too many, is named
  pub read : choice.reading ≡ Read → Holds held records
  pub few : old.fresh ≡ false → choice.reading ≡ Read → length records ≤ record_limit
  pub bad : (number : ℕ) → choice.reading ≡ BadRecord number → IfSome held (λ texts. IsFirstBad texts number)

-- a call over the records of the store, once it is read, under some choice of the keeper
pub record CallBy {X R : Type 0} (outcome : Choice → List Record → Outcome R X) (Answers : Result X (Cause R) → Type 0) (held now : Option (List (List ℕ))) (old new : Stored) : Type 0 where
  pub choice : Choice
  pub records : List Record
  pub chosen : IsChosen held old choice records
  -- those of a fresh store are within their limit too
  pub few : old.fresh ≡ true → length records ≤ record_limit
  pub comes : ComesTo Answers held now records new (outcome choice records)

-- what is held more, if anything, is a record of this test
abbrev pub AddsOwn : (is_own : Record → Bool) (held now : Option (List (List ℕ))) (old new : Stored) → Type 0
AddsOwn is_own held now old new =
    (put : Option Record) × IfSome put (λ r. is_own r ≡ true)
    × Keeps held now put × (old.fresh ≡ true → new.fresh ≡ true → new.records ≡ with_put old.records put)

-- ---- the put

-- where there is room for one more record, and else this refusal
abbrev pub with_room : {X R : Type 0} → (full : R) → List Record → X → Result X R
with_room full records x = unless (nat_le record_limit (length records)) full >>= λ _. Ok x

-- the record of x is put, where there is room for it
abbrev pub putting : {X R : Type 0} → (full : R) → (X → Record) → List Record → X → Putting → Outcome R X
putting full item records x p = or_refusal (with_room full records x) (λ x. puts p (item x) x)

-- the record of x is put over the records of a fresh store, under some choice of the keeper
pub record PutBy {X R : Type 0} (full : R) (item : X → Record) (Answers : Result X (Cause R) → Type 0) (held now : Option (List (List ℕ))) (old new : Stored) (x : X) : Type 0 where
  pub choice : Putting
  pub comes : ComesTo Answers held now old.records new (putting full item old.records x choice)
