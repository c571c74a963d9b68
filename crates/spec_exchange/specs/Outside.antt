-- What the keeper may do in a call: the free choices of an event, and what a call comes to under them (this project's own).
use Rattle.std.specs.Prelude.{ℕ, List, [], ◌∷◌, ◌++◌, Option, Some, None, Result, Ok, Err, codes}
use Rattle.std.specs.Fmt.{decimal}
use Rattle.spec_records.specs.Records.{Record}
use Rattle.spec_exchange.specs.Telling.{Telling, bare, detailed}

-- ---- choices

-- what the reading of a stale store comes to. A fresh one is Read too
pub data Reading : Type 0 where
  Read : Reading
  ReadFails : Reading
  BadRecord : (number : ℕ) → Reading

-- what a put comes to. One that fails may have kept the record
pub data Putting : Type 0 where
  Kept : Putting
  Lost : Putting
  KeptUntold : Putting

-- the choices of one event
pub record Choice : Type 0 where
  pub reading : Reading
  pub putting : Putting

-- nothing fails
abbrev pub no_fault : Choice
no_fault = record { reading = Read; putting = Kept }

-- ---- faults

-- a fault of what stands outside
pub data Fault : Type 0 where
  -- the held record of this number is none, or one too many
  Journal : (number : ℕ) → Fault
  -- the keeper failed
  Keeper : Fault

abbrev pub fault_telling : Fault → Telling
fault_telling (Journal number) = detailed 9 (codes "JOURNAL") (decimal number)
fault_telling Keeper = bare 34 (codes "KEEPER")

-- why a call comes to nothing: a refusal of its own, or a fault of the outside
pub data Cause (R : Type 0) : Type 0 where
  Own : (refusal : R) → Cause R
  Outside : (fault : Fault) → Cause R

-- ---- calls

-- what a call comes to: what it answers, and the record that is held more, if any
pub record Outcome (R T : Type 0) : Type 0 where
  pub result : Result T (Cause R)
  pub put : Option Record

abbrev pub refused : {R T : Type 0} → Cause R → Outcome R T
refused e = record { result = Err e; put = None }

-- the answer, once the record is put
abbrev pub puts : {R T : Type 0} → Putting → Record → T → Outcome R T
puts Kept r x = record { result = Ok x; put = Some r }
puts Lost r x = refused (Outside Keeper)
puts KeptUntold r x = record { result = Err (Outside Keeper); put = Some r }

-- the call, once the store is read
abbrev pub behind_reading : {R T : Type 0} → Reading → Outcome R T → Outcome R T
behind_reading Read o = o
behind_reading ReadFails o = refused (Outside Keeper)
behind_reading (BadRecord k) o = refused (Outside (Journal k))

abbrev pub or_refusal : {X R T : Type 0} → Result X R → (X → Outcome R T) → Outcome R T
or_refusal (Ok x) f = f x
or_refusal (Err e) f = refused (Own e)

-- the records, with the one that is held more
abbrev pub with_put : List Record → Option Record → List Record
with_put records None = records
with_put records (Some r) = records ++ r ∷ []
