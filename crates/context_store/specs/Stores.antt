-- A store of records, and the keeper below it.
use Rattle.std.specs.Prelude.{◌≡◌, ◌⊎◌, ◌≤◌, ⊤, ℕ, Bool, true, List, [], ◌∷◌, take, slice_get, Option, Some, IfSome, IsTrue}
use Rattle.std.specs.List.{list_all}
use Rattle.spec_records.specs.Records.{Record, record_limit}
use Rattle.spec_records.specs.RecordDocument.{is_well_named}
use Rattle.context_records.specs.Reading.{ReadsRecord}
use Rattle.context_store.specs.declared.faults.OpenFault.{OpenFault}
use Rattle.context_store.specs.declared.faults.OpenFault.TheVariants.{Journal, Keeper, NoMemory}

-- texts are those of records, one by one
abbrev pub AreRecords : List (List ℕ) → List Record → Type 0
AreRecords [] [] = ⊤
AreRecords [] (r ∷ rs) = ⊥
AreRecords (b ∷ bs) [] = ⊥
AreRecords (b ∷ bs) (r ∷ rs) = ReadsRecord b r × AreRecords bs rs

-- what a keeper tells, if it does, are these records
abbrev pub Holds : Option (List (List ℕ)) → List Record → Type 0
Holds held records = IfSome held (λ texts. AreRecords texts records)

-- the names of nodes and intermediaries in these records are in their grammar
abbrev pub AreNamed : List Record → Type 0
AreNamed records = IsTrue (list_all is_well_named records)

-- a store: its records, and whether they are still those that are held
pub record Stored : Type 0 where
  pub records : List Record
  pub fresh : Bool

-- the condition of every call with a keeper: the records of a fresh store are those that are held
abbrev pub IsConsistent : Option (List (List ℕ)) → Stored → Type 0
IsConsistent held store = store.fresh ≡ true → Holds held store.records

abbrev pub IsNoRecord : List ℕ → Type 0
IsNoRecord text = (r : Record) → ReadsRecord text r → ⊥

-- text k is the first that is of no record, or that stands past the limit
pub record IsFirstBad (texts : List (List ℕ)) (k : ℕ) : Type 0 where
  pub text : List ℕ
  pub there : slice_get texts k ≡ Some text
  pub bad : IsNoRecord text ⊎ (k ≡ record_limit)
  pub few : k ≤ record_limit
  pub before : List Record
  pub good : AreRecords (take k texts) before

-- no text that is told is bad
abbrev pub HasNoBad : Option (List (List ℕ)) → Type 0
HasNoBad held = IfSome held (λ texts. (k : ℕ) → IsFirstBad texts k → ⊥)

-- a bad record is named only where it is the first
abbrev pub NamesBad : Option (List (List ℕ)) → OpenFault → Type 0
NamesBad held (Journal k) = IfSome held (λ texts. IsFirstBad texts k)
NamesBad held Keeper = ⊤
NamesBad held NoMemory = ⊤

-- a held text of this number is refused
abbrev pub RefusesText : ℕ → List ℕ → OpenFault → Type 0
RefusesText number text (Journal k) = (k ≡ number) × (IsNoRecord text ⊎ (record_limit ≤ number))
RefusesText number text Keeper = ⊥
RefusesText number text NoMemory = ⊤
