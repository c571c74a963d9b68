-- The text of a record, and what reading one may answer.
use Rattle.std.specs.Prelude.{◌≡◌, ⊤, ℕ, List, Result, Ok, Err}
use Rattle.spec_documents.specs.Tree.{Tree}
use Rattle.spec_documents.specs.Compact.{compact_text}
use Rattle.spec_documents.specs.Reading.{ReadsTo}
use Rattle.spec_records.specs.Records.{Record}
use Rattle.spec_records.specs.RecordDocument.{NoRecord, no_record, record_of, record_tree}
use Rattle.context_records.specs.declared.read.RecordRead.{RecordRead}
use Rattle.context_records.specs.declared.read.RecordRead.TheVariants.{Form, NoMemory}

-- bytes are the text of a record: they are read to a document of it
pub record ReadsRecord (bytes : List ℕ) (r : Record) : Type 0 where
  pub tree : Tree
  pub reads : ReadsTo bytes tree
  pub is : record_of tree ≡ Ok r

-- the text that is written
abbrev pub written : Record → List ℕ
written r = compact_text (record_tree r)

abbrev pub IsMemory : RecordRead → Type 0
IsMemory e = e ≡ NoMemory

-- what a reader gives is what the definition gives, unless memory ran out
abbrev pub Refuses : {B : Type 0} → RecordRead → Result B NoRecord → Type 0
Refuses Form wanted = wanted ≡ Err no_record
Refuses NoMemory wanted = ⊤

abbrev pub Gives : {A B : Type 0} → (A → B) → Result A RecordRead → Result B NoRecord → Type 0
Gives view (Ok x) wanted = wanted ≡ Ok (view x)
Gives view (Err e) wanted = Refuses e wanted
