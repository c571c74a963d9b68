-- What a finish comes to, and which starts wait after it.
use Rattle.std.specs.Prelude.{◌≡◌, ⊤, ◌<◌, ℕ, Bool, not, List, length, Option, Some, None, Result, Ok, Err, IsTrue, if◌then◌else◌}
use Rattle.std.specs.List.{remove}
use Rattle.spec_documents.specs.Tree.{Tree}
use Rattle.spec_documents.specs.Gives.{Tells}
use Rattle.spec_records.specs.Records.{Record, Opened as OpenedRecord}
use Rattle.spec_records.specs.RecordDocument.{is_well_named}
use Rattle.context_records.specs.View.{context_view}
use Rattle.context_store.specs.Stores.{Stored}
use Rattle.context_store.specs.declared.call_faults.CheckFault.{CheckFault}
use Rattle.context_store.specs.declared.call_faults.CallFault.{CallFault}
use Rattle.context_store.specs.declared.call_faults.CallFault.TheVariants as faults
use Rattle.context_store.specs.Changes.{Nothing, CallBy}
use Rattle.spec_documents.specs.Chain.{◌>>=◌, unless, none_of}
use Rattle.spec_handshake.specs.Differences.{difference}
use Rattle.spec_handshake.specs.Documents.{Document, Selection, document_tree}
use Rattle.spec_handshake.specs.Refusals.{Refusal, NoCommonSuite, PolicyDiffers, ends_start}
use Rattle.spec_handshake.specs.Starts.{Start, first_goes_on, without_first}
use Rattle.spec_handshake.specs.Calls as spec
use Rattle.n32c_handshake.specs.declared.finishing.Finished.{Finished}
use Rattle.n32c_handshake.specs.declared.finishing.Finished.TheVariants as finished
use Rattle.n32c_handshake.specs.declared.finishing.Progress.{Progress}
use Rattle.n32c_handshake.specs.declared.finishing.Progress.TheVariants as progress
use Rattle.n32c_handshake.specs.declared.refusal.HandRefusal.{HandRefusal}
use Rattle.n32c_handshake.specs.Faults.{told}
use Rattle.n32c_handshake.specs.Outcome.{Answers, if_room}

-- what a caller sees of a finish
abbrev pub IsFinished : Finished → spec.Finished → Type 0
IsFinished (finished.Next t) (spec.Next d) = t ≡ document_tree d
IsFinished (finished.Opened id) (spec.OpenedAs x) = id.value ≡ x.id
IsFinished finished.EndedTls spec.EndedTls = ⊤
IsFinished _ _ = ⊥

-- what passes the checks but for the limit on records, or the first that refuses
abbrev pub FinishesOut : List Record → Result spec.Finished Refusal → Result Progress (CheckFault HandRefusal) → Type 0
FinishesOut records checks (Ok (progress.Next t)) = (d : Document) × (checks ≡ Ok (spec.Next d)) × (t ≡ document_tree d)
FinishesOut records checks (Ok progress.EndedTls) = checks ≡ Ok spec.EndedTls
FinishesOut records checks (Ok (progress.Opens at x)) = checks ≡ if_room records (spec.OpenedAs (context_view x))
FinishesOut records checks (Err e) = Tells (told e) checks

-- the starts after a refusal, or after want of memory
abbrev pub left : (Start → Bool) → List Start → Option Refusal → List Start
left p starts None = starts
left p starts (Some e) = if ends_start e then without_first p starts else starts

-- the starts after the checks. Where a context is to open, the start that waits for it is still at its place
abbrev pub Leaves : (Start → Bool) → (old new : List Start) → Result Progress (CheckFault HandRefusal) → Type 0
Leaves p old new (Ok (progress.Next t)) = new ≡ first_goes_on p old
Leaves p old new (Ok progress.EndedTls) = new ≡ without_first p old
Leaves p old new (Ok (progress.Opens at x)) = (new ≡ old) × (at < length old) × (remove old at ≡ without_first p old)
Leaves p old new (Err e) = new ≡ left p old (told e)

-- the names in the record of a context that opens are in their grammar
abbrev pub HasNames : Progress → Type 0
HasNames (progress.Opens at x) = IsTrue (is_well_named (OpenedRecord (context_view x)))
HasNames _ = ⊤

-- a finish over the records of the store, once it is read, and the starts that wait then, under one choice of the keeper
pub record FinishBy (held now : Option (List (List ℕ))) (old new : Stored) (starts left : List Start) (node plmn : List ℕ) (t : Tree) (result : Result Finished (CallFault HandRefusal)) : Type 0 where
  pub call : CallBy (λ f records. spec.finish f records starts node plmn t) (Answers IsFinished result) held now old new
  pub waits : left ≡ spec.after_finish call.choice.reading starts node t (spec.finish call.choice call.records starts node plmn t).result

-- after want of memory nothing has changed
abbrev pub Finishes : (held now : Option (List (List ℕ))) (old new : Stored) (starts left : List Start) (node plmn : List ℕ) → Tree → Result Finished (CallFault HandRefusal) → Type 0
Finishes held now old new starts left node plmn t (Err faults.NoMemory) = Nothing held now old new × (left ≡ starts)
Finishes held now old new starts left node plmn t result = FinishBy held now old new starts left node plmn t result

-- the starts once a put was tried at that place's start
abbrev pub after_put_starts : ℕ → List Start → Result (Unit {0}) (CallFault HandRefusal) → List Start
after_put_starts at starts (Ok u) = remove starts at
after_put_starts at starts (Err faults.Keeper) = remove starts at
after_put_starts at starts (Err _) = starts

-- what a selection is compared with of an offer: its suites, then its policy
abbrev pub accepted : Start → Selection → Result (Unit {0}) Refusal
accepted s b = do
  _ ← unless (not (spec.has_suite s.offer.suites b.suite)) NoCommonSuite
  none_of PolicyDiffers (difference s.offer.policy b.policy)
