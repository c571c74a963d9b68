-- What a run of `exercise N` leaves, by its status: the summary of an output for its script.
use Rattle.std.specs.Prelude.{◌≡◌, ◌≢◌, ◌⊎◌, ℕ, List, ◌++◌, map, take, Option, IfSome}
use Rattle.std.specs.Io.KnownBytes.{Appends}
use Rattle.n32_outside.specs.Causes.{Rose}
use Rattle.n32_outside.specs.Contents.{Stays}
use Rattle.script_loop.specs.Progress.{WritesSome}
use Rattle.spec_documents.specs.Lines.{lines_of}
use Rattle.spec_exercise.specs.Texts.{script_text}
use Rattle.spec_exercise.specs.Summary.{summary_text}
use Rattle.spec_records.specs.Records.{Record}
use Rattle.spec_script.specs.Choices.{Meanings}
use Rattle.spec_script.specs.Steps.{State}
use Rattle.spec_script.specs.Answers.{answer_text}
use Rattle.spec_script.specs.Output.{Numbered, Answered, Output, begin}
use Rattle.context_store.specs.Stores.{IsFirstBad}
use Rattle.replay_world.specs.Worlds.{TellsRecords}
use Rattle.replay_runs.specs.Outsiders.{Counts}
use Rattle.replay_runs.specs.Unfailing.{plain_output, plain_state}
use Rattle.replay_runs.specs.Replays.{OutsideAnswers, PutsUntold, OverRecords, AreHeld, IsComplete}
use Rattle.replay_runs.specs.Loads.{IsRefused, NamesBad, AtLoad}
use Rattle.replay_runs.specs.declared.status.Status.{Status}
use Rattle.replay_runs.specs.declared.status.Status.TheVariants as status

-- ---- answers

-- their texts, without newlines
abbrev pub texts_of : List Numbered → List (List ℕ)
texts_of answers = map (λ x. answer_text x.0 x.1) answers

-- their summary, for so many messages
abbrev pub summary_of : (messages : ℕ) → List Numbered → List ℕ
summary_of messages answers = summary_text messages (texts_of answers)

-- ---- what was answered, and what is held then

-- The whole script was answered.
pub record Exercises (means : Meanings) (messages : ℕ) (records : List Record) (held : Option (List (List ℕ))) (faults faults' : Counts) : Type 0 where
  pub out : List ℕ
  pub last : State
  pub output : Output means records (script_text messages) out last
  -- the keeper holds the records of the last state
  pub held_is : TellsRecords held last.records
  pub causes : OutsideAnswers output.answers faults faults'
  -- where neither keeper nor signer nor verifier failed there is one output, and one last state
  pub one : (Rose faults.keeper faults'.keeper → ⊥) → (Rose faults.signer faults'.signer → ⊥) → (Rose faults.verifier faults'.verifier → ⊥)
      → (out ≡ plain_output means records (script_text messages)) × (last ≡ plain_state means (begin records) (lines_of (script_text messages)))

-- and its summary was written
pub record Summarises (means : Meanings) (messages : ℕ) (records : List Record) (held : Option (List (List ℕ))) (faults faults' : Counts) (before after : Option (List ℕ)) : Type 0 where
  pub whole : Exercises means messages records held faults faults'
  pub written : Appends before after (summary_of messages whole.output.answers)

-- and a front of its summary was written, which isn't the whole
pub record SummarisesInPart (means : Meanings) (messages : ℕ) (records : List Record) (held : Option (List (List ℕ))) (faults faults' : Counts) (before after : Option (List ℕ)) : Type 0 where
  pub whole : Exercises means messages records held faults faults'
  pub written : WritesSome (summary_of messages whole.output.answers) before after

-- So many lines were answered. The keeper holds the records of the state then, and perhaps the next line's one record.
pub record StopsExercise (means : Meanings) (messages : ℕ) (records : List Record) (held : Option (List (List ℕ))) (faults faults' : Counts) : Type 0 where
  pub number : ℕ
  pub answers : List Numbered
  pub mid : State
  pub answered : Answered means (begin records) 1 (take number (lines_of (script_text messages))) answers mid
  pub held_is : TellsRecords held mid.records ⊎ PutsUntold means (script_text messages) (script_text messages) number mid held
  pub causes : OutsideAnswers answers faults faults'

-- How signer, verifier and screen mean; the number of messages; the records that were held and what is held; the faults of keeper, signer and verifier, and what was written, before and after.
abbrev pub Leaves : (means : Meanings) → (messages : ℕ) (records : List Record) (held : Option (List (List ℕ))) (faults faults' : Counts) (before after : Option (List ℕ)) → Status → Type 0
Leaves means messages records held faults faults' before after status.Done = Summarises means messages records held faults faults' before after
Leaves means messages records held faults faults' before after status.WriteFault = SummarisesInPart means messages records held faults faults' before after
-- memory was refused behind the answers, or among them, where nothing was written
Leaves means messages records held faults faults' before after status.NoMemory =
    SummarisesInPart means messages records held faults faults' before after ⊎ ((after ≡ before) × StopsExercise means messages records held faults faults')
-- nothing was written, and the same records are held
Leaves means messages records held faults faults' before after (status.Journal k) = (after ≡ before) × TellsRecords held records
Leaves means messages records held faults faults' before after status.KeeperFault = (after ≡ before) × TellsRecords held records
Leaves means messages records held faults faults' before after status.Words = ⊥
Leaves means messages records held faults faults' before after status.ReadFault = ⊥
Leaves means messages records held faults faults' before after (status.LineTooLong n) = ⊥
Leaves means messages records held faults faults' before after status.ScriptTooLarge = ⊥

-- a front of the summary of an output was written, and nothing else
pub record WritesFront (means : Meanings) (messages : ℕ) (records : List Record) (before after : Option (List ℕ)) : Type 0 where
  pub out : List ℕ
  pub last : State
  pub output : Output means records (script_text messages) out last
  pub front : List ℕ
  pub rest : List ℕ
  pub parts : summary_of messages output.answers ≡ front ++ rest
  pub written : Appends before after front

-- ---- the load at the start

-- the sink is as it was, and the same is held
pub record Unwritten {O : Type 0} (sink sink' : O) (held held' : Option (List (List ℕ))) : Type 0 where
  pub sink_stays : sink' ≡ sink
  pub held_stays : Stays held held'

-- ---- the whole run

-- `exercise N`
pub record RunsExercise {S O : Type 0} (messages : ℕ) (source source' : S) (sink sink' : O) (means : Option Meanings) (held held' : Option (List (List ℕ))) (faults faults' : Counts) (write_faults write_faults' : ℕ) (before after : Option (List ℕ)) (result : Status) : Type 0 where
  -- nothing is read
  pub source_stays : source' ≡ source
  -- what is left, by the status, where the keeper tells texts that are all of records, the signer how it signs, and the verifier which signatures are true
  pub leaves : IfSome means (λ m. OverRecords held (λ records. Leaves m messages records held' faults faults' before after result))
  -- whatever the status, a front of the summary of an output over these records was written
  pub front : IfSome means (λ m. OverRecords held (λ records. WritesFront m messages records before after))
  -- The load at the start names the first text that is no record, and none where there is none. Then, and where the keeper fails in the load, nothing is written, and the same is held.
  pub journal : NamesBad held result
  pub bad : IfSome held (λ texts. (k : ℕ) → IsFirstBad texts k → IsRefused k result × Unwritten sink sink' held held')
  pub load : AtLoad (Unwritten sink sink' held held') result
  -- Over records that may be held the summary is written whole, unless memory was refused or sink or keeper failed.
  pub complete : IfSome held (λ texts. AreHeld texts → IsComplete ⊥ (Rose write_faults write_faults') (Rose faults.keeper faults'.keeper) result)
  pub known : result ≢ status.Words
