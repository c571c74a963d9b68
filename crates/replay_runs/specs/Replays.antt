-- What a run of `replay` leaves, by its status: the replay theorem.
use Rattle.std.specs.Prelude.{◌≡◌, ◌⊎◌, ⊤, ℕ, ◌+◌, ◌-◌, ◌<◌, ◌≤◌, Bool, true, false, List, [], ◌∷◌, ◌++◌, length, take, count_by, Option, Some, IfSome}
use Rattle.std.specs.Io.KnownBytes.{Appends}
use Rattle.n32_outside.specs.Causes.{Rose, RoseBy}
use Rattle.script_loop.specs.Limits.{script_limit}
use Rattle.spec_documents.specs.Lines.{lines_of, ended_lines, is_blank}
use Rattle.script_loop.specs.Lines.{IsFirstLong, IsWithin, IsTooLarge}
use Rattle.script_loop.specs.InPart.{Takes, IsNext}
use Rattle.spec_records.specs.Records.{Record, record_limit}
use Rattle.spec_exchange.specs.Outside.{Journal, with_put}
use Rattle.spec_handshake.specs.Agreement.{Agrees}
use Rattle.spec_agreement.specs.ByHandshakes.{OpensByHandshakes}
use Rattle.spec_script.specs.Choices.{Choices, Meanings, IsBy}
use Rattle.replay_runs.specs.Outsiders.{Counts}
use Rattle.spec_script.specs.Refusals.{Refusal, OfOutside}
use Rattle.spec_script.specs.Steps.{State, Answer, line_step}
use Rattle.spec_script.specs.Answers.{answer_text}
use Rattle.spec_script.specs.Output.{Numbered, Answers, Answered, Output, answers_text, begin, has_refusal, is_keeper_refusal, is_signer_refusal, is_verifier_refusal}
use Rattle.context_store.specs.Stores.{AreRecords}
use Rattle.replay_world.specs.Worlds.{TellsRecords}
use Rattle.replay_runs.specs.Unfailing.{plain_output, plain_state}
use Rattle.replay_runs.specs.declared.status.Status.{Status}
use Rattle.replay_runs.specs.declared.status.Status.TheVariants as status

-- ---- answers

-- `KEEPER`
abbrev pub tells_keeper : Numbered → Bool
tells_keeper x = has_refusal is_keeper_refusal x.1

abbrev pub is_journal_refusal : Refusal → Bool
is_journal_refusal (OfOutside (Journal number)) = true
is_journal_refusal _ = false

-- `JOURNAL`
abbrev pub tells_journal : Numbered → Bool
tells_journal x = has_refusal is_journal_refusal x.1

-- `SIGNER`
abbrev pub tells_signer : Numbered → Bool
tells_signer x = has_refusal is_signer_refusal x.1

-- `VERIFIER`
abbrev pub tells_verifier : Numbered → Bool
tells_verifier x = has_refusal is_verifier_refusal x.1

-- how keeper, signer and verifier stand in a run's answers, by their counts of faults before and after the run
pub record OutsideAnswers (answers : List Numbered) (before after : Counts) : Type 0 where
  -- at most as many answers are `KEEPER` as the keeper failed
  pub keeper : RoseBy (count_by tells_keeper answers) before.keeper after.keeper
  -- at most as many are `SIGNER` as the signer failed
  pub signer : RoseBy (count_by tells_signer answers) before.signer after.signer
  -- at most as many are `VERIFIER` as the verifier failed
  pub verifier : RoseBy (count_by tells_verifier answers) before.verifier after.verifier
  -- none is `JOURNAL`: the keeper's records were read at the start, and each later one is a record
  pub sound : count_by tells_journal answers ≡ 0

-- ---- what was answered, and what is held then

-- The whole script was answered.
pub record RepliesToAll (means : Meanings) (script : List ℕ) (records : List Record) (held : Option (List (List ℕ))) (faults faults' : Counts) (before after : Option (List ℕ)) : Type 0 where
  pub out : List ℕ
  pub last : State
  pub output : Output means records script out last
  -- the output was written
  pub written : Appends before after out
  -- the keeper holds the records of the last state
  pub held_is : TellsRecords held last.records
  pub causes : OutsideAnswers output.answers faults faults'
  -- where nothing was held, and contexts were opened by handshakes alone, each two that name each other agree
  pub agree : records ≡ [] → OpensByHandshakes (lines_of script) output.answers → Agrees last.records
  -- where neither keeper nor signer nor verifier failed there is one output, and one last state
  pub one : (Rose faults.keeper faults'.keeper → ⊥) → (Rose faults.signer faults'.signer → ⊥) → (Rose faults.verifier faults'.verifier → ⊥) → (out ≡ plain_output means records script) × (last ≡ plain_state means (begin records) (lines_of script))

-- The first so many lines were answered, and nothing else.
pub record RepliesToFirst (means : Meanings) (count : ℕ) (script : List ℕ) (records : List Record) (held : Option (List (List ℕ))) (faults faults' : Counts) (before after : Option (List ℕ)) : Type 0 where
  pub answers : List Numbered
  pub last : State
  pub answered : Answered means (begin records) 1 (take count (lines_of script)) answers last
  pub written : Appends before after (answers_text answers)
  pub held_is : TellsRecords held last.records
  pub causes : OutsideAnswers answers faults faults'

-- The front is one of the answer to the line behind so many, and not the whole. The keeper holds the records of the state after it.
pub record CutsReply (means : Meanings) (script taken : List ℕ) (number : ℕ) (answers : List Numbered) (mid : State) (front : List ℕ) (held : Option (List (List ℕ))) (faults faults' : Counts) : Type 0 where
  pub line : List ℕ
  pub next : IsNext script taken number line
  pub spoken : is_blank line ≡ false
  pub answer : Answer
  pub last : State
  pub answered : Answers means mid line answer last
  pub rest : List ℕ
  pub some : 0 < length rest
  pub text : answer_text (number + 1) answer ++ 10 ∷ [] ≡ front ++ rest
  pub held_is : TellsRecords held last.records
  pub causes : OutsideAnswers (answers ++ (number + 1, answer) ∷ []) faults faults'

-- the step of the line may have put its record
pub record PutsUntold (means : Meanings) (script taken : List ℕ) (number : ℕ) (mid : State) (held : Option (List (List ℕ))) : Type 0 where
  pub line : List ℕ
  pub next : IsNext script taken number line
  pub choice : Choices
  pub by : IsBy means choice
  pub held_is : TellsRecords held (with_put mid.records (line_step means.passes mid choice line).put)

-- Memory was refused, and nothing of the next answer was written. The keeper holds the records of the state so far, and perhaps the next line's one record.
pub record LacksMemory (means : Meanings) (script taken : List ℕ) (number : ℕ) (answers : List Numbered) (mid : State) (front : List ℕ) (held : Option (List (List ℕ))) (faults faults' : Counts) (result : Status) : Type 0 where
  pub memory : result ≡ status.NoMemory
  pub none : front ≡ []
  pub held_is : TellsRecords held mid.records ⊎ PutsUntold means script taken number mid held
  pub causes : OutsideAnswers answers faults faults'

-- Within the limits so far, the first lines were answered, and the next one's answer was cut, or, where memory was refused, not begun.
pub record RepliesInPart (means : Meanings) (script : List ℕ) (left : Option (List ℕ)) (records : List Record) (held : Option (List (List ℕ))) (faults faults' : Counts) (before after : Option (List ℕ)) (result : Status) : Type 0 where
  pub taken : List ℕ
  pub number : ℕ
  pub takes : Takes script left number taken
  pub answers : List Numbered
  pub mid : State
  pub answered : Answered means (begin records) 1 (take number (lines_of script)) answers mid
  pub front : List ℕ
  pub stops : CutsReply means script taken number answers mid front held faults faults' ⊎ LacksMemory means script taken number answers mid front held faults faults' result
  pub written : Appends before after (answers_text answers ++ front)

-- The source failed, within the limits so far: the lines whose newline was taken were answered.
pub record StopsReading (means : Meanings) (script : List ℕ) (left : Option (List ℕ)) (records : List Record) (held : Option (List (List ℕ))) (faults faults' : Counts) (before after : Option (List ℕ)) : Type 0 where
  pub taken : List ℕ
  pub rest : List ℕ
  pub parts : script ≡ taken ++ rest
  pub left_is : left ≡ Some rest
  pub within : IsWithin taken
  pub replies : RepliesToFirst means (ended_lines taken) script records held faults faults' before after

-- How the signer signs, which signatures are true and what the screen passes; the script and what is left of it; the records that were held and what is held; the faults of keeper, signer and verifier, and what was written, before and after.
abbrev pub Leaves : (means : Meanings) → (script : List ℕ) (left : Option (List ℕ)) (records : List Record) (held : Option (List (List ℕ))) (faults faults' : Counts) (before after : Option (List ℕ)) → Status → Type 0
-- nothing is left, and every line was answered
Leaves means script left records held faults faults' before after status.Done =
    IsWithin script × (left ≡ Some []) × RepliesToAll means script records held faults faults' before after
Leaves means script left records held faults faults' before after status.ReadFault =
    StopsReading means script left records held faults faults' before after
-- the lines before line n were answered
Leaves means script left records held faults faults' before after (status.LineTooLong n) =
    IsFirstLong n (lines_of (take (script_limit + 1) script)) × RepliesToFirst means (n - 1) script records held faults faults' before after
-- the lines that end within the limit were answered
Leaves means script left records held faults faults' before after status.ScriptTooLarge =
    IsTooLarge script × RepliesToFirst means (ended_lines (take script_limit script)) script records held faults faults' before after
Leaves means script left records held faults faults' before after status.WriteFault = RepliesInPart means script left records held faults faults' before after status.WriteFault
Leaves means script left records held faults faults' before after status.NoMemory = RepliesInPart means script left records held faults faults' before after status.NoMemory
-- nothing was written, and the same records are held
Leaves means script left records held faults faults' before after (status.Journal k) = (after ≡ before) × TellsRecords held records
Leaves means script left records held faults faults' before after status.KeeperFault = (after ≡ before) × TellsRecords held records
Leaves means script left records held faults faults' before after status.Words = ⊥

-- a front of an output was written, and nothing else
pub record WritesFront (means : Meanings) (script : List ℕ) (records : List Record) (before after : Option (List ℕ)) : Type 0 where
  pub out : List ℕ
  pub last : State
  pub output : Output means records script out last
  pub front : List ℕ
  pub rest : List ℕ
  pub parts : out ≡ front ++ rest
  pub written : Appends before after front

-- where the keeper tells texts that are all of records
abbrev pub OverRecords : Option (List (List ℕ)) → (List Record → Type 0) → Type 0
OverRecords held P = IfSome held (λ texts. (records : List Record) → AreRecords texts records → P records)

-- ---- completeness

-- all texts that are held are records, and no more than may be held
pub record AreHeld (texts : List (List ℕ)) : Type 0 where
  pub records : List Record
  pub are : AreRecords texts records
  pub few : length records ≤ record_limit

-- such a run is done, where memory suffices and neither source nor sink nor keeper fails
abbrev pub IsComplete : (read_fault write_fault keeper_fault : Type 0) → Status → Type 0
IsComplete read_fault write_fault keeper_fault status.Done = ⊤
IsComplete read_fault write_fault keeper_fault status.NoMemory = ⊤
IsComplete read_fault write_fault keeper_fault status.ReadFault = read_fault
IsComplete read_fault write_fault keeper_fault status.WriteFault = write_fault
IsComplete read_fault write_fault keeper_fault status.KeeperFault = keeper_fault
IsComplete read_fault write_fault keeper_fault (status.Journal k) = ⊥
IsComplete read_fault write_fault keeper_fault status.Words = ⊥
IsComplete read_fault write_fault keeper_fault (status.LineTooLong n) = ⊥
IsComplete read_fault write_fault keeper_fault status.ScriptTooLarge = ⊥
