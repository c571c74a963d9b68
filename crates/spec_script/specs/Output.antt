-- The answers to the lines of a script, each line with free choices of the outside, and their texts (this project's own).
use Rattle.std.specs.Prelude.{◌≡◌, ◌⊎◌, ℕ, ◌+◌, ◌-◌, ◌^◌, ◌≤◌, min, Bool, true, false, MatchBool, List, [], ◌∷◌, ◌++◌}
use Rattle.spec_messages.specs.Message.{Kind}
use Rattle.spec_records.specs.Records.{Record}
use Rattle.spec_exchange.specs.Outside.{Keeper}
use Rattle.spec_script.specs.Choices.{Choices, Meanings, IsBy}
use Rattle.spec_exchange.specs.EntryRefusals.{VerifierFailed}
use Rattle.spec_exchange.specs.AcceptRefusals as accepting
use Rattle.spec_exchange.specs.AcceptRefusals.{OfEntry}
use Rattle.spec_exchange.specs.Runs as exchange
use Rattle.spec_documents.specs.Lines.{lines_of, is_blank}
use Rattle.spec_handshake.specs.Refusals.{ends_start}
use Rattle.spec_handshake.specs.Starts.{Start, without_first}
use Rattle.spec_script.specs.Refusals.{Refusal, OfReceiving, OfOutside, OfHandshake, SignerFailed}
use Rattle.spec_script.specs.Steps.{State, Answer, Sends, Delivers, Refuses, after, line_step}
use Rattle.spec_script.specs.Answers.{answer_text}

-- in state s the line may have this answer, and then state t is reached
abbrev pub Answers : Meanings → State → List ℕ → Answer → State → Type 0
Answers m s line a t = (f : Choices) × IsBy m f × (a ≡ (line_step m.passes s f line).answer) × (t ≡ after s (line_step m.passes s f line))

-- a line's number and its answer
abbrev pub Numbered : Type 0
Numbered = ℕ × Answer

-- in state s these lines, the first of them line n, may have these answers, and then state t is reached. A blank line has none
abbrev pub Answered : Meanings → State → ℕ → List (List ℕ) → List Numbered → State → Type 0
Answered m s n [] answers t = (answers ≡ []) × (t ≡ s)
Answered m s n (line ∷ lines) answers t =
    MatchBool (is_blank line)
    (Answered m s (n + 1) lines answers t)
    ((a : Answer) × (rest : List Numbered) × (mid : State) × (answers ≡ (n, a) ∷ rest) × Answers m s line a mid × Answered m mid (n + 1) lines rest t)

-- the text of answers, each with a newline
abbrev pub answers_text : List Numbered → List ℕ
answers_text [] = []
answers_text (x ∷ xs) = (answer_text x.0 x.1 ++ 10 ∷ []) ++ answers_text xs

-- the state in which a run begins: no node, an empty wire, the records that are held, and no start that waits
abbrev pub begin : List Record → State
begin records = record { sites = []; wire = []; records = records; starts = [] }

-- the bytes may be the output for a script over these records, and t is the last state
pub record Output (m : Meanings) (records : List Record) (script : List ℕ) (out : List ℕ) (t : State) : Type 0 where
  pub answers : List Numbered
  pub answered : Answered m (begin records) 1 (lines_of script) answers t
  pub text : out ≡ answers_text answers

-- the text may answer line n in state s, and then state t is reached: what a reading loop asks of a machine
pub record GivesAnswer (m : Meanings) (s : State) (n : ℕ) (line text : List ℕ) (t : State) : Type 0 where
  pub answer : Answer
  pub answers : Answers m s line answer t
  pub text_is : text ≡ answer_text n answer

-- ---- what an answer is

-- as the reply of a call
abbrev pub reply_in : Answer → exchange.Reply
reply_in (Sends x number) = exchange.Made x
reply_in (Delivers d) = exchange.Told d
reply_in _ = exchange.Other

-- the answer delivers this message
abbrev pub delivers : List ℕ → ℕ → Kind → ℕ → Numbered → Bool
delivers node id kind message x = exchange.delivers node id kind message (reply_in x.1)

-- the answer is a document of this sequence number
abbrev pub numbers : List ℕ → ℕ → Kind → ℕ → Numbered → Bool
numbers node id kind seq x = exchange.numbers node id kind seq (reply_in x.1)

abbrev pub has_refusal : (Refusal → Bool) → Answer → Bool
has_refusal p (Refuses e) = p e
has_refusal p _ = false

abbrev pub is_keeper_refusal : Refusal → Bool
is_keeper_refusal (OfOutside Keeper) = true
is_keeper_refusal _ = false

abbrev pub is_signer_refusal : Refusal → Bool
is_signer_refusal SignerFailed = true
is_signer_refusal _ = false

-- the verifier failed at an entry
abbrev pub is_verifier_failure : accepting.Refusal → Bool
is_verifier_failure (OfEntry number VerifierFailed) = true
is_verifier_failure _ = false

abbrev pub is_verifier_refusal : Refusal → Bool
is_verifier_refusal (OfReceiving refusal report) = is_verifier_failure refusal
is_verifier_refusal _ = false

-- an answer that only a fault of keeper, signer or verifier, or a record that the keeper holds, gives
abbrev pub is_outside_refusal : Refusal → Bool
is_outside_refusal (OfOutside fault) = true
is_outside_refusal SignerFailed = true
is_outside_refusal (OfReceiving refusal report) = is_verifier_failure refusal
is_outside_refusal _ = false

-- a refusal after which a start may wait no longer
abbrev pub is_ending_refusal : Refusal → Bool
is_ending_refusal (OfHandshake refusal) = ends_start refusal
is_ending_refusal _ = false

-- the same starts, or all but the first that passes a test
abbrev pub LosesOne : (before now : List Start) → Type 0
LosesOne before now = (now ≡ before) ⊎ ((p : Start → Bool) × (now ≡ without_first p before))

-- ---- counts of faults

abbrev pub last_count : ℕ
last_count = 2 ^ 64 - 1

-- the count rose by so many at least, or stands at its last value
abbrev pub RoseBy : ℕ → ℕ → ℕ → Type 0
RoseBy n before now = min (before + n) last_count ≤ now

-- where the answer is such a fault the count rose in the event, and it never falls: answers with the counts after them, from this count on
abbrev pub HaveCauses : (Answer → Bool) → ℕ → List (Answer × ℕ) → Type 0
HaveCauses p before [] = Unit {0}
HaveCauses p before (x ∷ xs) = (before ≤ x.1) × (p x.0 ≡ true → RoseBy 1 before x.1) × HaveCauses p x.1 xs

abbrev pub count_after : ℕ → List (Answer × ℕ) → ℕ
count_after before [] = before
count_after before (x ∷ xs) = count_after x.1 xs
