-- What a run of a script tells a context: its events in the run, and their answers (this project's own).
use Rattle.std.specs.Prelude.{◌≡◌, ◌<◌, ℕ, ◌+◌, Bool, true, false, MatchBool, List, [], ◌∷◌, length, Result, Ok, Err, if◌then◌else◌}
use Rattle.std.specs.List.{list_any}
use Rattle.spec_documents.specs.Lines.{is_blank}
use Rattle.spec_records.specs.Records.{record_limit}
use Rattle.spec_exchange.specs.Isolation.{unnumbered}
use Rattle.spec_script.specs.Refusals.{Refusal, Beyond, OfReceiving}
use Rattle.spec_script.specs.Events.{Event, line_event}
use Rattle.spec_script.specs.Choices.{Meanings}
use Rattle.spec_script.specs.Steps.{State, Step, Answer, Sends, Refuses, line_step}
use Rattle.spec_script.specs.Output.{Answered, Numbered, has_refusal, is_outside_refusal}
use Rattle.spec_isolation.specs.Concerns.{Brought, Makes, concerns, brought}

-- a run: from a state on these lines, the first of that number, have these answers, and then the state at the end is reached
pub record Run (m : Meanings) : Type 0 where
  pub start : State
  pub first : ℕ
  pub lines : List (List ℕ)
  pub answers : List Numbered
  pub end : State
  pub answered : Answered m start first lines answers end

-- ---- the events of a context in a run

-- an event of the context: what it brings, and its answer
abbrev pub Own : Type 0
Own = Brought × Answer

-- that of a line, which may be of no event, and which comes to this step
abbrev pub onto_own : List ℕ → ℕ → State → Result Event Refusal → Step → List Own → List Own
onto_own node id s (Ok e) r rest = if concerns node id s e then (brought s e r, r.answer) ∷ rest else rest
onto_own node id s (Err refusal) r rest = rest

abbrev pub by_line : {B N P : Type 0} (b : Bool) → MatchBool b B N → (B → P) → (N → P) → P
by_line true h blank spoken = blank h
by_line false h blank spoken = spoken h

abbrev pub own_in : (m : Meanings) (node : List ℕ) (id : ℕ) (s : State) (n : ℕ) (lines : List (List ℕ)) (answers : List Numbered) (t : State) → Answered m s n lines answers t → List Own
own_in m node id s n [] answers t run = []
own_in m node id s n (line ∷ lines) answers t run =
    by_line (is_blank line) run
    (λ rest. own_in m node id s (n + 1) lines answers t rest)
    (λ told. onto_own node id s (line_event line) (line_step m.passes s told.4.0 line) (own_in m node id told.2 (n + 1) lines told.1 t told.5))

-- in their order
abbrev pub own_part : {m : Meanings} → (node : List ℕ) (id : ℕ) → Run m → List Own
own_part {m} node id run = own_in m node id run.start run.first run.lines run.answers run.end run.answered

-- what they bring
abbrev pub all_brought : List Own → List Brought
all_brought [] = []
all_brought (x ∷ xs) = x.0 ∷ all_brought xs

-- the answers to what is sent and delivered
abbrev pub told : List Own → List Answer
told [] = []
told ((Makes item, a) ∷ xs) = told xs
told ((_, a) ∷ xs) = a ∷ told xs

-- ---- an answer

-- but for the numbers of the wire and of a replayed message's record
abbrev pub but_for_numbers : Answer → Answer
but_for_numbers (Sends sealed number) = Sends sealed 0
but_for_numbers (Refuses (OfReceiving refusal report)) = Refuses (OfReceiving (unnumbered refusal) report)
but_for_numbers a = a

-- a fault of the outside, or that the wire is full
abbrev pub is_hindrance : Refusal → Bool
is_hindrance (Beyond limit) = true
is_hindrance e = is_outside_refusal e

-- none of the context's messages and documents is answered with one, and there is room for a record at the end of the run
pub record Undisturbed {m : Meanings} (node : List ℕ) (id : ℕ) (run : Run m) : Type 0 where
  pub unhindered : list_any (has_refusal is_hindrance) (told (own_part node id run)) ≡ false
  pub room : length run.end.records < record_limit
