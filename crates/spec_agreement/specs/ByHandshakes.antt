-- Scripts that open contexts by handshakes alone, over documents that were made for handshakes (this project's own).
use Rattle.std.specs.Prelude.{ℕ, ℤ, pos, negsuc, Bool, true, false, not, ◌||◌, ◌&&◌, ◌==◌, List, [], ◌∷◌, ◌++◌, map, filter, Result, Ok, IsTrue}
use Rattle.std.specs.List.{list_any}
use Rattle.spec_documents.specs.Lines.{is_blank}
use Rattle.spec_script.specs.Refusals.{Refusal}
use Rattle.spec_script.specs.Events.{Event, AddContext, StartWith, AnswerTo, FinishBy, line_event}
use Rattle.spec_script.specs.Steps.{Answer, Forwards, Opens}
use Rattle.spec_script.specs.Output.{Numbered, has_refusal, is_keeper_refusal, is_ending_refusal}

-- the event of a line, or why it is of none
abbrev pub Said : Type 0
Said = Result Event Refusal

-- the number on the wire of the document that an answer tells
abbrev pub number_told : Answer → List ℕ
number_told (Forwards document number) = number ∷ []
number_told (Opens document number id) = number ∷ []
number_told _ = []

-- the number of the document that an event made for a handshake: those of `start`, `answer` and `finish`
abbrev pub number_made : Said → Answer → List ℕ
number_made (Ok (StartWith node peer offer)) a = number_told a
number_made (Ok (AnswerTo node number offer)) a = number_told a
number_made (Ok (FinishBy node number)) a = number_told a
number_made _ a = []

abbrev pub is_among : List ℕ → ℤ → Bool
is_among numbers (pos k) = list_any (λ n. n == k) numbers
is_among numbers (negsuc k) = false

-- the event hands in no context, and the document that it answers or finishes by was made for a handshake
abbrev pub shakes_hands : (made : List ℕ) → Said → Bool
shakes_hands made (Ok (AddContext context)) = false
shakes_hands made (Ok (AnswerTo node number offer)) = is_among made number
shakes_hands made (Ok (FinishBy node number)) = is_among made number
shakes_hands made _ = true

-- the refusal of an event that leaves all as it was
abbrev pub is_idle : Refusal → Bool
is_idle e = not (is_keeper_refusal e || is_ending_refusal e)

-- along a run each event is of that kind, or is refused and leaves all as it was. The documents that were made for handshakes so far have these numbers on the wire
abbrev pub are_handshakes : (made : List ℕ) → List Said → List Numbered → Bool
are_handshakes made [] answers = true
are_handshakes made (e ∷ es) [] = true
are_handshakes made (e ∷ es) (x ∷ xs) = (has_refusal is_idle x.1 || shakes_hands made e) && are_handshakes (number_made e x.1 ++ made) es xs

-- what the lines say, but for blank ones, which have no answer
abbrev pub said : List (List ℕ) → List Said
said lines = map line_event (filter (λ line. not (is_blank line)) lines)

-- in a run with these answers, contexts are opened by handshakes alone
abbrev pub OpensByHandshakes : List (List ℕ) → List Numbered → Type 0
OpensByHandshakes lines answers = IsTrue (are_handshakes [] (said lines) answers)
