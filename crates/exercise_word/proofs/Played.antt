-- The lines that a machine has answered so far, and the next.
use Rattle.std.proofs.Common.{◌≡◌, ℕ, ◌+◌, ◌*◌, ◌<◌, ◌≤◌, ◌^◌, List, [], ◌∷◌, ◌++◌, length, map, refl, ap, sym, subst, ◌∙◌, append_assoc, arith, length-append, inl}
use Rattle.std.specs.Prelude.{Option}
use Rattle.std.specs.Io.KnownBytes.{Appends}
use Rattle.std.proofs.KnownBytes.{Appends-nil}
use Rattle.spec_documents.specs.Lines.{Gives}
use Rattle.spec_exercise.specs.Script.{Line}
use Rattle.spec_exercise.specs.Documents.{line_text, lines}
use Rattle.spec_exercise.proofs.LineCounts.{lines_few}
use Rattle.spec_exercise.specs.Summary.{summary_text}
use Rattle.script_loop.specs.InPart.{GivesUp}
use Rattle.script_loop.specs.Progress.{WritesSome}
use Rattle.script_loop.specs.declared.ending.Ending.{Ending}
use Rattle.script_loop.specs.declared.ending.Ending.TheVariants.{Done, ReadFault, WriteFault, LineTooLong, ScriptTooLarge, NoMemory}
use Rattle.exercise_script.specs.Sums.{HasTaken}
use Rattle.exercise_script.specs.declared.summary.Summary.{Summary}
use Rattle.exercise_word.specs.Playing.{AnswersLines, PlaysLine, PlaysAll}
use Rattle.exercise_word.specs.Endings.{Writes, SummarisesInPart, Ends}

-- how far the playing has come: the first lines of the script were answered, and these are left
pub record Playing {M : Type 0} (gives : Gives M) (messages : ℕ) (old now : M) (number : ℕ) (left : List Line) (summary : Summary) : Type 0 where
  pub first : List (List ℕ)
  pub texts : List (List ℕ)
  pub parts : lines messages ≡ first ++ map line_text left
  pub number_is : number ≡ length first
  pub each : length texts ≡ length first
  pub answered : AnswersLines gives old 1 first texts now
  pub taken : HasTaken summary texts

-- one line more
one_more : {M : Type 0} (gives : Gives M) (old : M) (number place : ℕ) (first : List (List ℕ)) (line : List ℕ) (texts : List (List ℕ)) (text : List ℕ) (mid new : M)
    → place ≡ number + length first → AnswersLines gives old number first texts mid → gives mid place line text new → AnswersLines gives old number (first ++ line ∷ []) (texts ++ text ∷ []) new
one_more {M} gives old number place [] line texts text mid new at before given =
    let here : place ≡ number = omega (arith, at) in
    let there : gives mid number line text new = subst (λ (n : ℕ). gives mid n line text new) here given in
    let one : gives old number line text new = subst (λ (m : M). gives m number line text new) before.1 there in
    (text, [], new, ap (λ (xs : List (List ℕ)). xs ++ text ∷ []) before.0, one, (refl, refl))
one_more gives old number place (l ∷ ls) line texts text mid new at before given =
    (before.0, before.1 ++ text ∷ [], before.2, ap (λ (xs : List (List ℕ)). xs ++ text ∷ []) before.3, before.4, one_more gives before.2 (number + 1) place ls line before.1 text mid new (omega (arith, at)) before.5 given)

pub more_played : {M : Type 0} (gives : Gives M) (messages : ℕ) (old mid new : M) (number next : ℕ) (line : Line) (left rest : List Line) (before after : Summary)
    → Playing gives messages old mid number left before → left ≡ line ∷ rest → next ≡ number + 1 → PlaysLine gives mid next (line_text line) new before after → Playing gives messages old new next rest after
more_played gives messages old mid new number next line left rest before after p cut onward one = record {
  first = p.first ++ line_text line ∷ [];
  texts = p.texts ++ one.text ∷ [];
  parts = p.parts ∙ (ap (λ ls. p.first ++ map line_text ls) cut ∙ sym (append_assoc p.first (line_text line ∷ []) (map line_text rest)));
  number_is = omega (arith, onward, p.number_is, length-append p.first (line_text line ∷ []));
  each = omega (arith, p.each, length-append p.first (line_text line ∷ []), length-append p.texts (one.text ∷ []));
  answered = one_more gives old 1 next p.first (line_text line) p.texts one.text mid new (omega (arith, onward, p.number_is)) p.answered one.given;
  taken = one.taken p.texts p.taken;
}

-- the number of a line fits
pub room_for_next : {M : Type 0} (gives : Gives M) (messages : ℕ) (old now : M) (number : ℕ) (line : Line) (left rest : List Line) (summary : Summary)
    → Playing gives messages old now number left summary → left ≡ line ∷ rest → number + 1 ≤ 6 + 4 * messages
room_for_next gives messages old now number line left rest summary p cut =
    let parts : lines messages ≡ p.first ++ line_text line ∷ map line_text rest = p.parts ∙ ap (λ ls. p.first ++ map line_text ls) cut in
    omega (arith, p.number_is, lines_few messages, ap length parts, length-append p.first (line_text line ∷ map line_text rest))

-- so many answers can be counted
pub countable : {M : Type 0} (gives : Gives M) (messages : ℕ) (old new : M) (summary : Summary) → (p : PlaysAll gives messages old new summary) → messages < 2 ^ 32 → length p.texts < 2 ^ 64
countable gives messages old new summary p small = omega (arith, p.each, lines_few messages, small)

-- ---- what is written at the end

pub none_written : {M : Type 0} (gives : Gives M) (messages : ℕ) (old new : M) (summary : Summary) (written : Option (List ℕ)) → PlaysAll gives messages old new summary → SummarisesInPart gives messages old new written written
none_written gives messages old new summary written p = record {
  texts = p.texts;
  answered = p.answered;
  written = record { front = []; rest = summary_text messages p.texts; parts = refl; some = omega arith; written = Appends-nil written };
}

pub summarised : {M : Type 0} (gives : Gives M) (gives_up : GivesUp M) (messages : ℕ) (old new : M) (summary : Summary) (text : List ℕ) (before after : Option (List ℕ)) (e : Ending)
    → (p : PlaysAll gives messages old new summary) → text ≡ summary_text messages p.texts → Writes text before after e → Ends gives gives_up messages old new before after e
summarised gives gives_up messages old new summary text before after Done p is w = record { texts = p.texts; answered = p.answered; written = subst (Appends before after) is w }
summarised gives gives_up messages old new summary text before after WriteFault p is w = record { texts = p.texts; answered = p.answered; written = subst (λ (z : List ℕ). WritesSome z before after) is w }
summarised gives gives_up messages old new summary text before after NoMemory p is w = inl (record { texts = p.texts; answered = p.answered; written = subst (λ (z : List ℕ). WritesSome z before after) is w })
summarised gives gives_up messages old new summary text before after ReadFault p is w = absurd w
summarised gives gives_up messages old new summary text before after (LineTooLong n) p is w = absurd w
summarised gives gives_up messages old new summary text before after ScriptTooLarge p is w = absurd w
