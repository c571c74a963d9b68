-- The script of `exercise N`, answered line by line, in the words of records and answers.
use Rattle.std.proofs.Common.{◌≡◌, ℕ, ◌+◌, ◌≤◌, List, [], ◌∷◌, ◌++◌, length, take, refl, ap, ap₂, sym, subst, ◌∙◌, append-nil, arith, true, false, Some, inl, inr}
use Rattle.std.specs.Prelude.{Option, slice_get}
use Rattle.std.specs.List.{AllByRecursion}
use Rattle.std.specs.Io.KnownBytes.{Appends}
use Rattle.std.proofs.lemmas.List.{append_cancel_right, map-append}
use Rattle.std.proofs.Math.Seq.{take-append_seam, take-append-add}
use Rattle.script_loop.specs.InPart.{GivesUp}
use Rattle.script_loop.specs.Progress.{WritesSome}
use Rattle.script_loop.specs.declared.ending.Ending.{Ending}
use Rattle.script_loop.specs.declared.ending.Ending.TheVariants as ending
use Rattle.spec_documents.specs.Lines.{lines_of, is_blank}
use Rattle.spec_exercise.specs.Documents.{lines}
use Rattle.spec_exercise.specs.Texts.{script_text}
use Rattle.spec_exercise.specs.Summary.{answer_lines, summary_text}
use Rattle.spec_exercise.proofs.Apart.{lines_apart, lines_speak}
use Rattle.exercise_word.specs.Playing.{AnswersLines, StopsPlaying}
use Rattle.exercise_word.specs.Endings as word
use Rattle.spec_records.specs.Records.{Record, record_limit}
use Rattle.spec_script.specs.Choices.{Meanings}
use Rattle.spec_script.specs.Steps.{State}
use Rattle.spec_script.specs.Answers.{answer_text}
use Rattle.spec_script.specs.Output.{Answered, Numbered, answers_text, begin}
use Rattle.replay_world.specs.Outsiders.{Told}
use Rattle.replay_world.specs.Worlds.{TellsRecords, state_of}
use Rattle.replay_world.specs.declared.world.World.{World}
use Rattle.replay_runs.specs.Outsiders.{counts_of, meanings_of}
use Rattle.replay_runs.specs.Lines.{GivesUpLine}
use Rattle.replay_runs.specs.Statuses.{status_of}
use Rattle.replay_runs.specs.Replays.{OutsideAnswers}
use Rattle.replay_runs.specs.Exercises.{Exercises, StopsExercise, Leaves, texts_of, summary_of}
use Rattle.replay_runs.proofs.Plain.{answered_then, by_line, into_spoken, text-append}
use Rattle.replay_runs.proofs.Went.{Went, gives_of, went}
use Rattle.replay_runs.proofs.InPart.{causes_append, given_reply}
use Rattle.replay_runs.proofs.Left.{one_output}

-- ---- lines

-- some lines, and then more
went_then : (means : Meanings) {M : Type 0} (outside : M → Told) (world : M → World) (old mid new : M) (records : List Record) (number place : ℕ) (xs ys : List (List ℕ)) (out more : List ℕ)
    → place ≡ number + length xs → (v : Went means outside world old records number xs out mid) → Went means outside world mid v.last.records place ys more new → Went means outside world old records number (xs ++ ys) (out ++ more) new
went_then means outside world old mid new records number place xs ys out more at v w = record {
  answers = v.answers ++ w.answers;
  last = w.last;
  answered = answered_then means (state_of (world old) records) number xs v.answers v.last place ys w.answers w.last at v.answered
      (subst (λ (s : State). Answered means s place ys w.answers w.last) v.state_is w.answered);
  text = ap₂ (λ (a b : List ℕ). a ++ b) v.text w.text ∙ sym (text-append v.answers w.answers);
  state_is = w.state_is;
  held_is = w.held_is;
  few = w.few;
  still = w.still;
  causes = causes_append v.answers w.answers (counts_of (outside old)) (counts_of (outside mid)) (counts_of (outside new)) v.causes w.causes;
}

one_went : (means : Meanings) {M : Type 0} (outside : M → Told) (world : M → World) (old new : M) (records : List Record) (number : ℕ) (line text : List ℕ)
    → is_blank line ≡ false → TellsRecords (outside old).held records → length records ≤ record_limit → meanings_of (outside old).others ≡ Some means
    → gives_of outside world old number line text new → Went means outside world old records number (line ∷ []) (text ++ 10 ∷ []) new
one_went means outside world old new records number line text spoken t few is given =
    went means outside world old records number (line ∷ []) (text ++ 10 ∷ []) new t few is
    (text ++ 10 ∷ [], [], new, sym (append-nil (text ++ 10 ∷ [])), into_spoken _ _ (is_blank line) spoken (text, refl, given), (refl, refl))

one_text : (means : Meanings) (s t : State) (number : ℕ) (line text : List ℕ) (answers : List Numbered)
    → is_blank line ≡ false → Answered means s number (line ∷ []) answers t → text ++ 10 ∷ [] ≡ answers_text answers → texts_of answers ≡ text ∷ []
one_text means s t number line text answers spoken answered same =
    by_line (is_blank line) answered
    (λ blank more. absurd (let no : true ≡ false = sym blank ∙ spoken in cc))
    λ also b.
    let one : answers ≡ (number, b.0) ∷ [] = b.3 ∙ ap (λ (xs : List Numbered). (number, b.0) ∷ xs) b.5.0 in
    let whole : text ++ 10 ∷ [] ≡ answer_text number b.0 ++ 10 ∷ [] = same ∙ (ap answers_text one ∙ append-nil (answer_text number b.0 ++ 10 ∷ [])) in
    ap texts_of one ∙ ap (λ (x : List ℕ). x ∷ []) (sym (append_cancel_right text (answer_text number b.0) (10 ∷ []) whole))

-- the lines were answered by these texts
record Played (means : Meanings) {M : Type 0} (outside : M → Told) (world : M → World) (old : M) (records : List Record) (number : ℕ) (following : List (List ℕ)) (texts : List (List ℕ)) (new : M) : Type 0 where
  done : Went means outside world old records number following (answer_lines texts) new
  texts_are : texts ≡ texts_of done.answers

played : (means : Meanings) {M : Type 0} (outside : M → Told) (world : M → World) (old : M) (records : List Record) (number : ℕ) (following : List (List ℕ)) (texts : List (List ℕ)) (new : M)
    → AllByRecursion (λ line. is_blank line ≡ false) following → TellsRecords (outside old).held records → length records ≤ record_limit → meanings_of (outside old).others ≡ Some means
    → AnswersLines (gives_of outside world) old number following texts new → Played means outside world old records number following texts new
unfolding went_then
played means outside world old records number [] texts new speak t few is h =
    let w = went means outside world old records number [] (answer_lines texts) new t few is (ap answer_lines h.0, h.1) in
    record { done = w; texts_are = h.0 ∙ sym (ap texts_of w.answered.0) }
played means outside world old records number (line ∷ following) texts new speak t few is h =
    let v = one_went means outside world old h.2 records number line h.0 speak.0 t few is h.4 in
    let p = played means outside world h.2 v.last.records (number + 1) following h.1 new speak.1 v.held_is v.few v.still h.5 in
    let one : texts_of v.answers ≡ h.0 ∷ [] = one_text means (state_of (world old) records) v.last number line h.0 v.answers speak.0 v.answered v.text in
    let both : texts_of (v.answers ++ p.done.answers) ≡ h.0 ∷ h.1 =
    map-append (λ (x : Numbered). answer_text x.0 x.1) v.answers p.done.answers ∙ (ap (λ (ts : List (List ℕ)). ts ++ texts_of p.done.answers) one ∙ ap (λ (ts : List (List ℕ)). h.0 ∷ ts) (sym p.texts_are)) in
    let whole : Played means outside world old records number (line ∷ following) (h.0 ∷ h.1) new =
    record { done = went_then means outside world old h.2 new records number (number + 1) (line ∷ []) following (h.0 ++ 10 ∷ []) (answer_lines h.1) (omega arith) v p.done; texts_are = sym both } in
    subst (λ (ts : List (List ℕ)). Played means outside world old records number (line ∷ following) ts new) (sym h.3) whole

-- ---- the whole script

record PlaysWhole (means : Meanings) (messages : ℕ) (records : List Record) (held : Option (List (List ℕ))) (before after_ : Told) (texts : List (List ℕ)) : Type 0 where
  whole : Exercises means messages records held (counts_of before) (counts_of after_)
  summary_is : summary_text messages texts ≡ summary_of messages whole.output.answers

all_of : (means : Meanings) {M : Type 0} (outside : M → Told) (world : M → World) (messages : ℕ) (records : List Record) (old new : M) (texts : List (List ℕ))
    → TellsRecords (outside old).held records → length records ≤ record_limit → meanings_of (outside old).others ≡ Some means → state_of (world old) records ≡ begin records
    → AnswersLines (gives_of outside world) old 1 (lines messages) texts new → PlaysWhole means messages records (outside new).held (outside old) (outside new) texts
all_of means outside world messages records old new texts t few is begins h =
    let p = played means outside world old records 1 (lines messages) texts new (lines_speak messages) t few is h in
    let w = p.done in
    let own : Answered means (begin records) 1 (lines messages) w.answers w.last = subst (λ (s : State). Answered means s 1 (lines messages) w.answers w.last) begins w.answered in
    let answered : Answered means (begin records) 1 (lines_of (script_text messages)) w.answers w.last =
    subst (λ (ls : List (List ℕ)). Answered means (begin records) 1 ls w.answers w.last) (sym (lines_apart messages)) own in
    record {
      whole = record {
        out = answers_text w.answers;
        last = w.last;
        output = record { answers = w.answers; answered = answered; text = refl };
        held_is = w.held_is;
        causes = w.causes;
        one = one_output means (script_text messages) records w.answers w.last (counts_of (outside old)) (counts_of (outside new)) answered w.causes;
      };
      summary_is = ap (summary_text messages) p.texts_are;
    }

-- ---- memory was refused among the lines

front_all : {X : Type 0} (P : X → Type 0) (xs ys : List X) → AllByRecursion P (xs ++ ys) → AllByRecursion P xs
front_all P [] ys h = tt
front_all P (x ∷ xs) ys h = (h.0, front_all P xs ys h.1)

back_all : {X : Type 0} (P : X → Type 0) (xs ys : List X) → AllByRecursion P (xs ++ ys) → AllByRecursion P ys
back_all P [] ys h = h
back_all P (x ∷ xs) ys h = back_all P xs ys h.1

next_there : (xs : List (List ℕ)) (line : List ℕ) (rest : List (List ℕ)) → slice_get (xs ++ line ∷ rest) (length xs) ≡ Some line
next_there [] line rest = refl
next_there (x ∷ xs) line rest = next_there xs line rest

stops_of : (means : Meanings) {M : Type 0} (outside : M → Told) (world : M → World) (gives_up : GivesUp M) (messages : ℕ) (records : List Record) (old new : M)
    → TellsRecords (outside old).held records → length records ≤ record_limit → meanings_of (outside old).others ≡ Some means → state_of (world old) records ≡ begin records
    → ((a b : M) (n : ℕ) (line : List ℕ) → gives_up a n line b → GivesUpLine (outside a) (outside b) (world a) (world b) line)
    → StopsPlaying (gives_of outside world) gives_up messages old new → StopsExercise means messages records (outside new).held (counts_of (outside old)) (counts_of (outside new))
stops_of means {M} outside world gives_up messages records old new t few is begins kept s = elim s.lost [
  | inl same ↦ at_first same
  | inr lost ↦ elim lost [ inl given_up ↦ at_next given_up | inr given ↦ behind_next given.0 given.1 ]
]
  where
    speak : AllByRecursion (λ line. is_blank line ≡ false) (s.first ++ s.line ∷ s.rest)
    speak = subst (λ (ls : List (List ℕ)). AllByRecursion (λ line. is_blank line ≡ false) ls) s.parts (lines_speak messages)

    w : Went means outside world old records 1 s.first (answer_lines s.texts) s.mid
    w = (played means outside world old records 1 s.first s.texts s.mid (front_all (λ line. is_blank line ≡ false) s.first (s.line ∷ s.rest) speak) t few is s.answered).done

    parts : lines_of (script_text messages) ≡ s.first ++ s.line ∷ s.rest
    parts = lines_apart messages ∙ s.parts

    answered : Answered means (begin records) 1 (take (length s.first) (lines_of (script_text messages))) w.answers w.last
    answered =
        let front : take (length s.first) (lines_of (script_text messages)) ≡ s.first = ap (take (length s.first)) parts ∙ take-append_seam s.first (s.line ∷ s.rest) in
        subst (λ (ls : List (List ℕ)). Answered means (begin records) 1 ls w.answers w.last) (sym front) (subst (λ (x : State). Answered means x 1 s.first w.answers w.last) begins w.answered)

    at_first : new ≡ s.mid → StopsExercise means messages records (outside new).held (counts_of (outside old)) (counts_of (outside new))
    at_first same = record {
      number = length s.first;
      answers = w.answers;
      mid = w.last;
      answered = answered;
      held_is = inl (subst (λ (m : M). TellsRecords (outside m).held w.last.records) (sym same) w.held_is);
      causes = subst (λ (m : M). OutsideAnswers w.answers (counts_of (outside old)) (counts_of (outside m))) (sym same) w.causes;
    }

    there : slice_get (lines_of (script_text messages)) (length s.first) ≡ Some s.line
    there = ap (λ (ls : List (List ℕ)). slice_get ls (length s.first)) parts ∙ next_there s.first s.line s.rest

    at_next : gives_up s.mid (length s.first + 1) s.line new → StopsExercise means messages records (outside new).held (counts_of (outside old)) (counts_of (outside new))
    at_next given_up =
        let l = given_reply means outside world gives_up (script_text messages) (script_text messages) (length s.first) s.line [] (counts_of (outside old)) w.answers w.last s.mid new ending.NoMemory
        w.state_is w.held_is w.still w.causes kept (record { there = there; whole = there }) (record { memory = refl; none = refl; left = given_up }) in
        record { number = length s.first; answers = w.answers; mid = w.last; answered = answered; held_is = l.held_is; causes = l.causes }

    behind_next : (text : List ℕ) → gives_of outside world s.mid (length s.first + 1) s.line text new → StopsExercise means messages records (outside new).held (counts_of (outside old)) (counts_of (outside new))
    behind_next text given =
        let spoken = (back_all (λ line. is_blank line ≡ false) s.first (s.line ∷ s.rest) speak).0 in
        let one = one_went means outside world s.mid new w.last.records (length s.first + 1) s.line text spoken w.held_is w.few w.still given in
        let v = went_then means outside world old s.mid new records 1 (length s.first + 1) s.first (s.line ∷ []) (answer_lines s.texts) (text ++ 10 ∷ []) (omega arith) w one in
        let front : take (length s.first + 1) (lines_of (script_text messages)) ≡ s.first ++ s.line ∷ [] = ap (take (length s.first + 1)) parts ∙ take-append-add s.first (s.line ∷ s.rest) 1 in
        record {
          number = length s.first + 1;
          answers = v.answers;
          mid = v.last;
          answered = subst (λ (ls : List (List ℕ)). Answered means (begin records) 1 ls v.answers v.last) (sym front) (subst (λ (x : State). Answered means x 1 (s.first ++ s.line ∷ []) v.answers v.last) begins v.answered);
          held_is = inl v.held_is;
          causes = v.causes;
        }

-- ---- by the ending

pub exercise_leaves : (means : Meanings) {M : Type 0} (outside : M → Told) (world : M → World) (gives_up : GivesUp M) (messages : ℕ) (records : List Record) (old new : M) (before after : Option (List ℕ)) (e : Ending)
    → TellsRecords (outside old).held records → length records ≤ record_limit → meanings_of (outside old).others ≡ Some means → state_of (world old) records ≡ begin records
    → ((a b : M) (n : ℕ) (line : List ℕ) → gives_up a n line b → GivesUpLine (outside a) (outside b) (world a) (world b) line)
    → word.Ends (gives_of outside world) gives_up messages old new before after e
    → Leaves means messages records (outside new).held (counts_of (outside old)) (counts_of (outside new)) before after (status_of e)
exercise_leaves means outside world gives_up messages records old new before after ending.Done t few is begins kept e =
    let a = all_of means outside world messages records old new e.texts t few is begins e.answered in
    record { whole = a.whole; written = subst (Appends before after) a.summary_is e.written }
exercise_leaves means outside world gives_up messages records old new before after ending.WriteFault t few is begins kept e =
    let a = all_of means outside world messages records old new e.texts t few is begins e.answered in
    record { whole = a.whole; written = subst (λ (z : List ℕ). WritesSome z before after) a.summary_is e.written }
exercise_leaves means outside world gives_up messages records old new before after ending.NoMemory t few is begins kept e = elim e [
  | inl p ↦
      let a = all_of means outside world messages records old new p.texts t few is begins p.answered in
      inl (record { whole = a.whole; written = subst (λ (z : List ℕ). WritesSome z before after) a.summary_is p.written })
  | inr p ↦ inr (p.1, stops_of means outside world gives_up messages records old new t few is begins kept p.0)
]
exercise_leaves means outside world gives_up messages records old new before after ending.ReadFault t few is begins kept e = absurd e
exercise_leaves means outside world gives_up messages records old new before after (ending.LineTooLong n) t few is begins kept e = absurd e
exercise_leaves means outside world gives_up messages records old new before after ending.ScriptTooLarge t few is begins kept e = absurd e
