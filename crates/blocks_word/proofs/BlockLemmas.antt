-- What the machine of `blocks` writes.
use Rattle.std.proofs.Common.{◌≡◌, ◌≤◌, ◌+◌, ◌-◌, ℕ, Bool, true, false, cond, List, [], ◌∷◌, ◌++◌, length, take, drop, refl, ap, ap₂, sym, subst, ◌∙◌, append-nil, append_assoc, length-append, arith, inl, inr, Some, None, IfSome}
use Rattle.std.specs.Prelude.{Option, MatchBool}
use Rattle.std.specs.Io.KnownBytes.{Appends, Consumes}
use Rattle.std.proofs.lemmas.List.{take-append-drop, length-take-le}
use Rattle.std.proofs.lemmas.Option.{slice_get_within}
use Rattle.n32_values.proofs.Trees.{drop_at}
use Rattle.spec_documents.specs.Lines.{lines_of, is_blank, ended_lines, Outputs}
use Rattle.script_loop.specs.Lines.{IsWithin}
use Rattle.script_loop.specs.Limits.{script_limit}
use Rattle.script_loop.specs.InPart.{IsCut, IsNext}
use Rattle.script_loop.specs.Ends.{Ends, Answers, AnswersInPart, MeetsNoLimit}
use Rattle.script_loop.specs.declared.ending.Ending.{Ending}
use Rattle.script_loop.specs.declared.ending.Ending.TheVariants.{Done, ReadFault, WriteFault, LineTooLong, ScriptTooLarge, NoMemory}
use Rattle.blocks_word.specs.BlockAnswers.{block_answer, answers_from, blocks_output, first_answers, gives_block, gives_none}
use Rattle.blocks_word.specs.BlockRuns.{Leaves, CutsAnswer, WritesInPart, WritesFront, Runs}

-- ---- what was written, as a function of the lines

line_is : {M : Type 0} (blank : Bool) (old new : M) (number : ℕ) (line out : List ℕ)
    → MatchBool blank ((out ≡ []) × (new ≡ old)) ((text : List ℕ) × (out ≡ text ++ 10 ∷ []) × gives_block old number line text new)
    → out ≡ cond blank [] (block_answer number line ++ 10 ∷ [])
line_is true old new number line out h = h.0
line_is false old new number line out h = h.1 ∙ ap (λ z. z ++ 10 ∷ []) h.2.0

pub outputs_are : {M : Type 0} (old : M) (number : ℕ) (lines : List (List ℕ)) (out : List ℕ) (new : M) → Outputs gives_block old number lines out new → out ≡ answers_from number lines
outputs_are old number [] out new h = h.0
outputs_are old number (line ∷ lines) out new h =
    h.3 ∙ (ap (λ z. z ++ h.1) (line_is (is_blank line) old h.2 number line h.0 h.4)
    ∙ ap (λ z. cond (is_blank line) [] (block_answer number line ++ 10 ∷ []) ++ z) (outputs_are h.2 (number + 1) lines h.1 new h.5))

pub written_is : {M : Type 0} (old : M) (lines : List (List ℕ)) (new : M) (before after : Option (List ℕ)) → Answers gives_block old lines new before after → Appends before after (answers_from 1 lines)
written_is old lines new before after a = subst (Appends before after) (outputs_are old 1 lines a.out new a.answered) a.written

answers_from-append : (number : ℕ) (xs ys : List (List ℕ)) → answers_from number (xs ++ ys) ≡ answers_from number xs ++ answers_from (number + length xs) ys
answers_from-append number [] ys = let same : number ≡ number + 0 = omega arith in ap (λ n. answers_from n ys) same
answers_from-append number (x ∷ xs) ys =
    let own = cond (is_blank x) [] (block_answer number x ++ 10 ∷ []) in
    let place : (number + 1) + length xs ≡ number + length (x ∷ xs) = omega arith in
    ap (λ z. own ++ z) (answers_from-append (number + 1) xs ys)
    ∙ (ap (λ n. own ++ (answers_from (number + 1) xs ++ answers_from n ys)) place ∙ sym (append_assoc own (answers_from (number + 1) xs) (answers_from (number + length (x ∷ xs)) ys)))

-- the first answers begin the output
pub first_begin : (k : ℕ) (script : List ℕ) → blocks_output script ≡ first_answers k script ++ answers_from (1 + length (take k (lines_of script))) (drop k (lines_of script))
first_begin k script =
    ap (answers_from 1) (sym (take-append-drop k (lines_of script))) ∙ answers_from-append 1 (take k (lines_of script)) (drop k (lines_of script))

-- ---- what a run leaves

whole_front : {M : Type 0} (script : List ℕ) (k : ℕ) (old new : M) (before after : Option (List ℕ)) → Answers gives_block old (take k (lines_of script)) new before after → WritesFront script before after
whole_front script k old new before after a = record {
  front = first_answers k script;
  rest = answers_from (1 + length (take k (lines_of script))) (drop k (lines_of script));
  parts = first_begin k script;
  written = written_is old (take k (lines_of script)) new before after a;
}

-- the answer to the next line was cut
cut_is : {M : Type 0} (script taken : List ℕ) (number : ℕ) (line front : List ℕ) (old new : M) → IsNext script taken number line → IsCut gives_block old (number + 1) line front new → CutsAnswer script taken number front
cut_is script taken number line front old new next c =
    by_blank (is_blank line) refl (line_is (is_blank line) old new (number + 1) line (front ++ c.rest) c.output)
  where
    by_blank : (b : Bool) → is_blank line ≡ b → front ++ c.rest ≡ cond b [] (block_answer (number + 1) line ++ 10 ∷ []) → CutsAnswer script taken number front
    by_blank true blank out = absurd (omega (arith, ap length out, length-append front c.rest, c.some))
    by_blank false spoken out = record { line = line; next = next; spoken = spoken; rest = c.rest; some = c.some; text = sym out }

in_part : {M : Type 0} (script : List ℕ) (left : Option (List ℕ)) (old new : M) (before after : Option (List ℕ)) (ending : Ending) → AnswersInPart gives_block gives_none old script left new before after ending → WritesInPart script left before after ending
in_part script left old new before after ending a = record {
  taken = a.taken;
  number = a.number;
  takes = a.takes;
  front = a.front;
  stops = elim a.stops [
    | inl n ↦ elim n.stops [
      | inl c ↦ inl (cut_is script a.taken a.number n.line a.front a.mid new n.next c)
      | inr g ↦ inr (g.memory, g.none)
    ]
    | inr u ↦ inr (u.memory, u.none)
  ];
  written = subst (λ z. Appends before after (z ++ a.front)) (outputs_are old 1 (take a.number (lines_of script)) a.out a.mid a.answered) a.written;
}

part_front : (script : List ℕ) (left before after : Option (List ℕ)) (ending : Ending) → WritesInPart script left before after ending → WritesFront script before after
part_front script left before after ending w = elim w.stops [ inl c ↦ cut_front c | inr n ↦ whole n.1 ]
  where
    cut_front : CutsAnswer script w.taken w.number w.front → WritesFront script before after
    cut_front c =
        let first = first_answers w.number script in
        let lines = lines_of script in
        let few : length (take w.number lines) ≡ w.number = length-take-le w.number lines (let within = slice_get_within lines w.number c.line c.next.there in omega (arith, within)) in
        let place : 1 + length (take w.number lines) ≡ w.number + 1 = omega (arith, few) in
        let more = answers_from (w.number + 1 + 1) (drop (w.number + 1) lines) in
        let own = block_answer (w.number + 1) c.line ++ 10 ∷ [] in
        let next : answers_from (1 + length (take w.number lines)) (drop w.number lines) ≡ own ++ more =
        ap₂ (λ n ls. answers_from n ls) place (drop_at lines w.number c.line c.next.there) ∙ ap (λ b. cond b [] own ++ more) c.spoken in
        record {
          front = first ++ w.front;
          rest = c.rest ++ more;
          parts = first_begin w.number script ∙ (ap (λ z. first ++ z) (next ∙ (ap (λ z. z ++ more) c.text ∙ append_assoc w.front c.rest more)) ∙ sym (append_assoc first w.front (c.rest ++ more)));
          written = w.written;
        }

    whole : w.front ≡ [] → WritesFront script before after
    whole none =
        let first = first_answers w.number script in
        let more = answers_from (1 + length (take w.number (lines_of script))) (drop w.number (lines_of script)) in
        record {
          front = first ++ w.front;
          rest = more;
          parts = first_begin w.number script ∙ ap (λ z. z ++ more) (sym (ap (λ z. first ++ z) none ∙ append-nil first));
          written = w.written;
        }

-- whatever ends a run, a front of the output was written
has_front : {M : Type 0} (script : List ℕ) (left : Option (List ℕ)) (old new : M) (before after : Option (List ℕ)) (ending : Ending) → Ends gives_block gives_none script left old new before after ending → WritesFront script before after
has_front script left old new before after Done e = record { front = blocks_output script; rest = []; parts = sym (append-nil (blocks_output script)); written = written_is old (lines_of script) new before after e.2 }
has_front script left old new before after ReadFault e = whole_front script (ended_lines e.taken) old new before after e.answers
has_front script left old new before after (LineTooLong n) e = whole_front script (n - 1) old new before after e.1
has_front script left old new before after ScriptTooLarge e = whole_front script (ended_lines (take script_limit script)) old new before after e.1
has_front script left old new before after WriteFault e = part_front script left before after WriteFault (in_part script left old new before after WriteFault e)
has_front script left old new before after NoMemory e = part_front script left before after NoMemory (in_part script left old new before after NoMemory e)

leaves : {M : Type 0} (script : List ℕ) (left : Option (List ℕ)) (old new : M) (before after : Option (List ℕ)) (ending : Ending) → Ends gives_block gives_none script left old new before after ending → Leaves script left before after ending
leaves script left old new before after Done e = (e.0, e.1, written_is old (lines_of script) new before after e.2)
leaves script left old new before after ReadFault e = record {
  taken = e.taken;
  rest = e.rest;
  parts = e.parts;
  left_is = e.left_is;
  within = e.within;
  written = written_is old (take (ended_lines e.taken) (lines_of script)) new before after e.answers;
}
leaves script left old new before after (LineTooLong n) e = (e.0, written_is old (take (n - 1) (lines_of script)) new before after e.1)
leaves script left old new before after ScriptTooLarge e = (e.0, written_is old (take (ended_lines (take script_limit script)) (lines_of script)) new before after e.1)
leaves script left old new before after WriteFault e = in_part script left old new before after WriteFault e
leaves script left old new before after NoMemory e = in_part script left old new before after NoMemory e

-- ---- the same, whether the source tells its bytes or not

pub runs_told : {M : Type 0} (first left : Option (List ℕ)) (old new : M) (before after : Option (List ℕ)) (ending : Ending)
    → IfSome first (λ script. Ends gives_block gives_none script left old new before after ending)
    → IfSome first (λ script. IsWithin script → MeetsNoLimit ending)
    → (bytes : List ℕ) × (length bytes ≤ script_limit + 1) × Consumes first left bytes
    → Runs first left before after ending
runs_told None left old new before after ending h within taken = record { leaves = tt; front = tt; complete = tt; taken = taken }
runs_told (Some script) left old new before after ending h within taken = record {
  leaves = leaves script left old new before after ending h;
  front = has_front script left old new before after ending h;
  complete = within;
  taken = taken;
}
