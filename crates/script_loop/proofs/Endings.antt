-- From the steps of a run to what it leaves of the whole script.
use Rattle.std.proofs.Common.{◌≡◌, ◌≢◌, ◌⊎◌, ◌+◌, ◌-◌, ◌≤◌, ◌<◌, ℕ, List, [], ◌∷◌, ◌++◌, length, take, refl, ap, sym, subst, ◌∙◌, inl, inr, append-nil, append_assoc, arith, length-append, Some, None, IfSome}
use Rattle.std.specs.Prelude.{Option, slice_get}
use Rattle.std.specs.List.{All, AllByRecursion}
use Rattle.std.specs.Io.KnownBytes.{Appends, Keeps, Consumes, IsAtEnd}
use Rattle.std.proofs.KnownBytes.{Appends-trans, Appends-nil, Consumes-trans}
use Rattle.std.proofs.lemmas.Bool.Decides.{eqb_tells}
use Rattle.std.proofs.Math.Seq.{take-append-add}
use Rattle.std.proofs.lemmas.List.{take_at}
use Rattle.std.proofs.lemmas.List.Elements.{All-append, All-nil, All-cons, All-from_recursion, All-weaker}
use Rattle.script_loop.specs.Limits.{line_limit, script_limit}
use Rattle.spec_documents.specs.Lines.{lines_of, ended_lines, Gives, Outputs}
use Rattle.script_loop.specs.Lines.{IsShort, IsFirstLong, IsWithin}
use Rattle.script_loop.specs.InPart.{GivesUp, StopsAnswer, Takes, IsNext}
use Rattle.script_loop.specs.Progress.{IsPlain, IsLine, unlines, ended, MeetsLong, BeginsEnded, StopsAmong, StopsInLine, Reaches}
use Rattle.script_loop.specs.Stops.{Stops, Finishes, PassesLimit}
use Rattle.script_loop.specs.Ends.{Answers, AnswersInPart, Ends}
use Rattle.script_loop.specs.declared.ending.Ending.{Ending}
use Rattle.script_loop.specs.declared.ending.Ending.TheVariants.{Done, ReadFault, WriteFault, LineTooLong, ScriptTooLarge, NoMemory}
use Rattle.script_loop.proofs.Cuts.{lines_of_unlines, first_lines, ended_in_unlines, ended_after, lines_of_begun, lines_of_ended}
use Rattle.script_loop.proofs.Runs.{Outputs-append}
use Rattle.script_loop.proofs.Steps.{by_recursion_append}
use Rattle.script_loop.proofs.Last.{last_line}

-- the parts of a script that is told
pub parts_of : (script : List ℕ) (left : Option (List ℕ)) (bytes : List ℕ) → Consumes (Some script) left bytes → (rest : List ℕ) × (left ≡ Some rest) × (script ≡ bytes ++ rest)
parts_of script None bytes taken = absurd taken
parts_of script (Some rest) bytes taken = (rest, refl, taken)

-- the lines that were fed are the first of the script
pub fed_first : (lines : List (List ℕ)) (more text rest script : List ℕ) → AllByRecursion IsLine lines → text ≡ unlines lines ++ more → script ≡ text ++ rest → take (length lines) (lines_of script) ≡ lines
fed_first lines more text rest script each whole parts =
    let same : script ≡ unlines lines ++ (more ++ rest) = parts ∙ (ap (λ z. z ++ rest) whole ∙ append_assoc (unlines lines) more rest) in
    ap (λ z. take (length lines) (lines_of z)) same ∙ first_lines lines (more ++ rest) each

pub all_short : (lines : List (List ℕ)) → AllByRecursion IsLine lines → All IsShort lines
all_short lines each = All-weaker IsLine IsShort (λ line is. is.short) lines (All-from_recursion IsLine lines each)

pub short_last : (line : List ℕ) → IsLine line → All IsShort (lines_of line)
short_last [] is = All-nil IsShort
short_last (byte ∷ bytes) is = subst (λ (ls : List (List ℕ)). All IsShort ls) (sym (last_line (byte ∷ bytes) (omega arith) is.plain)) (All-cons IsShort (byte ∷ bytes) [] is.short (All-nil IsShort))

-- what was fed is within the limits
fed_lines : (lines : List (List ℕ)) (line text : List ℕ) → text ≡ unlines lines ++ (line ++ []) → AllByRecursion IsLine lines → lines_of text ≡ lines ++ lines_of line
fed_lines lines line text whole each = ap lines_of (whole ∙ ap (λ z. unlines lines ++ z) (append-nil line)) ∙ lines_of_unlines lines line each

fed_short : (lines : List (List ℕ)) (line text : List ℕ) → text ≡ unlines lines ++ (line ++ []) → AllByRecursion IsLine lines → IsLine line → All IsShort (lines_of text)
fed_short lines line text whole each is =
    subst (λ (ls : List (List ℕ)). All IsShort ls) (sym (fed_lines lines line text whole each)) (All-append IsShort lines (lines_of line) (all_short lines each) (short_last line is))

-- a fault of the source
pub read_fault : {M : Type 0} (gives : Gives M) (gives_up : GivesUp M) (script : List ℕ) (left left' : Option (List ℕ)) (old new : M) (taken count : ℕ) (line : List ℕ) (before after : Option (List ℕ))
    → Reaches gives old new taken count line (Some script) left before after → Keeps left left' → taken ≤ script_limit
    → Ends gives gives_up script left' old new before after ReadFault
read_fault gives gives_up script left left' old new taken count line before after r kept size =
    let p = parts_of script left r.bytes r.consumed in
    let kept' : Keeps (Some p.0) left' = subst (λ (o : Option (List ℕ)). Keeps o left') p.1 kept in
    let f = r.fed in
    let number : ended_lines r.bytes ≡ length f.lines =
    ap ended_lines (f.whole ∙ ap (λ z. unlines f.lines ++ z) (append-nil line)) ∙ ended_in_unlines f.lines line f.each f.line.plain in
    let first : take (ended_lines r.bytes) (lines_of script) ≡ f.lines =
    ap (λ n. take n (lines_of script)) number ∙ fed_first f.lines (line ++ []) r.bytes p.0 script f.each f.whole p.2 in
    record {
      taken = r.bytes;
      rest = p.0;
      parts = p.2;
      left_is = still p.0 left' kept';
      within = record { size = omega (arith, r.size, size); lines = fed_short f.lines line r.bytes f.whole f.each f.line };
      answers = record { out = f.out; answered = subst (λ (ls : List (List ℕ)). Outputs gives old 1 ls f.out new) (sym first) f.answered; written = f.written };
    }
  where
    still : (rest : List ℕ) (left' : Option (List ℕ)) → Keeps (Some rest) left' → left' ≡ Some rest
    still rest None k = absurd k
    still rest (Some other) k = ap (λ z. Some z) k

get_at : {X : Type 0} (xs : List X) (y : X) (ys : List X) → slice_get (xs ++ y ∷ ys) (length xs) ≡ Some y
get_at [] y ys = refl
get_at (x ∷ xs) y ys = get_at xs y ys

-- the line behind short ones is the first that is too long
pub first_long : (n : ℕ) (lines : List (List ℕ)) (begun more : List ℕ) → n ≡ 0 + length lines + 1 → AllByRecursion IsLine lines → IsPlain begun → line_limit < length begun → IsFirstLong n (lines ++ lines_of (begun ++ more))
first_long n lines [] more counted each plain long = absurd (omega arith)
first_long n lines (byte ∷ begun) more counted each plain long =
    let b = lines_of_begun byte begun more plain in
    let place : n - 1 ≡ length lines = omega (arith, counted) in
    record {
      line = (byte ∷ begun) ++ b.0;
      from_one = omega (arith, counted);
      there = ap (λ k. slice_get (lines ++ lines_of ((byte ∷ begun) ++ more)) k) place ∙ (ap (λ ls. slice_get (lines ++ ls) (length lines)) b.2 ∙ get_at lines ((byte ∷ begun) ++ b.0) b.1);
      long = omega (arith, length-append (byte ∷ begun) b.0);
      before = subst (λ (ls : List (List ℕ)). All IsShort ls) (sym (ap (λ k. take k (lines ++ lines_of ((byte ∷ begun) ++ more))) place ∙ take_at lines (lines_of ((byte ∷ begun) ++ more)) (length lines) refl)) (all_short lines each);
    }

-- a line is too long
pub long_ends : {M : Type 0} (gives : Gives M) (gives_up : GivesUp M) (script text rest : List ℕ) (left : Option (List ℕ)) (old new : M) (n : ℕ) (before after : Option (List ℕ))
    → script ≡ text ++ rest → length text ≤ script_limit + 1 → MeetsLong gives old 0 text new n before after
    → Ends gives gives_up script left old new before after (LineTooLong n)
long_ends gives gives_up script text rest left old new n before after parts size s =
    let m = n - 1 in
    let place : m ≡ length s.lines = omega (arith, s.counted) in
    let first : take m (lines_of script) ≡ s.lines = ap (λ k. take k (lines_of script)) place ∙ fed_first s.lines (s.begun ++ s.rest) text rest script s.each s.whole parts in
    let more = take ((script_limit + 1) - length text) rest in
    let sum : script_limit + 1 ≡ length text + ((script_limit + 1) - length text) = omega arith in
    let front : take (script_limit + 1) script ≡ text ++ more =
    ap (take (script_limit + 1)) parts ∙ (ap (λ k. take k (text ++ rest)) sum ∙ take-append-add text rest ((script_limit + 1) - length text)) in
    let lines : lines_of (take (script_limit + 1) script) ≡ s.lines ++ lines_of (s.begun ++ (s.rest ++ more)) =
    ap lines_of (front ∙ (ap (λ z. z ++ more) s.whole ∙ (append_assoc (unlines s.lines) (s.begun ++ s.rest) more ∙ ap (λ z. unlines s.lines ++ z) (append_assoc s.begun s.rest more))))
    ∙ lines_of_unlines s.lines (s.begun ++ (s.rest ++ more)) s.each in
    let long = subst (IsFirstLong n) (sym lines) (first_long n s.lines s.begun (s.rest ++ more) s.counted s.each s.plain s.long) in
    (long, record { out = s.out; answered = subst (λ (ls : List (List ℕ)). Outputs gives old 1 ls s.out new) (sym first) s.answered; written = s.written })

-- ---- the line at hand

short_next : (line rest : List ℕ) → IsLine line → (rest ≡ []) ⊎ BeginsEnded rest → All IsShort (take 1 (lines_of (line ++ rest)))
short_next [] rest is (inl none) = subst (λ (z : List ℕ). All IsShort (take 1 (lines_of z))) (sym none) (All-nil IsShort)
short_next (byte ∷ bytes) rest is (inl none) =
    let lines : lines_of ((byte ∷ bytes) ++ rest) ≡ (byte ∷ bytes) ∷ [] =
    ap (λ z. lines_of ((byte ∷ bytes) ++ z)) none ∙ (ap lines_of (append-nil (byte ∷ bytes)) ∙ last_line (byte ∷ bytes) (omega arith) is.plain) in
    subst (λ (ls : List (List ℕ)). All IsShort (take 1 ls)) (sym lines) (All-cons IsShort (byte ∷ bytes) [] is.short (All-nil IsShort))
short_next line rest is (inr after) =
    let lines : lines_of (line ++ rest) ≡ line ∷ lines_of after.0 = ap (λ z. lines_of (line ++ z)) after.1 ∙ lines_of_ended line after.0 is.plain in
    subst (λ (ls : List (List ℕ)). All IsShort (take 1 ls)) (sym lines) (All-cons IsShort line [] is.short (All-nil IsShort))

takes_of : (script text more : List ℕ) (left : Option (List ℕ)) (lines : List (List ℕ)) (line rest : List ℕ)
    → script ≡ text ++ more → left ≡ Some more → length text ≤ script_limit → text ≡ unlines lines ++ (line ++ rest) → AllByRecursion IsLine lines → IsLine line → (rest ≡ []) ⊎ BeginsEnded rest
    → Takes script left (length lines) text
takes_of script text more left lines line rest parts gone size whole each is ended =
    let cut : lines_of text ≡ lines ++ lines_of (line ++ rest) = ap lines_of whole ∙ lines_of_unlines lines (line ++ rest) each in
    let first : take (length lines + 1) (lines_of text) ≡ lines ++ take 1 (lines_of (line ++ rest)) = ap (take (length lines + 1)) cut ∙ take-append-add lines (lines_of (line ++ rest)) 1 in
    record {
      rest = more;
      parts = parts;
      left_is = gone;
      size = size;
      ended = omega (arith, ap ended_lines whole, ended_after lines (line ++ rest) each);
      short = subst (λ (ls : List (List ℕ)). All IsShort ls) (sym first) (All-append IsShort lines (take 1 (lines_of (line ++ rest))) (all_short lines each) (short_next line rest is ended));
    }

-- a line that has ended stands behind these lines
line_there : (text : List ℕ) (lines : List (List ℕ)) (line after : List ℕ) → text ≡ unlines lines ++ (line ++ 10 ∷ after) → AllByRecursion IsLine lines → IsLine line → slice_get (lines_of text) (length lines) ≡ Some line
line_there text lines line after whole each is =
    let cut : lines_of text ≡ lines ++ line ∷ lines_of after =
    ap lines_of whole ∙ (lines_of_unlines lines (line ++ 10 ∷ after) each ∙ ap (λ ls. lines ++ ls) (lines_of_ended line after is.plain)) in
    ap (λ ls. slice_get ls (length lines)) cut ∙ get_at lines line (lines_of after)

next_of : (script text more : List ℕ) (lines : List (List ℕ)) (line rest : List ℕ) → script ≡ text ++ more → text ≡ unlines lines ++ (line ++ rest) → AllByRecursion IsLine lines → IsLine line → BeginsEnded rest
    → IsNext script text (length lines) line
next_of script text more lines line rest parts whole each is after =
    let own : text ≡ unlines lines ++ (line ++ 10 ∷ after.0) = whole ∙ ap (λ z. unlines lines ++ (line ++ z)) after.1 in
    let all : script ≡ unlines lines ++ (line ++ 10 ∷ (after.0 ++ more)) =
    parts ∙ (ap (λ z. z ++ more) own ∙ (append_assoc (unlines lines) (line ++ 10 ∷ after.0) more ∙ ap (λ z. unlines lines ++ z) (append_assoc line (10 ∷ after.0) more))) in
    record { there = line_there script lines line (after.0 ++ more) all each is; whole = line_there text lines line after.0 own each is }

-- it stops among the lines
pub among_ends : {M : Type 0} (gives : Gives M) (gives_up : GivesUp M) (script text rest : List ℕ) (left : Option (List ℕ)) (old new : M) (before after : Option (List ℕ)) (ending : Ending)
    → script ≡ text ++ rest → left ≡ Some rest → length text ≤ script_limit → StopsAmong gives gives_up old 0 text new before after ending
    → AnswersInPart gives gives_up old script left new before after ending
among_ends gives gives_up script text rest left old new before after ending parts gone size s =
    let next : 0 + length s.lines + 1 ≡ length s.lines + 1 = omega arith in
    record {
      taken = text;
      number = length s.lines;
      takes = takes_of script text rest left s.lines s.line s.rest parts gone size s.whole s.each s.is s.ended;
      out = s.out;
      mid = s.mid;
      answered = subst (λ (ls : List (List ℕ)). Outputs gives old 1 ls s.out s.mid) (sym (fed_first s.lines (s.line ++ s.rest) text rest script s.each s.whole parts)) s.answered;
      front = s.front;
      stops = elim s.stops [
        | inl e ↦ inl (record {
          line = s.line;
          next = next_of script text rest s.lines s.line s.rest parts s.whole s.each s.is e.0;
          stops = subst (λ (n : ℕ). StopsAnswer gives gives_up s.mid n s.line s.front new ending) next e.1;
        })
        | inr u ↦ inr u
      ];
      written = s.written;
    }

-- the next bytes stop it
pub feed_ends : {M : Type 0} (gives : Gives M) (gives_up : GivesUp M) (script text rest : List ℕ) (left : Option (List ℕ)) (old new : M) (before after : Option (List ℕ)) (ending : Ending)
    → script ≡ text ++ rest → left ≡ Some rest → length text ≤ script_limit → Stops gives gives_up old 0 text new before after ending
    → Ends gives gives_up script left old new before after ending
feed_ends gives gives_up script text rest left old new before after WriteFault parts gone size s = among_ends gives gives_up script text rest left old new before after WriteFault parts gone size s
feed_ends gives gives_up script text rest left old new before after NoMemory parts gone size s = among_ends gives gives_up script text rest left old new before after NoMemory parts gone size s
feed_ends gives gives_up script text rest left old new before after (LineTooLong n) parts gone size s = long_ends gives gives_up script text rest left old new n before after parts (omega (arith, size)) s
feed_ends gives gives_up script text rest left old new before after Done parts gone size s = absurd s
feed_ends gives gives_up script text rest left old new before after ReadFault parts gone size s = absurd s
feed_ends gives gives_up script text rest left old new before after ScriptTooLarge parts gone size s = absurd s

-- the script was read to its end
pub finish_done : {M : Type 0} (gives : Gives M) (script : List ℕ) (old mid new : M) (taken count : ℕ) (line : List ℕ) (first left : Option (List ℕ)) (before between after : Option (List ℕ)) (r : Reaches gives old mid taken count line first left before between)
    → script ≡ r.bytes → taken ≤ script_limit → (out : List ℕ) × Outputs gives mid (count + 1) (lines_of line) out new × Appends between after out
    → IsWithin script × Answers gives old (lines_of script) new before after
finish_done gives script old mid new taken count line first left before between after r same size last =
    let f = r.fed in
    let lines : lines_of script ≡ f.lines ++ lines_of line = fed_lines f.lines line script (same ∙ f.whole) f.each in
    let place : count + 1 ≡ 1 + length f.lines = omega (arith, f.counted) in
    let more = subst (λ (n : ℕ). Outputs gives mid n (lines_of line) last.0 new) place last.1 in (
      record {
        size = omega (arith, ap length same, r.size);
        lines = fed_short f.lines line script (same ∙ f.whole) f.each f.line;
      },
      record {
        out = f.out ++ last.0;
        answered = subst (λ (ls : List (List ℕ)). Outputs gives old 1 ls (f.out ++ last.0) new) (sym lines) (Outputs-append gives old 1 f.lines (lines_of line) f.out last.0 mid new f.answered more);
        written = Appends-trans before between after f.out last.0 f.written last.2;
      },
    )

-- the answer to the last line stops
pub finish_stops : {M : Type 0} (gives : Gives M) (gives_up : GivesUp M) (script : List ℕ) (old mid new : M) (taken count : ℕ) (line : List ℕ) (first left left' : Option (List ℕ)) (before between after : Option (List ℕ)) (ending : Ending) (r : Reaches gives old mid taken count line first left before between)
    → script ≡ r.bytes → left' ≡ Some [] → taken ≤ script_limit → 0 < length line → StopsInLine gives gives_up mid (count + 1) line new between after ending
    → AnswersInPart gives gives_up old script left' new before after ending
finish_stops gives gives_up script old mid new taken count line first left left' before between after ending r same gone size some w =
    let f = r.fed in
    let place : count + 1 ≡ length f.lines + 1 = omega (arith, f.counted) in
    let parts : script ≡ r.bytes ++ [] = same ∙ sym (append-nil r.bytes) in
    let own : lines_of r.bytes ≡ f.lines ++ line ∷ [] = fed_lines f.lines line r.bytes f.whole f.each ∙ ap (λ ls. f.lines ++ ls) (last_line line some f.line.plain) in
    let whole : slice_get (lines_of r.bytes) (length f.lines) ≡ Some line = ap (λ ls. slice_get ls (length f.lines)) own ∙ get_at f.lines line [] in
    record {
      taken = r.bytes;
      number = length f.lines;
      takes = takes_of script r.bytes [] left' f.lines line [] parts gone (omega (arith, r.size, size)) f.whole f.each f.line (inl refl);
      out = f.out;
      mid = mid;
      answered = subst (λ (ls : List (List ℕ)). Outputs gives old 1 ls f.out mid) (sym (fed_first f.lines (line ++ []) r.bytes [] script f.each f.whole parts)) f.answered;
      front = w.front;
      stops = inl (record {
        line = line;
        next = record { there = ap (λ z. slice_get (lines_of z) (length f.lines)) same ∙ whole; whole = whole };
        stops = subst (λ (n : ℕ). StopsAnswer gives gives_up mid n line w.front new ending) place w.stops;
      });
      written = Appends-trans before between after f.out w.front f.written w.written;
    }

-- the source is at its end
pub finish_ends : {M : Type 0} (gives : Gives M) (gives_up : GivesUp M) (script : List ℕ) (left left' : Option (List ℕ)) (old mid new : M) (taken count : ℕ) (line : List ℕ) (before between after : Option (List ℕ)) (ending : Ending)
    → Reaches gives old mid taken count line (Some script) left before between → Consumes left left' [] → IsAtEnd left' → taken ≤ script_limit → Finishes gives gives_up mid count line new between after ending
    → Ends gives gives_up script left' old new before after ending
finish_ends gives gives_up script left left' old mid new taken count line before between after ending r none end size finishes =
    let p = parts_of script left r.bytes r.consumed in
    let q = at_end p.0 left' (subst (λ (o : Option (List ℕ)). Consumes o left' []) p.1 none) end in
    let same : script ≡ r.bytes = p.2 ∙ (ap (λ z. r.bytes ++ z) q.0 ∙ append-nil r.bytes) in
    by_ending ending same q.1 finishes
  where
    at_end : (rest : List ℕ) (left' : Option (List ℕ)) → Consumes (Some rest) left' [] → IsAtEnd left' → (rest ≡ []) × (left' ≡ Some [])
    at_end rest None c e = absurd c
    at_end rest (Some more) c e = (c ∙ e, ap (λ z. Some z) e)

    by_ending : (ending : Ending) → script ≡ r.bytes → left' ≡ Some [] → Finishes gives gives_up mid count line new between after ending → Ends gives gives_up script left' old new before after ending
    by_ending Done same gone h = let d = finish_done gives script old mid new taken count line (Some script) left before between after r same size h in (d.0, gone, d.1)
    by_ending WriteFault same gone h = finish_stops gives gives_up script old mid new taken count line (Some script) left left' before between after WriteFault r same gone size h.1 h.0
    by_ending NoMemory same gone h = finish_stops gives gives_up script old mid new taken count line (Some script) left left' before between after NoMemory r same gone size h.1 h.0
    by_ending ReadFault same gone h = absurd h
    by_ending (LineTooLong n) same gone h = absurd h
    by_ending ScriptTooLarge same gone h = absurd h

-- the begun line, with one byte more, is short where that byte ends it or the line has room
short_ended : (byte : ℕ) (line : List ℕ) → byte ≡ 10 → IsLine line → All IsShort (lines_of (line ++ byte ∷ []))
short_ended byte line newline is =
    subst (λ (b : ℕ). All IsShort (lines_of (line ++ b ∷ []))) (sym newline)
    (subst (λ (ls : List (List ℕ)). All IsShort ls) (sym (lines_of_ended line [] is.plain)) (All-cons IsShort line [] is.short (All-nil IsShort)))

short_begun : (byte : ℕ) (line : List ℕ) → (byte ≡ 10) ⊎ (length line ≢ line_limit) → IsLine line → All IsShort (lines_of (line ++ byte ∷ []))
short_begun byte line (inl newline) is = short_ended byte line newline is
short_begun byte line (inr room) is = elim (eqb_tells byte 10) [
  | inl newline ↦ short_ended byte line newline.1 is
  | inr other ↦ short_last (line ++ byte ∷ []) (record {
    plain = by_recursion_append (λ b. b ≢ 10) line (byte ∷ []) is.plain (other.1, tt);
    short = omega (arith, length-append line (byte ∷ []), is.short, room);
  })
]

too_large : {M : Type 0} (gives : Gives M) (gives_up : GivesUp M) (script rest : List ℕ) (left : Option (List ℕ)) (old new : M) (taken count byte : ℕ) (line : List ℕ) (first left' : Option (List ℕ)) (before after : Option (List ℕ)) (r : Reaches gives old new taken count line first left' before after)
    → taken ≡ script_limit → script ≡ (r.bytes ++ byte ∷ []) ++ rest → (byte ≡ 10) ⊎ (length line ≢ line_limit)
    → Ends gives gives_up script left old new before after ScriptTooLarge
too_large gives gives_up script rest left old new taken count byte line first left' before after r full parts room =
    let f = r.fed in
    let bytes : r.bytes ≡ unlines f.lines ++ line = f.whole ∙ ap (λ z. unlines f.lines ++ z) (append-nil line) in
    let text : r.bytes ++ byte ∷ [] ≡ unlines f.lines ++ (line ++ byte ∷ []) = ap (λ z. z ++ byte ∷ []) bytes ∙ append_assoc (unlines f.lines) line (byte ∷ []) in
    let long : length (r.bytes ++ byte ∷ []) ≡ script_limit + 1 = omega (arith, length-append r.bytes (byte ∷ []), r.size, full) in
    let front : take (script_limit + 1) script ≡ r.bytes ++ byte ∷ [] = ap (take (script_limit + 1)) parts ∙ take_at (r.bytes ++ byte ∷ []) rest (script_limit + 1) long in
    let lines : lines_of (take (script_limit + 1) script) ≡ f.lines ++ lines_of (line ++ byte ∷ []) = ap lines_of (front ∙ text) ∙ lines_of_unlines f.lines (line ++ byte ∷ []) f.each in
    let within : take script_limit script ≡ r.bytes =
    ap (take script_limit) (parts ∙ append_assoc r.bytes (byte ∷ []) rest) ∙ take_at r.bytes (byte ∷ [] ++ rest) script_limit (omega (arith, r.size, full)) in
    let number : ended_lines (take script_limit script) ≡ length f.lines = ap ended_lines (within ∙ bytes) ∙ ended_in_unlines f.lines line f.each f.line.plain in
    let answered : take (ended_lines (take script_limit script)) (lines_of script) ≡ f.lines =
    ap (λ n. take n (lines_of script)) number ∙ fed_first f.lines (line ++ byte ∷ []) (r.bytes ++ byte ∷ []) rest script f.each text parts in (
      record {
        size = omega (arith, ap length parts, length-append (r.bytes ++ byte ∷ []) rest, long);
        lines = subst (λ (ls : List (List ℕ)). All IsShort ls) (sym lines) (All-append IsShort f.lines (lines_of (line ++ byte ∷ [])) (all_short f.lines f.each) (short_begun byte line room f.line));
      },
      record { out = f.out; answered = subst (λ (ls : List (List ℕ)). Outputs gives old 1 ls f.out new) (sym answered) f.answered; written = f.written },
    )

-- a byte more than the script may have
pub past_ends : {M : Type 0} (gives : Gives M) (gives_up : GivesUp M) (script : List ℕ) (left left' : Option (List ℕ)) (old new : M) (taken count byte : ℕ) (line : List ℕ) (before after : Option (List ℕ)) (ending : Ending)
    → Reaches gives old new taken count line (Some script) left before after → taken ≡ script_limit → Consumes left left' (byte ∷ []) → PassesLimit count line byte ending
    → Ends gives gives_up script left' old new before after ending
past_ends gives gives_up script left left' old new taken count byte line before after ending r full one why =
    let p = parts_of script left' (r.bytes ++ byte ∷ []) (Consumes-trans (Some script) left left' r.bytes (byte ∷ []) r.consumed one) in
    by_ending ending p.0 p.2 why
  where
    by_ending : (ending : Ending) (rest : List ℕ) → script ≡ (r.bytes ++ byte ∷ []) ++ rest → PassesLimit count line byte ending → Ends gives gives_up script left' old new before after ending
    by_ending (LineTooLong n) rest parts w =
        let f = r.fed in
        long_ends gives gives_up script (r.bytes ++ byte ∷ []) rest left' old new n before after parts (omega (arith, length-append r.bytes (byte ∷ []), r.size, full)) (record {
          lines = f.lines;
          begun = line ++ byte ∷ [];
          rest = [];
          whole = ap (λ z. z ++ byte ∷ []) f.whole ∙ (append_assoc (unlines f.lines) (line ++ []) (byte ∷ []) ∙ ap (λ z. unlines f.lines ++ z) (ap (λ z. z ++ byte ∷ []) (append-nil line) ∙ sym (append-nil (line ++ byte ∷ []))));
          each = f.each;
          plain = by_recursion_append (λ b. b ≢ 10) line (byte ∷ []) f.line.plain (w.0, tt);
          long = omega (arith, length-append line (byte ∷ []), w.1);
          counted = omega (arith, w.2, f.counted);
          out = f.out;
          answered = f.answered;
          written = f.written;
        })
    by_ending ScriptTooLarge rest parts w = too_large gives gives_up script rest left' old new taken count byte line (Some script) left before after r full parts w
    by_ending Done rest parts w = absurd w
    by_ending ReadFault rest parts w = absurd w
    by_ending WriteFault rest parts w = absurd w
    by_ending NoMemory rest parts w = absurd w

-- nothing was taken and nothing was written
pub nothing_ends : {M : Type 0} (gives : Gives M) (gives_up : GivesUp M) (script : List ℕ) (old : M) (written : Option (List ℕ)) → Ends gives gives_up script (Some script) old old written written NoMemory
nothing_ends gives gives_up script old written = record {
  taken = [];
  number = 0;
  takes = record { rest = script; parts = refl; left_is = refl; size = omega arith; ended = omega arith; short = All-nil IsShort };
  out = [];
  mid = old;
  answered = (refl, refl);
  front = [];
  stops = inr (record { memory = refl; none = refl; same = refl });
  written = Appends-nil written;
}

pub nothing_told : {M : Type 0} (gives : Gives M) (gives_up : GivesUp M) (first : Option (List ℕ)) (old : M) (written : Option (List ℕ)) → IfSome first (λ script. Ends gives gives_up script first old old written written NoMemory)
nothing_told gives gives_up None old written = tt
nothing_told gives gives_up (Some script) old written = nothing_ends gives gives_up script old written

few_lines : (lines : List (List ℕ)) → length lines ≤ length (unlines lines)
few_lines [] = omega arith
few_lines (line ∷ lines) = omega (arith, few_lines lines, length-append (ended line) (unlines lines), length-append line (10 ∷ []))

-- a line takes a byte at least
pub few : {M : Type 0} (gives : Gives M) (old new : M) (taken count : ℕ) (line : List ℕ) (first left : Option (List ℕ)) (before after : Option (List ℕ))
    → Reaches gives old new taken count line first left before after → count ≤ taken
few gives old new taken count line first left before after r =
    omega (arith, few_lines r.fed.lines, length-append (unlines r.fed.lines) (line ++ []), ap length r.fed.whole, r.size, r.fed.counted)
