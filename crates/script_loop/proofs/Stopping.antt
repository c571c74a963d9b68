-- How a reading stops.
use Rattle.std.proofs.Common.{◌≡◌, ◌≢◌, ◌⊎◌, ◌+◌, ℕ, List, [], ◌∷◌, ◌++◌, length, refl, ap, sym, subst, ◌∙◌, inl, inr, append-nil, append_assoc, arith, length-append}
use Rattle.std.specs.Prelude.{Option}
use Rattle.std.specs.Io.KnownBytes.{Appends}
use Rattle.std.proofs.KnownBytes.{Appends-trans}
use Rattle.spec_documents.specs.Lines.{Gives, Outputs}
use Rattle.script_loop.specs.InPart.{GivesUp, StopsAnswer}
use Rattle.script_loop.specs.Progress.{IsPlain, IsLine, unlines, Feeds, MeetsLong, BeginsEnded, StopsAmong, StopsInLine}
use Rattle.script_loop.specs.Stops.{Stops, IsWriting, IsExtending}
use Rattle.script_loop.specs.declared.ending.Ending.{Ending}
use Rattle.script_loop.specs.declared.ending.Ending.TheVariants.{Done, ReadFault, WriteFault, LineTooLong, ScriptTooLarge, NoMemory}
use Rattle.script_loop.proofs.Runs.{Outputs-append}
use Rattle.script_loop.proofs.Steps.{by_recursion_append, unlines-append, feeds_part}

-- memory was refused before the answer to the begun line
stops_before : {M : Type 0} (gives : Gives M) (gives_up : GivesUp M) (old : M) (number : ℕ) (text : List ℕ) (new : M) (count : ℕ) (line rest : List ℕ) (before after : Option (List ℕ))
    → Feeds gives old number text new count line rest before after → (rest ≡ []) ⊎ BeginsEnded rest
    → StopsAmong gives gives_up old number text new before after NoMemory
stops_before gives gives_up old number text new count line rest before after f ended = record {
  lines = f.lines;
  line = line;
  rest = rest;
  whole = f.whole;
  each = f.each;
  is = f.line;
  ended = ended;
  out = f.out;
  mid = new;
  answered = f.answered;
  front = [];
  stops = inr (record { memory = refl; none = refl; same = refl });
  written = subst (Appends before after) (sym (append-nil f.out)) f.written;
}

-- a part of a line finds no room
pub stops_part : {M : Type 0} (gives : Gives M) (gives_up : GivesUp M) (old : M) (number : ℕ) (text : List ℕ) (new : M) (count : ℕ) (begun part rest all : List ℕ) (before after : Option (List ℕ)) (ending : Ending)
    → Feeds gives old number text new count begun all before after → all ≡ part ++ rest → IsPlain part → (rest ≡ []) ⊎ BeginsEnded rest → IsExtending count (begun ++ part) ending
    → Stops gives gives_up old number text new before after ending
stops_part gives gives_up old number text new count begun part rest all before after (LineTooLong n) f cut plain ended why = record {
  lines = f.lines;
  begun = begun ++ part;
  rest = rest;
  whole = f.whole ∙ ap (λ z. unlines f.lines ++ z) (ap (λ z. begun ++ z) cut ∙ sym (append_assoc begun part rest));
  each = f.each;
  plain = by_recursion_append (λ byte. byte ≢ 10) begun part f.line.plain plain;
  long = why.1;
  counted = omega (arith, why.0, f.counted);
  out = f.out;
  answered = f.answered;
  written = f.written;
}
stops_part gives gives_up old number text new count begun part rest all before after NoMemory f cut plain ended why =
    stops_before gives gives_up old number text new count (begun ++ part) rest before after
    (feeds_part gives old number text new count count begun part rest all (begun ++ part) before after f cut refl refl plain why) ended
stops_part gives gives_up old number text new count begun part rest all before after Done f cut plain ended why = absurd why
stops_part gives gives_up old number text new count begun part rest all before after ReadFault f cut plain ended why = absurd why
stops_part gives gives_up old number text new count begun part rest all before after WriteFault f cut plain ended why = absurd why
stops_part gives gives_up old number text new count begun part rest all before after ScriptTooLarge f cut plain ended why = absurd why

-- in the answer of the begun line, which has ended
pub stops_in_line : {M : Type 0} (gives : Gives M) (gives_up : GivesUp M) (old : M) (number : ℕ) (text : List ℕ) (mid new : M) (count : ℕ) (line rest : List ℕ) (before between after : Option (List ℕ)) (ending : Ending)
    → Feeds gives old number text mid count line (10 ∷ rest) before between → StopsInLine gives gives_up mid (count + 1) line new between after ending
    → StopsAmong gives gives_up old number text new before after ending
stops_in_line gives gives_up old number text mid new count line rest before between after ending f w =
    let place : count + 1 ≡ number + length f.lines + 1 = omega (arith, f.counted) in
    record {
      lines = f.lines;
      line = line;
      rest = 10 ∷ rest;
      whole = f.whole;
      each = f.each;
      is = f.line;
      ended = inr (rest, refl);
      out = f.out;
      mid = mid;
      answered = f.answered;
      front = w.front;
      stops = inl ((rest, refl), subst (λ (n : ℕ). StopsAnswer gives gives_up mid n line w.front new ending) place w.stops);
      written = Appends-trans before between after f.out w.front f.written w.written;
    }

pub stops_line : {M : Type 0} (gives : Gives M) (gives_up : GivesUp M) (old : M) (number : ℕ) (text : List ℕ) (new : M) (before after : Option (List ℕ)) (ending : Ending)
    → IsWriting ending → StopsAmong gives gives_up old number text new before after ending → Stops gives gives_up old number text new before after ending
stops_line gives gives_up old number text new before after WriteFault which s = s
stops_line gives gives_up old number text new before after NoMemory which s = s
stops_line gives gives_up old number text new before after Done which s = absurd which
stops_line gives gives_up old number text new before after ReadFault which s = absurd which
stops_line gives gives_up old number text new before after (LineTooLong n) which s = absurd which
stops_line gives gives_up old number text new before after ScriptTooLarge which s = absurd which

joined : (xs ys : List (List ℕ)) (text begun chunk rest : List ℕ) → text ≡ unlines xs ++ (begun ++ []) → begun ++ chunk ≡ unlines ys ++ rest → text ++ chunk ≡ unlines (xs ++ ys) ++ rest
joined xs ys text begun chunk rest p q =
    ap (λ z. z ++ chunk) p ∙ (append_assoc (unlines xs) (begun ++ []) chunk
    ∙ (ap (λ z. unlines xs ++ (z ++ chunk)) (append-nil begun) ∙ (ap (λ z. unlines xs ++ z) q ∙ sym (unlines-append xs ys rest))))

pub among_on : {M : Type 0} (gives : Gives M) (gives_up : GivesUp M) (old : M) (number : ℕ) (text : List ℕ) (mid : M) (count : ℕ) (begun chunk : List ℕ) (new : M) (before between after : Option (List ℕ)) (ending : Ending)
    → Feeds gives old number text mid count begun [] before between → StopsAmong gives gives_up mid count (begun ++ chunk) new between after ending
    → StopsAmong gives gives_up old number (text ++ chunk) new before after ending
among_on gives gives_up old number text mid count begun chunk new before between after ending f s =
    let place : count + 1 ≡ (number + 1) + length f.lines = omega (arith, f.counted) in
    let next : count + length s.lines + 1 ≡ number + length (f.lines ++ s.lines) + 1 = omega (arith, f.counted, length-append f.lines s.lines) in
    record {
      lines = f.lines ++ s.lines;
      line = s.line;
      rest = s.rest;
      whole = joined f.lines s.lines text begun chunk (s.line ++ s.rest) f.whole s.whole;
      each = by_recursion_append IsLine f.lines s.lines f.each s.each;
      is = s.is;
      ended = s.ended;
      out = f.out ++ s.out;
      mid = s.mid;
      answered = Outputs-append gives old (number + 1) f.lines s.lines f.out s.out mid s.mid f.answered (subst (λ (n : ℕ). Outputs gives mid n s.lines s.out s.mid) place s.answered);
      front = s.front;
      stops = elim s.stops [
        | inl e ↦ inl (e.0, subst (λ (n : ℕ). StopsAnswer gives gives_up s.mid n s.line s.front new ending) next e.1)
        | inr u ↦ inr u
      ];
      written = subst (Appends before after) (sym (append_assoc f.out s.out s.front)) (Appends-trans before between after f.out (s.out ++ s.front) f.written s.written);
    }

pub long_on : {M : Type 0} (gives : Gives M) (old : M) (number : ℕ) (text : List ℕ) (mid : M) (count : ℕ) (begun chunk : List ℕ) (new : M) (n : ℕ) (before between after : Option (List ℕ))
    → Feeds gives old number text mid count begun [] before between → MeetsLong gives mid count (begun ++ chunk) new n between after
    → MeetsLong gives old number (text ++ chunk) new n before after
long_on gives old number text mid count begun chunk new n before between after f s =
    let place : count + 1 ≡ (number + 1) + length f.lines = omega (arith, f.counted) in
    record {
      lines = f.lines ++ s.lines;
      begun = s.begun;
      rest = s.rest;
      whole = joined f.lines s.lines text begun chunk (s.begun ++ s.rest) f.whole s.whole;
      each = by_recursion_append IsLine f.lines s.lines f.each s.each;
      plain = s.plain;
      long = s.long;
      counted = omega (arith, f.counted, s.counted, length-append f.lines s.lines);
      out = f.out ++ s.out;
      answered = Outputs-append gives old (number + 1) f.lines s.lines f.out s.out mid new f.answered (subst (λ (m : ℕ). Outputs gives mid m s.lines s.out new) place s.answered);
      written = Appends-trans before between after f.out s.out f.written s.written;
    }

-- what was fed before, and how the next stops
pub stops_on : {M : Type 0} (gives : Gives M) (gives_up : GivesUp M) (old : M) (number : ℕ) (text : List ℕ) (mid : M) (count : ℕ) (begun chunk : List ℕ) (new : M) (before between after : Option (List ℕ)) (ending : Ending)
    → Feeds gives old number text mid count begun [] before between → Stops gives gives_up mid count (begun ++ chunk) new between after ending
    → Stops gives gives_up old number (text ++ chunk) new before after ending
stops_on gives gives_up old number text mid count begun chunk new before between after WriteFault f s = among_on gives gives_up old number text mid count begun chunk new before between after WriteFault f s
stops_on gives gives_up old number text mid count begun chunk new before between after NoMemory f s = among_on gives gives_up old number text mid count begun chunk new before between after NoMemory f s
stops_on gives gives_up old number text mid count begun chunk new before between after (LineTooLong n) f s = long_on gives old number text mid count begun chunk new n before between after f s
stops_on gives gives_up old number text mid count begun chunk new before between after Done f s = absurd s
stops_on gives gives_up old number text mid count begun chunk new before between after ReadFault f s = absurd s
stops_on gives gives_up old number text mid count begun chunk new before between after ScriptTooLarge f s = absurd s
