-- The steps of a reading: a line begins, a line ends, the next bytes come, and it stops.
use Rattle.std.proofs.Common.{◌≡◌, ◌≢◌, ◌+◌, ◌≤◌, ℕ, List, [], ◌∷◌, ◌++◌, length, refl, ap, sym, subst, ◌∙◌, append-nil, append_assoc, arith, length-append}
use Rattle.std.specs.declared.option.Option.{Option}
use Rattle.std.specs.List.{AllByRecursion}
use Rattle.std.specs.Io.KnownBytes.{Appends}
use Rattle.std.proofs.KnownBytes.{Appends-trans, Appends-nil}
use Rattle.script_loop.specs.Limits.{line_limit}
use Rattle.spec_documents.specs.Lines.{Gives, LineOutput, Outputs}
use Rattle.script_loop.specs.Progress.{IsPlain, IsLine, unlines, ended, Feeds}
use Rattle.script_loop.proofs.Runs.{Outputs-one, Outputs-append}

pub by_recursion_append : {X : Type 0} (P : X → Type 0) (xs ys : List X) → AllByRecursion P xs → AllByRecursion P ys → AllByRecursion P (xs ++ ys)
by_recursion_append P [] ys h k = k
by_recursion_append P (x ∷ xs) ys h k = (h.0, by_recursion_append P xs ys h.1 k)

pub unlines-append : (xs ys : List (List ℕ)) (rest : List ℕ) → unlines (xs ++ ys) ++ rest ≡ unlines xs ++ (unlines ys ++ rest)
unlines-append [] ys rest = refl
unlines-append (x ∷ xs) ys rest =
    append_assoc (ended x) (unlines (xs ++ ys)) rest ∙ (ap (λ z. ended x ++ z) (unlines-append xs ys rest) ∙ sym (append_assoc (ended x) (unlines xs) (unlines ys ++ rest)))

pub unlines-one : (line rest : List ℕ) → unlines (line ∷ []) ++ rest ≡ line ++ 10 ∷ rest
unlines-one line rest = ap (λ z. z ++ rest) (append-nil (ended line)) ∙ append_assoc line (10 ∷ []) rest

-- a part of the rest goes to the begun line
pub feeds_part : {M : Type 0} (gives : Gives M) (old : M) (number : ℕ) (text : List ℕ) (new : M) (count next : ℕ) (begun part rest all line : List ℕ) (before after : Option (List ℕ))
    → Feeds gives old number text new count begun all before after → all ≡ part ++ rest → next ≡ count → line ≡ begun ++ part → IsPlain part → length line ≤ line_limit
    → Feeds gives old number text new next line rest before after
feeds_part gives old number text new count next begun part rest all line before after f cut same longer plain short = record {
  lines = f.lines;
  whole = f.whole ∙ ap (λ z. unlines f.lines ++ z) (ap (λ z. begun ++ z) cut ∙ (sym (append_assoc begun part rest) ∙ ap (λ z. z ++ rest) (sym longer)));
  each = f.each;
  line = record { plain = subst IsPlain (sym longer) (by_recursion_append (λ byte. byte ≢ 10) begun part f.line.plain plain); short = short };
  counted = same ∙ f.counted;
  out = f.out;
  answered = f.answered;
  written = f.written;
}

-- the begun line ends
pub feeds_line : {M : Type 0} (gives : Gives M) (old : M) (number : ℕ) (text : List ℕ) (mid new : M) (count next : ℕ) (line empty rest : List ℕ) (before between after : Option (List ℕ))
    → Feeds gives old number text mid count line (10 ∷ rest) before between → (out : List ℕ) × LineOutput gives mid (count + 1) line out new × Appends between after out
    → next ≡ count + 1 → empty ≡ []
    → Feeds gives old number text new next empty rest before after
feeds_line gives old number text mid new count next line empty rest before between after f one onward clear =
    let place : count + 1 ≡ (number + 1) + length f.lines = omega (arith, f.counted) in
    let answer = subst (λ (n : ℕ). LineOutput gives mid n line one.0 new) place one.1 in
    record {
      lines = f.lines ++ line ∷ [];
      whole = f.whole ∙ (ap (λ z. unlines f.lines ++ z) (sym (unlines-one line rest)) ∙ (sym (unlines-append f.lines (line ∷ []) rest)
          ∙ ap (λ z. unlines (f.lines ++ line ∷ []) ++ (z ++ rest)) (sym clear)));
      each = by_recursion_append IsLine f.lines (line ∷ []) f.each (f.line, tt);
      line = subst IsLine (sym clear) (record { plain = tt; short = omega arith });
      counted = omega (arith, f.counted, length-append f.lines (line ∷ []), onward);
      out = f.out ++ one.0;
      answered = Outputs-append gives old (number + 1) f.lines (line ∷ []) f.out one.0 mid new f.answered (Outputs-one gives mid _ line one.0 new answer);
      written = Appends-trans before between after f.out one.0 f.written one.2;
    }

-- what was fed before, and what is fed next
pub feeds_on : {M : Type 0} (gives : Gives M) (old : M) (number : ℕ) (text : List ℕ) (mid : M) (count : ℕ) (begun chunk : List ℕ) (new : M) (count' : ℕ) (begun' rest : List ℕ) (before between after : Option (List ℕ))
    → Feeds gives old number text mid count begun [] before between → Feeds gives mid count (begun ++ chunk) new count' begun' rest between after
    → Feeds gives old number (text ++ chunk) new count' begun' rest before after
feeds_on {M} gives old number text mid count begun chunk new count' begun' rest before between after f h =
    let place : count + 1 ≡ (number + 1) + length f.lines = omega (arith, f.counted) in
    record {
      lines = f.lines ++ h.lines;
      whole = ap (λ z. z ++ chunk) f.whole ∙ (append_assoc (unlines f.lines) (begun ++ []) chunk
          ∙ (ap (λ z. unlines f.lines ++ (z ++ chunk)) (append-nil begun) ∙ (ap (λ z. unlines f.lines ++ z) h.whole ∙ sym (unlines-append f.lines h.lines (begun' ++ rest)))));
      each = by_recursion_append IsLine f.lines h.lines f.each h.each;
      line = h.line;
      counted = omega (arith, f.counted, h.counted, length-append f.lines h.lines);
      out = f.out ++ h.out;
      answered = Outputs-append gives old (number + 1) f.lines h.lines f.out h.out mid new f.answered (subst (λ (n : ℕ). Outputs gives mid n h.lines h.out new) place h.answered);
      written = Appends-trans before between after f.out h.out f.written h.written;
    }
