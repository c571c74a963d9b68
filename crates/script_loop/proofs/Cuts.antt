-- The lines of a text that is put together from lines.
use Rattle.std.proofs.Common.{◌≡◌, ◌≢◌, ◌+◌, ℕ, false, cond, eqb, List, [], ◌∷◌, ◌++◌, length, take, refl, ap, sym, ◌∙◌, arith, inl, inr, append_assoc, zero-add, add-one}
use Rattle.std.specs.List.{onto_first, AllByRecursion}
use Rattle.std.proofs.lemmas.Bool.Decides.{eqb_tells}
use Rattle.std.proofs.lemmas.List.{take_at}
use Rattle.std.proofs.lemmas.List.Sums.{sum_by-cons}
use native.Mathlib.Nat.{add_comm}
use Rattle.spec_documents.specs.Lines.{lines_of, ended_lines}
use Rattle.script_loop.specs.Progress.{IsPlain, IsLine, unlines, ended}

pub not_newline : (byte : ℕ) → byte ≢ 10 → eqb byte 10 ≡ false
not_newline byte other = elim (eqb_tells byte 10) [ inl same ↦ absurd (other same.1) | inr not ↦ not.0 ]

-- one byte that is no newline
pub lines_of_other : (byte : ℕ) (bytes : List ℕ) → byte ≢ 10 → lines_of (byte ∷ bytes) ≡ onto_first byte (lines_of bytes)
lines_of_other byte bytes other = ap (λ b. cond b ([] ∷ lines_of bytes) (onto_first byte (lines_of bytes))) (not_newline byte other)

-- a line that has ended
pub lines_of_ended : (line rest : List ℕ) → IsPlain line → lines_of (line ++ 10 ∷ rest) ≡ line ∷ lines_of rest
lines_of_ended [] rest plain = refl
lines_of_ended (byte ∷ line) rest plain = lines_of_other byte (line ++ 10 ∷ rest) plain.0 ∙ ap (onto_first byte) (lines_of_ended line rest plain.1)

-- a line that has begun goes on to the end of its line
pub lines_of_begun : (byte : ℕ) (line rest : List ℕ) → IsPlain (byte ∷ line) → (more : List ℕ) × (lines : List (List ℕ)) × (lines_of ((byte ∷ line) ++ rest) ≡ (byte ∷ line ++ more) ∷ lines)
lines_of_begun byte [] rest plain = elim (lines_of rest) as (λ ls. (more : List ℕ) × (lines : List (List ℕ)) × (cond (eqb byte 10) ([] ∷ ls) (onto_first byte ls) ≡ (byte ∷ more) ∷ lines)) [
  | [] ↦ ([], [], ap (λ b. cond b ([] ∷ []) ((byte ∷ []) ∷ [])) (not_newline byte plain.0))
  | first ∷ others ↦ (first, others, ap (λ b. cond b ([] ∷ first ∷ others) ((byte ∷ first) ∷ others)) (not_newline byte plain.0))
]
lines_of_begun byte (next ∷ line) rest plain =
    let later = lines_of_begun next line rest plain.1 in
    (later.0, later.1, lines_of_other byte ((next ∷ line) ++ rest) plain.0 ∙ ap (onto_first byte) later.2)

-- the last line, which no newline ends
pub lines_of_last : (byte : ℕ) (line : List ℕ) → IsPlain (byte ∷ line) → lines_of (byte ∷ line) ≡ (byte ∷ line) ∷ []
lines_of_last byte [] plain = lines_of_other byte [] plain.0
lines_of_last byte (next ∷ line) plain = lines_of_other byte (next ∷ line) plain.0 ∙ ap (onto_first byte) (lines_of_last next line plain.1)

-- lines that have ended, and what follows
pub lines_of_unlines : (lines : List (List ℕ)) (rest : List ℕ) → AllByRecursion IsLine lines → lines_of (unlines lines ++ rest) ≡ lines ++ lines_of rest
lines_of_unlines [] rest each = refl
lines_of_unlines (line ∷ lines) rest each =
    ap lines_of (append_assoc (ended line) (unlines lines) rest ∙ append_assoc line (10 ∷ []) (unlines lines ++ rest))
    ∙ (lines_of_ended line (unlines lines ++ rest) each.0.plain ∙ ap (λ ls. line ∷ ls) (lines_of_unlines lines rest each.1))

pub first_lines : (lines : List (List ℕ)) (rest : List ℕ) → AllByRecursion IsLine lines → take (length lines) (lines_of (unlines lines ++ rest)) ≡ lines
first_lines lines rest each = ap (take (length lines)) (lines_of_unlines lines rest each) ∙ take_at lines (lines_of rest) (length lines) refl

ended_cons : (byte : ℕ) (bytes : List ℕ) → ended_lines (byte ∷ bytes) ≡ cond (eqb byte 10) 1 0 + ended_lines bytes
ended_cons byte bytes = sum_by-cons (λ x. cond (eqb x 10) 1 0) byte bytes

-- a newline for each line that has ended
pub ended_in_plain : (line : List ℕ) → IsPlain line → ended_lines line ≡ 0
ended_in_plain [] plain = refl
ended_in_plain (byte ∷ line) plain =
    ended_cons byte line ∙ (ap (λ b. cond b 1 0 + ended_lines line) (not_newline byte plain.0) ∙ (zero-add (ended_lines line) ∙ ended_in_plain line plain.1))

pub ended_in_line : (line rest : List ℕ) → IsPlain line → ended_lines (line ++ 10 ∷ rest) ≡ ended_lines rest + 1
ended_in_line [] rest plain = ended_cons 10 rest ∙ add_comm 1 (ended_lines rest)
ended_in_line (byte ∷ line) rest plain =
    ended_cons byte (line ++ 10 ∷ rest) ∙ (ap (λ b. cond b 1 0 + ended_lines (line ++ 10 ∷ rest)) (not_newline byte plain.0) ∙ (zero-add (ended_lines (line ++ 10 ∷ rest)) ∙ ended_in_line line rest plain.1))

pub ended_in_unlines : (lines : List (List ℕ)) (begun : List ℕ) → AllByRecursion IsLine lines → IsPlain begun → ended_lines (unlines lines ++ begun) ≡ length lines
ended_in_unlines [] begun each plain = ended_in_plain begun plain
ended_in_unlines (line ∷ lines) begun each plain =
    ap ended_lines (append_assoc (ended line) (unlines lines) begun ∙ append_assoc line (10 ∷ []) (unlines lines ++ begun))
    ∙ (ended_in_line line (unlines lines ++ begun) each.0.plain ∙ (ap (λ n. n + 1) (ended_in_unlines lines begun each.1 plain) ∙ add-one (length lines)))

pub ended_after : (lines : List (List ℕ)) (rest : List ℕ) → AllByRecursion IsLine lines → ended_lines (unlines lines ++ rest) ≡ length lines + ended_lines rest
ended_after [] rest each = sym (zero-add (ended_lines rest))
ended_after (line ∷ lines) rest each =
    let cut : ended_lines (unlines (line ∷ lines) ++ rest) ≡ ended_lines (unlines lines ++ rest) + 1 =
    ap ended_lines (append_assoc (ended line) (unlines lines) rest ∙ append_assoc line (10 ∷ []) (unlines lines ++ rest)) ∙ ended_in_line line (unlines lines ++ rest) each.0.plain in
    omega (arith, cut, ended_after lines rest each.1)
