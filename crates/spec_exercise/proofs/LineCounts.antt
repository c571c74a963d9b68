-- A turn has at most four lines.
use Rattle.std.proofs.Common.{ℕ, zero, suc, ◌+◌, ◌*◌, ◌≤◌, Bool, true, false, cond, [], ◌∷◌, ◌++◌, length, flat_map, arith, length-append}
use Rattle.std.proofs.lemmas.List.{length-map}
use Rattle.spec_exercise.specs.Script.{Line, Turn, Send, Pass, Deliver, turn_lines, turn_with, turns_from, next_x, latest, is_passed, is_repeated, script}
use Rattle.spec_exercise.specs.Documents.{line_text, lines}

four : (passed repeated : Bool) (send pass deliver again : Line)
    → length (send ∷ (cond passed (pass ∷ []) [] ++ deliver ∷ cond repeated (again ∷ []) [])) ≤ 4
four true true send pass deliver again = omega arith
four true false send pass deliver again = omega arith
four false true send pass deliver again = omega arith
four false false send pass deliver again = omega arith

turn_few : (t : Turn) → length (turn_lines t) ≤ 4
turn_few t = four (is_passed t.drawn) (is_repeated t.drawn) (Send t.number t.drawn) (Pass t.wire t.drawn) (Deliver (latest t)) (Deliver (latest t))

turns_few : (count number x wire : ℕ) → length (flat_map turn_lines (turns_from count number x wire)) ≤ 4 * count
turns_few zero number x wire = omega arith
turns_few (suc count) number x wire =
    let t : Turn = turn_with number (next_x x) wire in
    let rest = flat_map turn_lines (turns_from count (number + 1) (next_x x) (latest t)) in
    omega (arith, turn_few t, length-append (turn_lines t) rest, turns_few count (number + 1) (next_x x) (latest t))

pub lines_few : (n : ℕ) → length (lines n) ≤ 6 + 4 * n
lines_few n = omega (arith, length-map (script n) line_text, turns_few n 0 1 0)
