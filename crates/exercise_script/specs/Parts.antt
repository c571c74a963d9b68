-- What is left of a script, by the part that comes next and the turns that are left.
use Rattle.std.specs.Prelude.{List, [], ◌∷◌, ◌++◌, drop, flat_map, if◌then◌else◌}
use Rattle.spec_exercise.specs.Script.{Line, Turn, Pass as pass, Deliver as deliver, opening, turn_lines, is_passed, is_repeated}
use Rattle.exercise_script.specs.declared.turns.Turn as kept
use Rattle.exercise_script.specs.declared.script.Part.{Part}
use Rattle.exercise_script.specs.declared.script.Part.TheVariants.{Opening, NextTurn, Pass, Deliver, Repeat}

-- what comes after the request of a turn, and after its delivery
abbrev pub part_after_send : kept.Turn → Part
part_after_send t = if is_passed t.drawn then Pass t else Deliver t

abbrev pub part_after_delivery : kept.Turn → Part
part_after_delivery t = if is_repeated t.drawn then Repeat t else NextTurn

-- the lines of the turns
abbrev pub lines_of_turns : List Turn → List Line
lines_of_turns turns = flat_map turn_lines turns

-- the delivery of a turn again, where it is repeated
abbrev pub repetition : kept.Turn → List Line
repetition t = if is_repeated t.drawn then deliver t.latest ∷ [] else []

abbrev pub lines_left : Part → List Turn → List Line
lines_left (Opening number) turns = drop number opening ++ lines_of_turns turns
lines_left NextTurn turns = lines_of_turns turns
lines_left (Pass t) turns = pass t.wire t.drawn ∷ deliver t.latest ∷ (repetition t ++ lines_of_turns turns)
lines_left (Deliver t) turns = deliver t.latest ∷ (repetition t ++ lines_of_turns turns)
lines_left (Repeat t) turns = deliver t.latest ∷ lines_of_turns turns
