-- The lines of the definitions that values of the program are.
use Rattle.spec_exercise.specs.Script as spec
use Rattle.exercise_script.specs.declared.turns.Turn as turns
use Rattle.exercise_script.specs.declared.line.Sepp.{Sepp}
use Rattle.exercise_script.specs.declared.line.Sepp.TheVariants.{Sender, Receiver}
use Rattle.exercise_script.specs.declared.line.Line.{Line}
use Rattle.exercise_script.specs.declared.line.Line.TheVariants.{AddNode, AddContext, AddKeys, Send, Pass, Deliver}

abbrev pub sepp_view : Sepp → spec.Sepp
sepp_view Sender = spec.Sender
sepp_view Receiver = spec.Receiver

abbrev pub line_view : Line → spec.Line
line_view (AddNode sepp) = spec.AddNode (sepp_view sepp)
line_view (AddContext sepp) = spec.AddContext (sepp_view sepp)
line_view (AddKeys sepp) = spec.AddKeys (sepp_view sepp)
line_view (Send turn drawn) = spec.Send turn drawn
line_view (Pass wire drawn) = spec.Pass wire drawn
line_view (Deliver wire) = spec.Deliver wire

abbrev pub turn_view : turns.Turn → spec.Turn
turn_view t = record { number = t.number; drawn = t.drawn; wire = t.wire }
