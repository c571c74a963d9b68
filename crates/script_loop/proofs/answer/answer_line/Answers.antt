use Rattle.std.proofs.Common.{sym, ◌∙◌}
use Rattle.script_loop.specs.declared.ending.Ending.TheVariants.{NoMemory}
use Rattle.script_loop.proofs.Answered.{none_written}
use Rattle.script_loop.proofs.answer.answer_line.Goals as goal

pub returns-then-is_err-clause-err : goal.returns-then-is_err-clause-err
returns-then-is_err-clause-err g c =
    none_written g.M.Machine.gives g.M.Machine.gives_up c.args.machine.now c.args.number c.args.line.now c.in-Ok.answer c.answer.new.self (g.O.Sink.written c.args.sink.now) NoMemory
    (sym c.is_blank_line.ensures ∙ c.if-is_blank_line.false) c.in-Ok.ensures.ok
