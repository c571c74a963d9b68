use Rattle.std.proofs.Common.{◌<◌, length, arith}
use Rattle.std.proofs.lemmas.Grind.{common_steps}
use Rattle.script_loop.proofs.Last.{last_output}
use Rattle.script_loop.proofs.line_buffer.LineBuffer.finish.Goals as goal

pub returns-in-Ok-clause-ending : goal.returns-in-Ok-clause-ending
returns-in-Ok-clause-ending g c =
    let some : 0 < length c.args.self.now.line.items = grind (arith, common_steps) in
    last_output g.M.Machine.gives _ _ c.args.self.now.line.items _ _ _ some c.requires.line.plain (rw c.deref.ensures.value at c.in-Ok.ensures.ok)
