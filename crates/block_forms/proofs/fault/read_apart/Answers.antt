use Rattle.std.proofs.Common.{sym, ◌∙◌}
use Rattle.block_forms.proofs.Telling.{apart_right, apart_overlap}
use Rattle.block_forms.proofs.fault.read_apart.Goals as goal

pub returns-in-Ok-None : goal.returns-in-Ok-None
returns-in-Ok-None c = (apart_right c.args.items.now c.in-Ok.paths c.in-Ok.ensures.0 c.in-Ok.ensures.1 (sym c.in-Ok-None.ensures ∙ c.in-Ok-None.field-0-is), c.in-Ok.ensures.1)

pub returns-in-Ok-Some : goal.returns-in-Ok-Some
returns-in-Ok-Some c = apart_overlap c.args.items.now c.in-Ok.paths c.in-Ok-Some.number c.in-Ok.ensures.0 c.in-Ok.ensures.1 (sym c.in-Ok-Some.ensures ∙ c.in-Ok-Some.field-0-is)
