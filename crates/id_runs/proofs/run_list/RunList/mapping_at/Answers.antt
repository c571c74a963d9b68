use Rattle.std.proofs.Common.{sym}
use Rattle.id_runs.proofs.Entries.{some_there}
use Rattle.id_runs.proofs.run_list.RunList.mapping_at.Goals as goal

pub returns-in-None-clause-mapping : goal.returns-in-None-clause-mapping
returns-in-None-clause-mapping g c = absurd (some_there c.args.i c.args.id c.self.inside.runs.items c.self.inside.entries.entries c.self.invariant (rw (← c.self.view_is) at c.requires) (sym c.in-None.ensures.value))
