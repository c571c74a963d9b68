use Rattle.context_cache.proofs.Tables.{found, not_found}
use Rattle.context_cache.proofs.caches.Caches.find.Goals as goal

pub returns-clause-some : goal.returns-clause-some
returns-clause-some c = rw (← c.self.view_is) (found (λ r. r.now) c.args.node.now c.args.id c.get.result c.self.inside.table.entries c.get.ensures.value)

pub returns-clause-none : goal.returns-clause-none
returns-clause-none c = rw (← c.self.view_is) (not_found (λ r. r.now) c.args.node.now c.args.id c.get.result c.self.inside.table.entries c.get.ensures.value)
