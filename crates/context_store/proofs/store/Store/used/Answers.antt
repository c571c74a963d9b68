use Rattle.std.proofs.Common.{◌∙◌}
use Rattle.context_store.proofs.store.Store.used.Goals as goal

pub returns : goal.returns
returns c = rw (← c.self.view_is) ((rw c.as_str.ensures at c.used.ensures) ∙ (c.self.invariant.2 c.args.node.now c.args.id.value).used)
