use Rattle.std.proofs.Common.{◌∙◌}
use Rattle.context_store.proofs.store.Store.mapping_sent.Goals as goal

pub returns : goal.returns
returns c = rw (← c.self.view_is) ((rw c.as_str.ensures at c.mapping_sent.ensures) ∙ (c.self.invariant.2 c.args.node.now c.args.id.value).mapping_sent c.args.message.value)
