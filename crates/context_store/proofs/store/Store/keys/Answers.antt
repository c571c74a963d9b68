use Rattle.std.proofs.Common.{◌∙◌, ap, map}
use Rattle.context_records.specs.View.{record_view}
use Rattle.context_cache.specs.Mirror.{held_at, keyed_set}
use Rattle.context_store.proofs.store.Store.keys.Goals as goal

pub returns : goal.returns
returns c = rw (← c.self.view_is)
    ((rw c.deref.ensures.value at c.keyed_at.ensures) ∙ ap (held_at keyed_set (map record_view c.self.inside.records.items)) (rw c.as_str.ensures at c.keyed.ensures) ∙ (c.self.invariant.2 c.args.node.now c.args.id.value).keyed)
