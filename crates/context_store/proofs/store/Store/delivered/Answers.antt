use Rattle.std.proofs.Common.{◌∙◌, map}
use Rattle.http_message.specs.Reading.{kind_view}
use Rattle.context_records.specs.View.{record_view}
use Rattle.context_store.proofs.Held.{delivery_known}
use Rattle.context_store.proofs.store.Store.delivered.Goals as goal

pub returns : goal.returns
returns c = rw (← c.self.view_is) (c.widened.ensures ∙ c.delivery.ensures ∙ delivery_known c.self.inside.caches (map record_view c.self.inside.records.items) (kind_view c.args.kind) c.args.message.value c.args.node.now c.args.id.value c.self.invariant.2)
