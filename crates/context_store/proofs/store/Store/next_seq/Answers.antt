use Rattle.std.proofs.Common.{◌∙◌, map}
use Rattle.http_message.specs.Reading.{kind_view}
use Rattle.context_records.specs.View.{record_view}
use Rattle.context_store.proofs.Held.{greatest_known, seq_both}
use Rattle.context_store.proofs.store.Store.next_seq.Goals as goal

pub returns : goal.returns
returns c = c.seq_with.ensures ∙ seq_both _ _ _ _ c.keys.ensures (rw (← c.self.view_is) (c.greatest.ensures ∙ greatest_known c.self.inside.caches (map record_view c.self.inside.records.items) (kind_view c.args.kind) c.args.node.now c.args.id.value c.self.invariant.2))
