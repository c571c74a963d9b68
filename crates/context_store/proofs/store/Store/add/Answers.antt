use Rattle.std.proofs.Common.{[], ◌∷◌, map}
use Rattle.std.proofs.lemmas.List.{map-append}
use Rattle.context_records.specs.View.{record_view}
use Rattle.context_store.proofs.Kept.{holds_more}
use Rattle.context_store.proofs.store.Store.add.Goals as goal

pub returns-in-Ok-clause-consistent : goal.returns-in-Ok-clause-consistent
returns-in-Ok-clause-consistent g c = λ fresh.
    rw (c.push_record.ensures.items, c.make_room.ensures.items, map-append record_view c.self.inside.records.items (c.args.item ∷ []))
    (holds_more (g.K.Keeper.held c.args.keeper.now) (g.K.Keeper.held c.put.new.self) (map record_view c.self.inside.records.items) c.in_ok-text.text (record_view c.args.item)
    ((rw (← c.self.view_is) at c.requires.consistent) fresh)
    (rw c.as_slice.ensures at c.in-Ok.ensures.items)
    (c.in_ok-text.ensures.reads_back c.requires.names))
