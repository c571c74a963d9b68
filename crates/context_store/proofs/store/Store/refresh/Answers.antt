use Rattle.std.proofs.Common.{map, arith}
use Rattle.std.proofs.lemmas.List.{length-map}
use Rattle.context_records.specs.View.{record_view}
use Rattle.context_store.proofs.Kept.{has_no_bad}
use Rattle.context_store.proofs.store.Store.refresh.Goals as goal

pub returns-then-self-clause-sound : goal.returns-then-self-clause-sound
returns-then-self-clause-sound g c =
    has_no_bad (g.K.Keeper.held c.args.keeper.now) (map record_view c.self.inside.records.items) ((rw (← c.self.view_is) at c.requires) c.if-self.true)
    (omega (arith, c.self.invariant.0, length-map c.self.inside.records.items record_view))

pub returns-clause-sound : goal.returns-clause-sound
returns-clause-sound g c =
    rw c.in_ok-records.ensures.same
    (has_no_bad (g.K.Keeper.held c.args.keeper.now) (map record_view c.in_ok-records.records.items) c.in_ok-records.ensures.ok
    (omega (arith, c.in_ok-records.ensures.few, length-map c.in_ok-records.records.items record_view)))
