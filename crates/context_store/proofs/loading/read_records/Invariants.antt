use Rattle.std.proofs.Common.{◌≡◌, ◌≤◌, ◌+◌, ◌-◌, map, length}
use Rattle.n32_outside.specs.Contents.{Stays}
use Rattle.spec_records.specs.Records.{record_limit}
use Rattle.context_records.specs.View.{record_view}
use Rattle.context_cache.specs.Mirror.{IsMirror}
use Rattle.context_store.specs.Stores.{AreNamed}
use Rattle.context_store.proofs.Kept.{Front}
use Rattle.context_store.proofs.loading.read_records.Given as goal

-- the first records were read
abbrev pub invariant-loop-records : goal.invariant-loop-records
invariant-loop-records g l = record {
  counted : l.number ≡ length l.records.items;
  few : length l.records.items ≤ record_limit;
  named : AreNamed (map record_view l.records.items);
  front : Front (g.K.Keeper.held l.fn.keeper) l.number (map record_view l.records.items);
  mirror : IsMirror l.caches (map record_view l.records.items);
  same : Stays (g.K.Keeper.held l.fn.keeper) (g.K.Keeper.held l.keeper);
  later : g.K.Keeper.faults l.fn.keeper ≤ g.K.Keeper.faults l.keeper;
}

abbrev pub decreases-loop-records : goal.decreases-loop-records
decreases-loop-records g l = (record_limit + 1) - l.number
