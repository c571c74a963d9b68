use Rattle.std.proofs.Common.{map}
use Rattle.context_records.specs.View.{record_view}
use Rattle.context_cache.proofs.Mirror.{mirror_same}
use Rattle.context_store.proofs.noting.make_room.Goals as goal

pub returns-in_err-reserve-clause-mirror : goal.returns-in_err-reserve-clause-mirror
returns-in_err-reserve-clause-mirror c = mirror_same c.args.caches.now c.reserve.new.self (map record_view c.args.records.now.items) c.reserve.ensures.known c.requires

pub returns-in_err-reserve-2-clause-mirror : goal.returns-in_err-reserve-2-clause-mirror
returns-in_err-reserve-2-clause-mirror c = rw c.reserve-2.ensures.items (mirror_same c.args.caches.now c.reserve.new.self (map record_view c.args.records.now.items) c.reserve.ensures.known c.requires)

pub returns-clause-mirror : goal.returns-clause-mirror
returns-clause-mirror c = rw c.reserve-2.ensures.items (mirror_same c.args.caches.now c.reserve.new.self (map record_view c.args.records.now.items) c.reserve.ensures.known c.requires)
