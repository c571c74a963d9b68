use Rattle.std.proofs.Common.{◌≤◌, OnOk, sym, subst}
use Rattle.std.specs.Map.{lookup}
use Rattle.context_cache.specs.Tables.{names}
use Rattle.context_cache.proofs.Tables.{IsFirst, none_from, position_first, room_set, unchanged}
use Rattle.context_cache.proofs.caches.Caches.reserve.Goals as goal

pub returns-in-Some-clause-known : goal.returns-in-Some-clause-known
returns-in-Some-clause-known c = λ n j. rw (← c.self.view_is)
    (unchanged n j c.self.inside.table.entries c.in-Some.i c.pair_mut-cache.result.0.now c.pair_mut-cache.result.1.now c.make_room.new.cache c.pair_mut-cache.ensures.value c.make_room.ensures.known)

pub returns-in-Some-clause-room : goal.returns-in-Some-clause-room
returns-in-Some-clause-room c =
    let first : IsFirst (names c.args.node.now c.args.id) c.self.inside.table.entries c.in-Some.i = position_first (names c.args.node.now c.args.id) c.self.inside.table.entries c.in-Some.i (sym c.in-Some.ensures.index) in
    subst (λ z. OnOk c.make_room.result (1 ≤ z)) (sym (room_set c.args.node.now c.args.id c.self.inside.table.entries c.in-Some.i c.make_room.new.cache first)) c.make_room.ensures.room

pub put_new-requires : goal.put_new-requires
put_new-requires c = none_from (lookup (names c.args.node.now c.args.id) c.self.inside.table.entries) (sym c.in-None.ensures.found)
