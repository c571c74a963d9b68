use Rattle.std.proofs.Common.{◌≡◌, ◌≤◌, map, sym, subst, arith}
use Rattle.std.specs.Map.{lookup}
use Rattle.context_cache.specs.Known.{noted}
use Rattle.context_cache.specs.Tables.{names, room_at, kept_of}
use Rattle.context_cache.proofs.Tables.{IsFirst, changed, no_room, none_from, position_first, room_here}
use Rattle.context_cache.proofs.caches.Caches.note.Goals as goal

pub note-requires : goal.note-requires
note-requires c =
    let first : IsFirst (names c.args.node.now c.args.id) c.self.inside.table.entries c.in-Some.i = position_first (names c.args.node.now c.args.id) c.self.inside.table.entries c.in-Some.i (sym c.in-Some.ensures.index) in
    subst (λ z. 1 ≤ z) (room_here c.args.node.now c.args.id c.self.inside.table.entries c.in-Some.i c.pair_mut-cache.result.0.now c.pair_mut-cache.result.1.now first c.pair_mut-cache.ensures.value)
    (rw (← c.self.view_is) at c.requires)

pub returns-in-Some : goal.returns-in-Some
returns-in-Some c = λ n j.
    let first : IsFirst (names c.args.node.now c.args.id) c.self.inside.table.entries c.in-Some.i = position_first (names c.args.node.now c.args.id) c.self.inside.table.entries c.in-Some.i (sym c.in-Some.ensures.index) in
    rw (← c.self.view_is)
    (changed (noted c.args.number c.args.fact) c.args.node.now c.args.id n j c.self.inside.table.entries c.in-Some.i c.pair_mut-cache.result.0.now c.pair_mut-cache.result.1.now c.note.new.cache first c.pair_mut-cache.ensures.value c.note.ensures)

pub returns-in-None : goal.returns-in-None
returns-in-None c =
    let none = none_from (lookup (names c.args.node.now c.args.id) c.self.inside.table.entries) (sym c.in-None.ensures.found) in
    let empty : room_at c.args.node.now c.args.id (map kept_of c.self.inside.table.entries) ≡ 0 = no_room c.args.node.now c.args.id c.self.inside.table.entries none in
    let room : 1 ≤ room_at c.args.node.now c.args.id (map kept_of c.self.inside.table.entries) = rw (← c.self.view_is) at c.requires in
    absurd (omega (arith, empty, room))
