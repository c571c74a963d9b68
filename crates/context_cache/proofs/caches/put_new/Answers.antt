use Rattle.context_cache.proofs.Tables.{named_by, put_known, put_room}
use Rattle.context_cache.proofs.caches.put_new.Goals as goal

pub returns-in-Ok-new_name-clause-known : goal.returns-in-Ok-new_name-clause-known
returns-in-Ok-new_name-clause-known c = λ n i.
    put_known n i c.args.table.now.entries c.put.new.table.entries c.in-Ok-new_name.name c.in-Ok.cache c.put.result c.put.ensures.ok c.put.ensures.err c.in-Ok.ensures.known

pub returns-in-Ok-new_name-clause-room : goal.returns-in-Ok-new_name-clause-room
returns-in-Ok-new_name-clause-room c =
    put_room c.args.node.now c.args.id c.args.table.now.entries c.put.new.table.entries c.in-Ok-new_name.name c.in-Ok.cache c.put.result c.put.ensures.ok c.requires
    (named_by c.args.node.now c.args.id _ _ c.in-Ok-new_name.ensures.node c.in-Ok-new_name.ensures.id) c.in-Ok.ensures.room
