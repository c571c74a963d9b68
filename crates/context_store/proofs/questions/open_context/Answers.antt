use Rattle.std.proofs.Common.{refl, map, option_map}
use Rattle.context_records.specs.View.{context_view, record_view}
use Rattle.context_store.proofs.Held.{opening_now, shut, not_shut}
use Rattle.context_store.proofs.questions.open_context.Goals as goal

pub returns-then-closed : goal.returns-then-closed
returns-then-closed c = shut c.args.caches.now (map record_view c.args.records.now) c.closed.result c.args.node.now c.args.id.value c.requires (rw c.as_str.ensures at c.closed.ensures) c.if-closed.true

pub returns-else-closed : goal.returns-else-closed
returns-else-closed c = not_shut c.args.caches.now (map record_view c.args.records.now) c.closed.result (option_map (λ x. context_view x.now) c.opened_at.result) c.args.node.now c.args.id.value c.requires (rw c.as_str.ensures at c.closed.ensures) c.if-closed.false
    (opening_now c.args.caches.now (map record_view c.args.records.now) (option_map (λ x. context_view x.now) c.opened_at.result) c.opened.result c.args.node.now c.args.node.now c.args.id.value c.args.id.value
    c.requires c.opened_at.ensures (rw c.as_str-else-closed.ensures at c.opened.ensures) refl refl)
