use Rattle.std.proofs.Common.{map}
use Rattle.context_records.specs.View.{context_view, record_view}
use Rattle.context_store.proofs.Names.{node_named, ipx_in_form}
use Rattle.context_store.proofs.store.Store.context.Goals as goal

pub returns-clause-node : goal.returns-clause-node
returns-clause-node c = node_named (λ x. context_view x.now) c.args.node.now c.args.id.value (map record_view c.self.inside.records.items) c.open_context.result c.self.invariant.1 (rw c.deref.ensures.value at c.open_context.ensures)

pub returns-clause-own_ipx : goal.returns-clause-own_ipx
returns-clause-own_ipx c = ipx_in_form (λ x. context_view x.now) c.args.node.now c.args.id.value (map record_view c.self.inside.records.items) c.open_context.result c.self.invariant.1 (rw c.deref.ensures.value at c.open_context.ensures)
