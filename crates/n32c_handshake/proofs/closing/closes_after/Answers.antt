use Rattle.std.proofs.Common.{sym, ap, subst, IsTrue}
use Rattle.spec_documents.specs.Text.{is_node_name}
use Rattle.spec_records.specs.Records.{Closed}
use Rattle.spec_handshake.specs.Documents.{Terminated}
use Rattle.context_records.specs.View.{context_view}
use Rattle.n32c_handshake.proofs.Checks.{closed}
use Rattle.n32c_handshake.proofs.closing.closes_after.Goals as goal

pub returns : goal.returns
returns c = (
  record { id = c.args.id.value; document = Terminated (context_view c.in-Some.context.now).peer },
  closed c.args.store.now.records c.args.node.now c.args.id.value Terminated (context_view c.in-Some.context.now) c.in-Some.ensures.context,
  record {
    document = c.in_ok-document.ensures;
    item = ap (λ n. Closed n c.args.id.value) c.in_ok-copy.ensures;
    named = subst (λ z. IsTrue (is_node_name z)) (sym c.in_ok-copy.ensures) c.in-Some.ensures.node;
  },
)
