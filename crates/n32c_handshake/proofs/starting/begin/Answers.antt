use Rattle.std.proofs.Common.{sym, ap, subst, ◌∙◌, IsTrue}
use Rattle.spec_documents.specs.Text.{is_node_name}
use Rattle.spec_records.specs.Records.{Offered}
use Rattle.spec_handshake.specs.Documents.{Supports}
use Rattle.n32c_handshake.specs.View.{offer_view}
use Rattle.n32c_handshake.proofs.Replies.{began}
use Rattle.n32c_handshake.proofs.starting.begin.Goals as goal

pub returns-clause-checks : goal.returns-clause-checks
returns-clause-checks c = (
  Supports c.args.offer.id.value c.args.node.now (offer_view c.args.offer).capabilities,
  began c.args.store.now.records c.args.node.now (offer_view c.args.offer) (sym c.used.ensures ∙ c.if-used.false),
  record {
    document = c.in_ok-document.ensures;
    item = ap (λ n. Offered n c.args.offer.id.value) c.in_ok-copy.ensures;
    named = subst (λ z. IsTrue (is_node_name z)) (sym c.in_ok-copy.ensures) c.requires.node;
  },
)
