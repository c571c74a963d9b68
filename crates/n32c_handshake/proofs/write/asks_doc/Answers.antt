use Rattle.std.proofs.Common.{◌≤◌, sym, subst, arith}
use Rattle.spec_documents.specs.Tree.{Tree, depth}
use Rattle.spec_handshake.specs.Documents.{Asks}
use Rattle.spec_handshake.specs.Calls.{ask_of}
use Rattle.n32c_handshake.specs.View.{offer_view}
use Rattle.n32c_handshake.proofs.write.asks_doc.Goals as goal

pub from_shallow-requires : goal.from_shallow-requires
from_shallow-requires c =
    let level = c.written_document_is_read.ensures.shallow (Asks (ask_of c.args.node.now c.args.plmn.now (offer_view c.args.offer.now))) in
    subst (λ (t : Tree). depth t ≤ 127) (sym c.in_ok-document.ensures) (omega (arith, level))
