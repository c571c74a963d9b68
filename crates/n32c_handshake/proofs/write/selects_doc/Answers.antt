use Rattle.std.proofs.Common.{◌≤◌, sym, subst, arith}
use Rattle.spec_documents.specs.Tree.{Tree, depth}
use Rattle.spec_handshake.specs.Documents.{Selects}
use Rattle.jwe_flat.specs.View.{suite_view}
use Rattle.n32c_handshake.proofs.write.selects_doc.Goals as goal

pub from_shallow-requires : goal.from_shallow-requires
from_shallow-requires c =
    let level = c.written_document_is_read.ensures.shallow (Selects (record { call = c.args.call.value; sender = c.args.node.now; id = c.args.offer.now.id.value; plmn = c.args.plmn.now; suite = suite_view c.args.suite; policy = c.args.offer.now.policy; ipx = c.args.offer.now.ipx })) in
    subst (λ (t : Tree). depth t ≤ 127) (sym c.in_ok-document.ensures) (omega (arith, level))
