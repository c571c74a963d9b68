use Rattle.std.proofs.Common.{◌≤◌, sym, subst, map, arith}
use Rattle.spec_documents.specs.Tree.{Tree, depth}
use Rattle.spec_handshake.specs.Documents.{Supports}
use Rattle.n32c_handshake.specs.View.{capability_view}
use Rattle.n32c_handshake.proofs.write.supports_doc.Goals as goal

pub from_shallow-requires : goal.from_shallow-requires
from_shallow-requires c =
    let level = c.written_document_is_read.ensures.shallow (Supports c.args.call.value c.args.sender.now (map capability_view c.args.capabilities.now)) in
    subst (λ (t : Tree). depth t ≤ 127) (sym c.in_ok-node.ensures) (omega (arith, level))
