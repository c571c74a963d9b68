use Rattle.std.proofs.Common.{◌≤◌, [], ◌∷◌, sym, subst, arith}
use Rattle.spec_documents.specs.Tree.{Tree, depth}
use Rattle.spec_handshake.specs.Documents.{Asks}
use Rattle.policy_documents.specs.View.{mapping_view}
use Rattle.n32c_handshake.proofs.policies.printed.Goals as goal

-- as in a document that asks for a policy of this mapping alone
pub from_shallow-requires : goal.from_shallow-requires
from_shallow-requires c =
    let level = c.written_document_is_read.ensures.shallow (Asks (record { call = 0; sender = []; id = 0; plmn = []; suites = []; policy = record { mappings = mapping_view c.args.mapping.now ∷ []; sorts = [] }; ipx = [] })) in
    subst (λ (t : Tree). depth t ≤ 127) (sym c.in_ok-node.ensures) (omega (arith, level))
