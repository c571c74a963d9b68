use Rattle.std.proofs.Common.{map}
use Rattle.spec_handshake.specs.Documents.{Chooses}
use Rattle.n32c_handshake.specs.View.{capability_view, offer_view}
use Rattle.n32c_handshake.proofs.Replies.{chose}
use Rattle.n32c_handshake.proofs.replying.reply_to_capabilities.Goals as goal

pub returns-clause-checks : goal.returns-clause-checks
returns-clause-checks c = λ sender. (
  Chooses c.args.call.value c.args.node.now (capability_view c.in-Some.capability),
  chose c.args.store.now.records c.args.node.now c.args.plmn.now (offer_view c.args.offer.now) c.args.call.value sender (map capability_view c.args.capabilities.now) (capability_view c.in-Some.capability) c.in-Some.ensures,
  c.in_ok-chooses_doc.ensures,
)
