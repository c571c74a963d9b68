use Rattle.std.proofs.Common.{◌≡◌, Ok, map, sym, ap, subst, ◌∙◌}
use Rattle.n32_values.specs.View.{tree_of}
use Rattle.spec_handshake.specs.Documents.{Supports, document_of}
use Rattle.n32c_handshake.specs.View.{capability_view, document_view, offer_view}
use Rattle.n32c_handshake.specs.Replies.{RepliesOut}
use Rattle.n32c_handshake.proofs.Replies.{replied_to}
use Rattle.n32c_handshake.proofs.replying.reply_to.Goals as goal

pub returns-in-Supports-clause-checks : goal.returns-in-Supports-clause-checks
returns-in-Supports-clause-checks c =
    let read : document_of (tree_of c.args.document.now) ≡ Ok (Supports c.in-Supports.call.value c.in-Supports.sender (map capability_view c.in-Supports.capabilities)) = c.in_ok-call.ensures.document ∙ ap (λ z. Ok (document_view z)) c.in-Supports.is in
    subst (λ r. RepliesOut c.args.store.now.records r c.reply_to_capabilities.result)
    (sym (replied_to c.args.store.now.records c.args.node.now c.args.plmn.now (offer_view c.args.offer) (tree_of c.args.document.now) _ read))
    (c.reply_to_capabilities.ensures.checks c.in-Supports.sender)
