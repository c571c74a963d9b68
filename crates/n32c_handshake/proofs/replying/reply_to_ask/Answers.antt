use Rattle.std.proofs.Common.{sym, ap, ◌∙◌, List, ℕ}
use Rattle.jwe_flat.specs.View.{suite_view}
use Rattle.spec_handshake.specs.Documents.{Selects}
use Rattle.spec_handshake.specs.Calls.{OpenedBy, selection_of, context_replying}
use Rattle.n32c_handshake.specs.Outcome.{if_room}
use Rattle.n32c_handshake.specs.View.{ask_view, offer_view}
use Rattle.n32c_handshake.proofs.Replies.{selected}
use Rattle.n32c_handshake.proofs.replying.reply_to_ask.Goals as goal

pub returns-clause-checks : goal.returns-clause-checks
returns-clause-checks c = (
  Selects (selection_of c.args.node.now c.args.plmn.now (offer_view c.args.offer) (ask_view c.args.ask) (suite_view c.in-Some.suite)),
  selected c.args.store.now.records c.args.node.now c.args.plmn.now (offer_view c.args.offer) (ask_view c.args.ask) (suite_view c.in-Some.suite) c.in-Some.ensures c.in_ok-agree.ensures.differs (sym c.used.ensures ∙ c.if-used.false)
      ∙ ap (λ (n : List ℕ). if_room c.args.store.now.records (OpenedBy (Selects (selection_of c.args.node.now c.args.plmn.now (offer_view c.args.offer) (ask_view c.args.ask) (suite_view c.in-Some.suite))) (context_replying n (offer_view c.args.offer) (ask_view c.args.ask) (suite_view c.in-Some.suite)))) (sym c.in_ok-copy.ensures),
  c.in_ok-document.ensures,
)
