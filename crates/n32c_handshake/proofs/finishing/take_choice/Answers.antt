use Rattle.std.proofs.Common.{◌≡◌, sym, ap, ◌∙◌, Ok}
use Rattle.spec_handshake.specs.Documents.{Asks, document_tree}
use Rattle.spec_handshake.specs.Starts.{Start, ForChoice, waits}
use Rattle.spec_handshake.specs.Calls.{ask_of, after_choice}
use Rattle.n32c_handshake.specs.View.{capability_view, start_view}
use Rattle.n32c_handshake.proofs.Awaited.{same_some, found_at, chosen_at}
use Rattle.n32c_handshake.proofs.finishing.take_choice.Goals as goal

pub returns-in_ok-document-in-Prins-clause-checks : goal.returns-in_ok-document-in-Prins-clause-checks
returns-in_ok-document-in-Prins-clause-checks c =
    let start : Start = start_view c.start.result.now in
    let same : start ≡ start_view c.start-in-Prins.result.now = same_some _ _ (sym c.start.ensures.start ∙ c.start-in-Prins.ensures.start) in
    let found = found_at (waits c.args.node.now c.args.call.value c.args.sender.now ForChoice) c.args.hands.now c.in-Some.at start c.in-Some.ensures.first c.start.ensures.start in (
      Asks (ask_of c.args.node.now c.args.plmn.now start.offer),
      chosen_at c.args.store.now.records c.args.hands.now c.args.node.now c.args.plmn.now c.args.call.value c.args.sender.now (capability_view c.args.capability) start found (sym c.has_capability.ensures ∙ c.if-not-has_capability.false)
          ∙ ap (λ z. Ok (after_choice c.args.node.now c.args.plmn.now start.offer (capability_view z))) c.in-Prins.is,
      c.in_ok-document-in-Prins.ensures ∙ ap (λ (s : Start). document_tree (Asks (ask_of c.args.node.now c.args.plmn.now s.offer))) (sym same),
    )
