use Rattle.std.proofs.Common.{◌≡◌, sym, ap, ◌∙◌, refl}
use Rattle.spec_handshake.specs.Starts.{Start, ForSelection, waits}
use Rattle.spec_handshake.specs.Calls.{OpenedAs, context_finishing}
use Rattle.spec_records.specs.Records.{Context}
use Rattle.n32c_handshake.specs.Faults.{told}
use Rattle.n32c_handshake.specs.Outcome.{if_room}
use Rattle.n32c_handshake.specs.View.{selection_view, start_view}
use Rattle.n32c_handshake.proofs.Awaited.{same_some, first_within, found_at, found_node, selected_at, told_at, left_told}
use Rattle.n32c_handshake.proofs.finishing.take_selection.Goals as goal

pub context_of-requires : goal.context_of-requires
context_of-requires c =
    ap (λ (s : Start). s.offer.policy) (same_some (start_view c.start-in-Ok.result.now) (start_view c.start.result.now) (sym c.start-in-Ok.ensures.start ∙ c.start.ensures.start)) ∙ c.in-Ok.ensures.same

pub returns-in-Ok-clause-checks : goal.returns-in-Ok-clause-checks
returns-in-Ok-clause-checks c =
    let start : Start = start_view c.start.result.now in
    let same : start_view c.start-in-Ok.result.now ≡ start = same_some _ _ (sym c.start-in-Ok.ensures.start ∙ c.start.ensures.start) in
    let found = found_at (waits c.args.node.now c.args.selection.call.value c.args.selection.sender ForSelection) c.args.hands.now c.in-Some.at start c.in-Some.ensures.first c.start.ensures.start in
    let node = found_node c.args.node.now c.args.selection.call.value c.args.selection.sender ForSelection c.args.hands.now start found in
    selected_at c.args.store.now.records c.args.hands.now c.args.node.now c.args.plmn.now (selection_view c.args.selection) start found c.in-Ok.ensures.accepted
    ∙ ap (λ (x : Context). if_room c.args.store.now.records (OpenedAs x))
    (ap (λ n. context_finishing n start.offer (selection_view c.args.selection)) (sym node)
    ∙ (ap (λ (s : Start). context_finishing s.node s.offer (selection_view c.args.selection)) (sym same) ∙ sym c.in_ok-context-in-Ok.ensures))

pub returns-in-Ok-clause-leaves : goal.returns-in-Ok-clause-leaves
returns-in-Ok-clause-leaves c = (refl, first_within _ c.args.hands.now c.in-Some.at c.in-Some.ensures.first, c.in-Some.ensures.first.without)

pub returns : goal.returns
returns c =
    let start : Start = start_view c.start.result.now in
    let found = found_at (waits c.args.node.now c.args.selection.call.value c.args.selection.sender ForSelection) c.args.hands.now c.in-Some.at start c.in-Some.ensures.first c.start.ensures.start in
    record {
      checks = told_at c.args.store.now.records c.args.hands.now c.args.node.now c.args.plmn.now (selection_view c.args.selection) start (told c.in-Err.fault) found c.in-Err.ensures.accepted;
      leaves = c.remove.ensures ∙ (c.in-Some.ensures.first.without ∙ sym (left_told _ c.args.hands.now start (selection_view c.args.selection) c.in-Err.fault c.in_default-fault.not-NoMemory c.in-Err.ensures.accepted));
      named = tt;
    }
