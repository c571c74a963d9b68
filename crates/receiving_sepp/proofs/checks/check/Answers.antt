use Rattle.std.proofs.Common.{◌≡◌, true, false, Some}
use Rattle.http_message.specs.Reading.{message_view}
use Rattle.context_records.specs.View.{context_view}
use Rattle.message_screens.specs.Screening.{rule_of}
use Rattle.spec_exchange.specs.AcceptRefusals.{Screened}
use Rattle.spec_exchange.proofs.AcceptLemmas.{passed_by}
use Rattle.receiving_sepp.specs.Refusing.{told}
use Rattle.receiving_sepp.specs.Views.{opened_view}
use Rattle.receiving_sepp.proofs.Stages.{opening_refused, changing_refused, screen_refused, all_pass, opened_none, opened_ordered, not_passed}
use Rattle.receiving_sepp.proofs.Verified.{under_any, under_on}
use Rattle.receiving_sepp.proofs.checks.check.Goals as goal

pub returns-in-Err-clause-checks : goal.returns-in-Err-clause-checks
returns-in-Err-clause-checks g c =
    under_any _ _ _ _ λ v. opening_refused (g.R.ScreenRule.passes (rule_of c.args.screen.now)) v c.args.store.now.records c.args.node.now c.args.document.now (told c.in-Err.fault) c.in-Err.ensures.opened

pub returns-in-Err-change-clause-checks : goal.returns-in-Err-change-clause-checks
returns-in-Err-change-clause-checks g c =
    let t = c.args.document.now in
    under_on _ _ _ _ _ (λ v h. changing_refused (g.R.ScreenRule.passes (rule_of c.args.screen.now)) v c.args.store.now.records c.args.node.now t (opened_view t c.in-Ok.opened) c.in-Ok.ensures.opened (told c.in-Err-change.fault) h) c.in-Err-change.ensures.answer

pub returns-in-Err-change-clause-unasked : goal.returns-in-Err-change-clause-unasked
returns-in-Err-change-clause-unasked g c d is none =
    let t = c.args.document.now in
    c.in-Err-change.ensures.unasked (opened_none c.args.store.now.records c.args.node.now t (opened_view t c.in-Ok.opened) c.in-Ok.ensures.opened d is none)

pub returns-then-not-test-clause-checks : goal.returns-then-not-test-clause-checks
returns-then-not-test-clause-checks g c =
    let t = c.args.document.now in
    let passes = g.R.ScreenRule.passes (rule_of c.args.screen.now) in
    let x = context_view c.in-Ok.opened.context.now in
    let m = message_view c.in-Ok-change.content in
    let no : passes m x.plmn ≡ false = cc in
    under_on _ _ _ _ _ (λ v h. screen_refused passes v c.args.store.now.records c.args.node.now t (opened_view t c.in-Ok.opened) c.in-Ok.ensures.opened m h (Some Screened) (not_passed passes x m no)) c.in-Ok-change.ensures.answer

pub returns-then-not-test-clause-unasked : goal.returns-then-not-test-clause-unasked
returns-then-not-test-clause-unasked g c d is none =
    let t = c.args.document.now in
    c.in-Ok-change.ensures.unasked (opened_none c.args.store.now.records c.args.node.now t (opened_view t c.in-Ok.opened) c.in-Ok.ensures.opened d is none)

pub returns-clause-checks : goal.returns-clause-checks
returns-clause-checks g c =
    let t = c.args.document.now in
    let passes = g.R.ScreenRule.passes (rule_of c.args.screen.now) in
    let x = context_view c.in-Ok.opened.context.now in
    let m = message_view c.in-Ok-change.content in
    let yes : passes m x.plmn ≡ true = cc in
    under_on _ _ _ _ _ (λ v h. all_pass passes v c.args.store.now.records c.args.node.now t (opened_view t c.in-Ok.opened) c.in-Ok.ensures.opened m h (passed_by passes x m yes)) c.in-Ok-change.ensures.answer

pub returns-clause-unasked : goal.returns-clause-unasked
returns-clause-unasked g c d is none =
    let t = c.args.document.now in
    c.in-Ok-change.ensures.unasked (opened_none c.args.store.now.records c.args.node.now t (opened_view t c.in-Ok.opened) c.in-Ok.ensures.opened d is none)

pub returns-clause-ordered : goal.returns-clause-ordered
returns-clause-ordered g c = opened_ordered c.fault_decides.ensures.ordered c.args.store.now.records c.args.node.now c.args.document.now (opened_view c.args.document.now c.in-Ok.opened) c.in-Ok.ensures.opened c.in-Ok.ensures.stands
