use Rattle.std.proofs.lemmas.Result.{err_from_is_err_and}
use Rattle.message_screens.specs.Screening.{rule_of}
use Rattle.receiving_sepp.specs.Outcome.{delivery_view}
use Rattle.receiving_sepp.proofs.Apart.{apart, own_added}
use Rattle.receiving_sepp.proofs.Calls.{stale_of, unread_accepts, refused_accepts, put_accepts, other_than_keeper}
use Rattle.receiving_sepp.proofs.Commuting.{delivers_patched}
use Rattle.receiving_sepp.proofs.Failures.{last_hold, verifier_rose}
use Rattle.receiving_sepp.proofs.Verified.{under_any, under_on}
use Rattle.receiving_sepp.proofs.accepting.accept.Goals as goal

pub returns-in_err-refresh-clause-accepts : goal.returns-in_err-refresh-clause-accepts
returns-in_err-refresh-clause-accepts g c =
    let p = err_from_is_err_and c.from_residual.result c.from_residual.ensures.1 in
    under_any (g.V.Verifier.meaning c.args.verifier.now) _ _ _ λ v.
    rw (p.1, p.2) (unread_accepts (g.R.ScreenRule.passes (rule_of c.args.screen.now)) v (g.K.Keeper.held c.args.keeper.now) (g.K.Keeper.held c.refresh.new.keeper) c.args.store.now c.refresh.new.self c.args.node.now c.args.document.now c.in_err-refresh.field-0.0
    c.in_err-refresh.ensures.same (stale_of _ (λ f. cc ((c.in_err-refresh.ensures.idle f).0))) c.in_err-refresh.ensures.stale c.in_err-refresh.ensures.journal)

pub returns-in_err-checked-clause-accepts : goal.returns-in_err-checked-clause-accepts
returns-in_err-checked-clause-accepts g c =
    let p = err_from_is_err_and c.from_residual-in_err-checked.result c.from_residual-in_err-checked.ensures.1 in
    under_on _ _ _ _ _ (λ v h.
    rw (p.1, p.2) (refused_accepts (g.R.ScreenRule.passes (rule_of c.args.screen.now)) v (g.K.Keeper.held c.args.keeper.now) (g.K.Keeper.held c.refresh.new.keeper) c.args.store.now c.refresh.new.self c.args.node.now c.args.document.now
    (record { told = c.in_ok-refresh.ensures.same; holds = c.in_ok-refresh.ensures.consistent c.in_ok-refresh.ensures.fresh; few = c.in_ok-refresh.ensures.few; fresh = c.in_ok-refresh.ensures.fresh; same = λ f. (c.in_ok-refresh.ensures.idle f).1 }) _ h)) c.in_err-checked.ensures.checks

pub returns-in_err-checked-clause-failed : goal.returns-in_err-checked-clause-failed
returns-in_err-checked-clause-failed g c = λ e.
    let p = err_from_is_err_and c.from_residual-in_err-checked.result c.from_residual-in_err-checked.ensures.1 in
    absurd (other_than_keeper c.in_err-checked.field-0.0 (cc (p.1, p.2, e)))

pub returns-clause-accepts : goal.returns-clause-accepts
returns-clause-accepts g c =
    under_on _ _ _ _ _ (λ v h.
    put_accepts (g.R.ScreenRule.passes (rule_of c.args.screen.now)) v (g.K.Keeper.held c.args.keeper.now) (g.K.Keeper.held c.refresh.new.keeper) (g.K.Keeper.held c.deliver.new.keeper) c.args.store.now c.refresh.new.self c.deliver.new.store c.args.node.now c.args.document.now (delivery_view c.args.node.now c.in_ok-checked.checked) c.deliver.result
    c.deliver.ensures.delivers (record { told = c.in_ok-refresh.ensures.same; holds = c.in_ok-refresh.ensures.consistent c.in_ok-refresh.ensures.fresh; few = c.in_ok-refresh.ensures.few; fresh = c.in_ok-refresh.ensures.fresh; same = λ f. (c.in_ok-refresh.ensures.idle f).1 }) h) c.in_ok-checked.ensures.checks

pub returns-in_err-refresh-clause-verifier_failed : goal.returns-in_err-refresh-clause-verifier_failed
returns-in_err-refresh-clause-verifier_failed g c = λ f.
    verifier_rose c.verifier_failure_is_one.ensures.fails (g.R.ScreenRule.passes (rule_of c.args.screen.now)) (g.V.Verifier.meaning c.args.verifier.now) (g.V.Verifier.faults c.args.verifier.now) (g.V.Verifier.faults c.args.verifier.now) (g.K.Keeper.held c.args.keeper.now) (g.K.Keeper.held c.refresh.new.keeper) c.args.store.now c.refresh.new.self c.args.node.now c.args.document.now c.from_residual.result
    f (returns-in_err-refresh-clause-accepts g c)

pub returns-in_err-checked-clause-verifier_failed : goal.returns-in_err-checked-clause-verifier_failed
returns-in_err-checked-clause-verifier_failed g c = λ f.
    verifier_rose c.verifier_failure_is_one.ensures.fails (g.R.ScreenRule.passes (rule_of c.args.screen.now)) (g.V.Verifier.meaning c.args.verifier.now) (g.V.Verifier.faults c.args.verifier.now) (g.V.Verifier.faults c.check.new.verifier) (g.K.Keeper.held c.args.keeper.now) (g.K.Keeper.held c.refresh.new.keeper) c.args.store.now c.refresh.new.self c.args.node.now c.args.document.now c.from_residual-in_err-checked.result
    f (returns-in_err-checked-clause-accepts g c)

pub returns-in_err-checked-clause-last : goal.returns-in_err-checked-clause-last
returns-in_err-checked-clause-last g c = λ e f.
    let p = err_from_is_err_and c.from_residual-in_err-checked.result c.from_residual-in_err-checked.ensures.1 in
    absurd (other_than_keeper c.in_err-checked.field-0.0 (cc (p.1, p.2, e)))

pub returns-clause-verifier_failed : goal.returns-clause-verifier_failed
returns-clause-verifier_failed g c = λ f.
    verifier_rose c.verifier_failure_is_one.ensures.fails (g.R.ScreenRule.passes (rule_of c.args.screen.now)) (g.V.Verifier.meaning c.args.verifier.now) (g.V.Verifier.faults c.args.verifier.now) (g.V.Verifier.faults c.check.new.verifier) (g.K.Keeper.held c.args.keeper.now) (g.K.Keeper.held c.deliver.new.keeper) c.args.store.now c.deliver.new.store c.args.node.now c.args.document.now c.deliver.result
    f (returns-clause-accepts g c)

pub returns-clause-last : goal.returns-clause-last
returns-clause-last g c = λ e f.
    last_hold (g.R.ScreenRule.passes (rule_of c.args.screen.now)) (g.V.Verifier.meaning c.args.verifier.now) (g.V.Verifier.faults c.args.verifier.now) (g.V.Verifier.faults c.check.new.verifier) (g.K.Keeper.held c.args.keeper.now) (g.K.Keeper.held c.deliver.new.keeper) c.args.store.now c.deliver.new.store c.args.node.now c.args.document.now c.deliver.result
    e f (returns-clause-accepts g c)

pub returns-clause-commutes : goal.returns-clause-commutes
returns-clause-commutes g c =
    delivers_patched c.delivered_document_is_opened_and_changed.ensures c.delivered_document_commutes.ensures (g.R.ScreenRule.passes (rule_of c.args.screen.now)) (g.K.Keeper.held c.refresh.new.keeper) (g.K.Keeper.held c.deliver.new.keeper) c.refresh.new.self c.deliver.new.store c.args.node.now c.args.document.now (delivery_view c.args.node.now c.in_ok-checked.checked)
    (g.V.Verifier.meaning c.args.verifier.now) (g.V.Verifier.faults c.args.verifier.now) (g.V.Verifier.faults c.check.new.verifier) c.deliver.result c.deliver.ensures.delivers c.in_ok-checked.ensures.ordered c.in_ok-checked.ensures.checks

pub returns-in_err-refresh-clause-apart : goal.returns-in_err-refresh-clause-apart
returns-in_err-refresh-clause-apart g c = λ d e other.
    apart (g.R.ScreenRule.passes (rule_of c.args.screen.now)) (g.V.Verifier.meaning c.args.verifier.now) (g.V.Verifier.faults c.args.verifier.now) (g.V.Verifier.faults c.args.verifier.now) (g.K.Keeper.held c.args.keeper.now) (g.K.Keeper.held c.refresh.new.keeper) c.args.store.now c.refresh.new.self c.args.node.now c.args.document.now c.from_residual.result
    d e other (returns-in_err-refresh-clause-accepts g c)

pub returns-in_err-checked-clause-apart : goal.returns-in_err-checked-clause-apart
returns-in_err-checked-clause-apart g c = λ d e other.
    apart (g.R.ScreenRule.passes (rule_of c.args.screen.now)) (g.V.Verifier.meaning c.args.verifier.now) (g.V.Verifier.faults c.args.verifier.now) (g.V.Verifier.faults c.check.new.verifier) (g.K.Keeper.held c.args.keeper.now) (g.K.Keeper.held c.refresh.new.keeper) c.args.store.now c.refresh.new.self c.args.node.now c.args.document.now c.from_residual-in_err-checked.result
    d e other (returns-in_err-checked-clause-accepts g c)

pub returns-clause-apart : goal.returns-clause-apart
returns-clause-apart g c = λ d e other.
    apart (g.R.ScreenRule.passes (rule_of c.args.screen.now)) (g.V.Verifier.meaning c.args.verifier.now) (g.V.Verifier.faults c.args.verifier.now) (g.V.Verifier.faults c.check.new.verifier) (g.K.Keeper.held c.args.keeper.now) (g.K.Keeper.held c.deliver.new.keeper) c.args.store.now c.deliver.new.store c.args.node.now c.args.document.now c.deliver.result
    d e other (returns-clause-accepts g c)

pub returns-in_err-refresh-clause-own : goal.returns-in_err-refresh-clause-own
returns-in_err-refresh-clause-own g c =
    own_added (g.R.ScreenRule.passes (rule_of c.args.screen.now)) (g.V.Verifier.meaning c.args.verifier.now) (g.V.Verifier.faults c.args.verifier.now) (g.V.Verifier.faults c.args.verifier.now) (g.K.Keeper.held c.args.keeper.now) (g.K.Keeper.held c.refresh.new.keeper) c.args.store.now c.refresh.new.self c.args.node.now c.args.document.now c.from_residual.result
    (returns-in_err-refresh-clause-accepts g c)

pub returns-in_err-checked-clause-own : goal.returns-in_err-checked-clause-own
returns-in_err-checked-clause-own g c =
    own_added (g.R.ScreenRule.passes (rule_of c.args.screen.now)) (g.V.Verifier.meaning c.args.verifier.now) (g.V.Verifier.faults c.args.verifier.now) (g.V.Verifier.faults c.check.new.verifier) (g.K.Keeper.held c.args.keeper.now) (g.K.Keeper.held c.refresh.new.keeper) c.args.store.now c.refresh.new.self c.args.node.now c.args.document.now c.from_residual-in_err-checked.result
    (returns-in_err-checked-clause-accepts g c)

pub returns-clause-own : goal.returns-clause-own
returns-clause-own g c =
    own_added (g.R.ScreenRule.passes (rule_of c.args.screen.now)) (g.V.Verifier.meaning c.args.verifier.now) (g.V.Verifier.faults c.args.verifier.now) (g.V.Verifier.faults c.check.new.verifier) (g.K.Keeper.held c.args.keeper.now) (g.K.Keeper.held c.deliver.new.keeper) c.args.store.now c.deliver.new.store c.args.node.now c.args.document.now c.deliver.result
    (returns-clause-accepts g c)
