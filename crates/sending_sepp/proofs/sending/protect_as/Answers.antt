use Rattle.std.proofs.Common.{◌≡◌, false}
use Rattle.std.proofs.lemmas.Result.{err_from_is_err_and}
use Rattle.std.proofs.lemmas.Bool.{false_from_ne_true}
use Rattle.http_message.specs.Reading.{message_view}
use Rattle.sending_sepp.specs.Outgoings.{outgoing_view}
use Rattle.sending_sepp.specs.Outcome.{sealed_view}
use Rattle.sending_sepp.proofs.Apart.{apart, own_put}
use Rattle.sending_sepp.proofs.Outcomes.{unread, unchecked, sent, passed, no_keeper}
use Rattle.sending_sepp.proofs.sending.protect_as.Goals as goal

pub returns-in_err-refresh-clause-protects : goal.returns-in_err-refresh-clause-protects
returns-in_err-refresh-clause-protects g c =
    let p = err_from_is_err_and c.from_residual.result c.from_residual.ensures.1 in
    let e = c.in_err-refresh.ensures in
    let before : c.args.store.now.fresh ≡ false = false_from_ne_true c.args.store.now.fresh (λ f. let idle = (e.idle f).0 in cc) in
    rw (p.1, p.2) (unread (outgoing_view c.args.outgoing) (g.K.Keeper.held c.args.keeper.now) (g.K.Keeper.held c.refresh.new.keeper) c.args.store.now c.refresh.new.self c.args.node.now c.args.id.value (message_view c.args.message.now) c.in_err-refresh.field-0.0
    e.same before e.stale e.journal)

pub returns-in_err-checked-clause-protects : goal.returns-in_err-checked-clause-protects
returns-in_err-checked-clause-protects g c =
    let p = err_from_is_err_and c.from_residual-in_err-checked.result c.from_residual-in_err-checked.ensures.1 in
    let e = c.in_ok-refresh.ensures in
    rw (p.1, p.2) (unchecked (outgoing_view c.args.outgoing) (g.K.Keeper.held c.args.keeper.now) (g.K.Keeper.held c.refresh.new.keeper) c.args.store.now c.refresh.new.self c.args.node.now c.args.id.value (message_view c.args.message.now) c.in_err-checked.field-0.0
    (record { told = e.same; holds = e.consistent e.fresh; few = e.few; fresh = e.fresh; same = λ f. (e.idle f).1 }) c.in_err-checked.ensures.checks)

pub returns-clause-protects : goal.returns-clause-protects
returns-clause-protects g c =
    let e = c.in_ok-refresh.ensures in
    sent (outgoing_view c.args.outgoing) (g.K.Keeper.held c.args.keeper.now) (g.K.Keeper.held c.refresh.new.keeper) (g.K.Keeper.held c.record_sent.new.keeper) c.args.store.now c.refresh.new.self c.record_sent.new.store c.args.node.now c.args.id.value (message_view c.args.message.now)
    (sealed_view c.args.node.now c.args.id.value c.in_ok-checked.checked) c.record_sent.result
    (record { told = e.same; holds = e.consistent e.fresh; few = e.few; fresh = e.fresh; same = λ f. (e.idle f).1 }) c.in_ok-checked.ensures.checks c.record_sent.ensures.records

pub returns-in_err-checked-clause-failed : goal.returns-in_err-checked-clause-failed
returns-in_err-checked-clause-failed g c = λ is.
    let p = err_from_is_err_and c.from_residual-in_err-checked.result c.from_residual-in_err-checked.ensures.1 in
    absurd (no_keeper c.in_err-checked.field-0.0 (cc (p.1, p.2, is)))

pub returns-in_err-checked-clause-last : goal.returns-in_err-checked-clause-last
returns-in_err-checked-clause-last g c = λ is f.
    let p = err_from_is_err_and c.from_residual-in_err-checked.result c.from_residual-in_err-checked.ensures.1 in
    absurd (no_keeper c.in_err-checked.field-0.0 (cc (p.1, p.2, is)))

pub returns-clause-last : goal.returns-clause-last
returns-clause-last g c = λ is f.
    let same = (c.in_ok-refresh.ensures.idle f).1 in
    rw (← same) (passed (outgoing_view c.args.outgoing) c.refresh.new.self.records c.args.node.now c.args.id.value (message_view c.args.message.now) (sealed_view c.args.node.now c.args.id.value c.in_ok-checked.checked) (c.record_sent.ensures.room is) c.in_ok-checked.ensures.checks)

pub returns-in_err-refresh-clause-apart : goal.returns-in_err-refresh-clause-apart
returns-in_err-refresh-clause-apart g c = λ other.
    apart (outgoing_view c.args.outgoing) (g.K.Keeper.held c.args.keeper.now) (g.K.Keeper.held c.refresh.new.keeper) c.args.store.now c.refresh.new.self c.args.node.now c.args.id.value (message_view c.args.message.now) c.from_residual.result
    other (returns-in_err-refresh-clause-protects g c)

pub returns-in_err-checked-clause-apart : goal.returns-in_err-checked-clause-apart
returns-in_err-checked-clause-apart g c = λ other.
    apart (outgoing_view c.args.outgoing) (g.K.Keeper.held c.args.keeper.now) (g.K.Keeper.held c.refresh.new.keeper) c.args.store.now c.refresh.new.self c.args.node.now c.args.id.value (message_view c.args.message.now) c.from_residual-in_err-checked.result
    other (returns-in_err-checked-clause-protects g c)

pub returns-clause-apart : goal.returns-clause-apart
returns-clause-apart g c = λ other.
    apart (outgoing_view c.args.outgoing) (g.K.Keeper.held c.args.keeper.now) (g.K.Keeper.held c.record_sent.new.keeper) c.args.store.now c.record_sent.new.store c.args.node.now c.args.id.value (message_view c.args.message.now) c.record_sent.result
    other (returns-clause-protects g c)

pub returns-in_err-refresh-clause-own : goal.returns-in_err-refresh-clause-own
returns-in_err-refresh-clause-own g c =
    own_put (outgoing_view c.args.outgoing) (g.K.Keeper.held c.args.keeper.now) (g.K.Keeper.held c.refresh.new.keeper) c.args.store.now c.refresh.new.self c.args.node.now c.args.id.value (message_view c.args.message.now) c.from_residual.result
    (returns-in_err-refresh-clause-protects g c)

pub returns-in_err-checked-clause-own : goal.returns-in_err-checked-clause-own
returns-in_err-checked-clause-own g c =
    own_put (outgoing_view c.args.outgoing) (g.K.Keeper.held c.args.keeper.now) (g.K.Keeper.held c.refresh.new.keeper) c.args.store.now c.refresh.new.self c.args.node.now c.args.id.value (message_view c.args.message.now) c.from_residual-in_err-checked.result
    (returns-in_err-checked-clause-protects g c)

pub returns-clause-own : goal.returns-clause-own
returns-clause-own g c =
    own_put (outgoing_view c.args.outgoing) (g.K.Keeper.held c.args.keeper.now) (g.K.Keeper.held c.record_sent.new.keeper) c.args.store.now c.record_sent.new.store c.args.node.now c.args.id.value (message_view c.args.message.now) c.record_sent.result
    (returns-clause-protects g c)
