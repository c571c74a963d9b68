use Rattle.std.proofs.Common.{◌≡◌, false, List, Ok, Err, ap, sym, subst}
use Rattle.std.proofs.lemmas.Result.{err_from_is_err_and}
use Rattle.std.proofs.lemmas.Bool.{false_from_ne_true}
use Rattle.spec_documents.specs.Gives.{Tells}
use Rattle.spec_records.specs.Records.{Record}
use Rattle.spec_exchange.specs.Outside.{puts}
use Rattle.context_records.specs.View.{record_view}
use Rattle.spec_handshake.specs.Calls.{closes_by, put_closing}
use Rattle.n32c_handshake.specs.Faults.{told}
use Rattle.n32c_handshake.specs.Outcome.{IsClosing, IsClosed, ChecksOut}
use Rattle.n32c_handshake.proofs.Calls.{unread, refused, put, passed_put}
use Rattle.n32c_handshake.proofs.closing.ended.Goals as goal

pub returns-in_err-refresh-clause-ends : goal.returns-in_err-refresh-clause-ends
returns-in_err-refresh-clause-ends g c =
    let p = err_from_is_err_and c.from_residual.result c.from_residual.ensures.1 in
    let e = c.in_err-refresh.ensures in
    let before : c.args.store.now.fresh ≡ false = false_from_ne_true c.args.store.now.fresh (λ f. let idle = (e.idle f).0 in cc) in
    rw (p.1, p.2) (unread IsClosing (λ (records : List Record). closes_by records c.args.node.now c.args.document.now) (put_closing c.args.node.now) (g.K.Keeper.held c.args.keeper.now) (g.K.Keeper.held c.refresh.new.keeper) c.args.store.now c.refresh.new.self c.in_err-refresh.field-0.0
    e.same before e.stale e.journal)

pub returns-in_err-reply-clause-ends : goal.returns-in_err-reply-clause-ends
returns-in_err-reply-clause-ends g c =
    let p = err_from_is_err_and c.from_residual-in_err-reply.result c.from_residual-in_err-reply.ensures.1 in
    let e = c.in_ok-refresh.ensures in
    rw (p.1, p.2) (refused IsClosing (λ (records : List Record). closes_by records c.args.node.now c.args.document.now) (put_closing c.args.node.now) (g.K.Keeper.held c.args.keeper.now) (g.K.Keeper.held c.refresh.new.keeper) c.args.store.now c.refresh.new.self c.in_err-reply.field-0.0
    (record { told = e.same; holds = e.consistent e.fresh; few = e.few; fresh = e.fresh; same = λ f. (e.idle f).1 })
    (subst (λ t. Tells (told c.in_err-reply.field-0.0) (closes_by c.refresh.new.self.records c.args.node.now t)) c.node.ensures.value c.in_err-reply.ensures))

pub returns-in_err-keep-clause-ends : goal.returns-in_err-keep-clause-ends
returns-in_err-keep-clause-ends g c =
    let p = err_from_is_err_and c.from_residual-in_err-keep.result c.from_residual-in_err-keep.ensures.1 in
    let e = c.in_ok-refresh.ensures in
    let k = subst (λ t. ChecksOut (IsClosed c.args.node.now) c.refresh.new.self.records (closes_by c.refresh.new.self.records c.args.node.now t) (Ok c.in_ok-reply.field-0)) c.node.ensures.value c.in_ok-reply.ensures in
    rw (p.1, p.2) (put IsClosing (λ (records : List Record). closes_by records c.args.node.now c.args.document.now) (put_closing c.args.node.now) (g.K.Keeper.held c.args.keeper.now) (g.K.Keeper.held c.refresh.new.keeper) (g.K.Keeper.held c.keep.new.keeper) c.args.store.now c.refresh.new.self c.keep.new.store c.in_ok-reply.field-0.document k.0 (record_view c.in_ok-reply.field-0.item) k.0 (Err c.in_err-keep.field-0.0)
    (record { told = e.same; holds = e.consistent e.fresh; few = e.few; fresh = e.fresh; same = λ f. (e.idle f).1 }) k.1 (λ q. ap (λ (r : Record). puts q r k.0) (sym k.2.item)) k.2.document c.in_err-keep.ensures.keeps)

pub returns-in_err-keep-clause-last : goal.returns-in_err-keep-clause-last
returns-in_err-keep-clause-last g c = λ is f.
    let p = err_from_is_err_and c.from_residual-in_err-keep.result c.from_residual-in_err-keep.ensures.1 in
    let k = subst (λ t. ChecksOut (IsClosed c.args.node.now) c.refresh.new.self.records (closes_by c.refresh.new.self.records c.args.node.now t) (Ok c.in_ok-reply.field-0)) c.node.ensures.value c.in_ok-reply.ensures in
    passed_put (λ (records : List Record). closes_by records c.args.node.now c.args.document.now) (g.K.Keeper.held c.refresh.new.keeper) (g.K.Keeper.held c.keep.new.keeper) c.args.store.now c.refresh.new.self c.keep.new.store k.0 (record_view c.in_ok-reply.field-0.item) (Err c.in_err-keep.field-0.0)
    k.1 c.in_err-keep.ensures.keeps (cc (p.1, p.2, is)) (c.in_ok-refresh.ensures.idle f).1

pub returns-clause-ends : goal.returns-clause-ends
returns-clause-ends g c =
    let e = c.in_ok-refresh.ensures in
    let k = subst (λ t. ChecksOut (IsClosed c.args.node.now) c.refresh.new.self.records (closes_by c.refresh.new.self.records c.args.node.now t) (Ok c.in_ok-reply.field-0)) c.node.ensures.value c.in_ok-reply.ensures in
    put IsClosing (λ (records : List Record). closes_by records c.args.node.now c.args.document.now) (put_closing c.args.node.now) (g.K.Keeper.held c.args.keeper.now) (g.K.Keeper.held c.refresh.new.keeper) (g.K.Keeper.held c.keep.new.keeper) c.args.store.now c.refresh.new.self c.keep.new.store c.in_ok-reply.field-0.document k.0 (record_view c.in_ok-reply.field-0.item) k.0 (Ok c.in_ok-keep.field-0)
    (record { told = e.same; holds = e.consistent e.fresh; few = e.few; fresh = e.fresh; same = λ f. (e.idle f).1 }) k.1 (λ q. ap (λ (r : Record). puts q r k.0) (sym k.2.item)) k.2.document c.in_ok-keep.ensures.keeps
