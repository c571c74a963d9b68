use Rattle.std.proofs.Common.{◌≡◌, false, List, Ok, Err, ap, sym}
use Rattle.std.proofs.lemmas.Result.{err_from_is_err_and}
use Rattle.std.proofs.lemmas.Bool.{false_from_ne_true}
use Rattle.spec_records.specs.Records.{Record}
use Rattle.spec_exchange.specs.Outside.{puts}
use Rattle.context_records.specs.View.{record_view}
use Rattle.spec_handshake.specs.Documents.{Terminates}
use Rattle.spec_handshake.specs.Calls.{closes, put_closing}
use Rattle.n32c_handshake.specs.Outcome.{IsClosing}
use Rattle.n32c_handshake.proofs.Calls.{unread, refused, put, passed_put}
use Rattle.n32c_handshake.proofs.closing.terminate.Goals as goal

pub returns-in_err-refresh-clause-terminates : goal.returns-in_err-refresh-clause-terminates
returns-in_err-refresh-clause-terminates g c =
    let p = err_from_is_err_and c.from_residual.result c.from_residual.ensures.1 in
    let e = c.in_err-refresh.ensures in
    let before : c.args.store.now.fresh ≡ false = false_from_ne_true c.args.store.now.fresh (λ f. let idle = (e.idle f).0 in cc) in
    rw (p.1, p.2) (unread IsClosing (λ (records : List Record). closes records c.args.node.now c.args.id.value Terminates) (put_closing c.args.node.now) (g.K.Keeper.held c.args.keeper.now) (g.K.Keeper.held c.refresh.new.keeper) c.args.store.now c.refresh.new.self c.in_err-refresh.field-0.0
    e.same before e.stale e.journal)

pub returns-in_err-document-clause-terminates : goal.returns-in_err-document-clause-terminates
returns-in_err-document-clause-terminates g c =
    let p = err_from_is_err_and c.from_residual-in_err-document.result c.from_residual-in_err-document.ensures.1 in
    let e = c.in_ok-refresh.ensures in
    rw (p.1, p.2) (refused IsClosing (λ (records : List Record). closes records c.args.node.now c.args.id.value Terminates) (put_closing c.args.node.now) (g.K.Keeper.held c.args.keeper.now) (g.K.Keeper.held c.refresh.new.keeper) c.args.store.now c.refresh.new.self c.in_err-document.field-0.0
    (record { told = e.same; holds = e.consistent e.fresh; few = e.few; fresh = e.fresh; same = λ f. (e.idle f).1 }) c.in_err-document.ensures)

pub returns-in_err-keep-clause-terminates : goal.returns-in_err-keep-clause-terminates
returns-in_err-keep-clause-terminates g c =
    let p = err_from_is_err_and c.from_residual-in_err-keep.result c.from_residual-in_err-keep.ensures.1 in
    let e = c.in_ok-refresh.ensures in
    let k = c.in_ok-document.ensures in
    rw (p.1, p.2) (put IsClosing (λ (records : List Record). closes records c.args.node.now c.args.id.value Terminates) (put_closing c.args.node.now) (g.K.Keeper.held c.args.keeper.now) (g.K.Keeper.held c.refresh.new.keeper) (g.K.Keeper.held c.keep.new.keeper) c.args.store.now c.refresh.new.self c.keep.new.store c.in_ok-document.field-0.document k.0 (record_view c.in_ok-document.field-0.item) k.0 (Err c.in_err-keep.field-0.0)
    (record { told = e.same; holds = e.consistent e.fresh; few = e.few; fresh = e.fresh; same = λ f. (e.idle f).1 }) k.1 (λ q. ap (λ (r : Record). puts q r k.0) (sym k.2.item)) k.2.document c.in_err-keep.ensures.keeps)

pub returns-in_err-keep-clause-last : goal.returns-in_err-keep-clause-last
returns-in_err-keep-clause-last g c = λ is f.
    let p = err_from_is_err_and c.from_residual-in_err-keep.result c.from_residual-in_err-keep.ensures.1 in
    let k = c.in_ok-document.ensures in
    passed_put (λ (records : List Record). closes records c.args.node.now c.args.id.value Terminates) (g.K.Keeper.held c.refresh.new.keeper) (g.K.Keeper.held c.keep.new.keeper) c.args.store.now c.refresh.new.self c.keep.new.store k.0 (record_view c.in_ok-document.field-0.item) (Err c.in_err-keep.field-0.0)
    k.1 c.in_err-keep.ensures.keeps (cc (p.1, p.2, is)) (c.in_ok-refresh.ensures.idle f).1

pub returns-clause-terminates : goal.returns-clause-terminates
returns-clause-terminates g c =
    let e = c.in_ok-refresh.ensures in
    let k = c.in_ok-document.ensures in
    put IsClosing (λ (records : List Record). closes records c.args.node.now c.args.id.value Terminates) (put_closing c.args.node.now) (g.K.Keeper.held c.args.keeper.now) (g.K.Keeper.held c.refresh.new.keeper) (g.K.Keeper.held c.keep.new.keeper) c.args.store.now c.refresh.new.self c.keep.new.store c.in_ok-document.field-0.document k.0 (record_view c.in_ok-document.field-0.item) k.0 (Ok c.in_ok-keep.field-0)
    (record { told = e.same; holds = e.consistent e.fresh; few = e.few; fresh = e.fresh; same = λ f. (e.idle f).1 }) k.1 (λ q. ap (λ (r : Record). puts q r k.0) (sym k.2.item)) k.2.document c.in_ok-keep.ensures.keeps
