use Rattle.std.proofs.Common.{◌≡◌, false, List, Ok, Err, ap, sym}
use Rattle.std.proofs.lemmas.Result.{err_from_is_err_and}
use Rattle.std.proofs.lemmas.Bool.{false_from_ne_true}
use Rattle.spec_records.specs.Records.{Record, Offered}
use Rattle.spec_exchange.specs.Outside.{puts}
use Rattle.spec_handshake.specs.Documents.{Document}
use Rattle.spec_handshake.specs.Calls.{begins}
use Rattle.context_records.specs.View.{record_view}
use Rattle.n32c_handshake.specs.View.{offer_view}
use Rattle.n32c_handshake.specs.Outcome.{IsDocument}
use Rattle.n32c_handshake.proofs.Calls.{unread, refused, put, passed_put}
use Rattle.n32c_handshake.proofs.starting.start.Goals as goal

pub returns-in_err-refresh-clause-starts : goal.returns-in_err-refresh-clause-starts
returns-in_err-refresh-clause-starts g c =
    let p = err_from_is_err_and c.from_residual.result c.from_residual.ensures.1 in
    let e = c.in_err-refresh.ensures in
    let before : c.args.store.now.fresh ≡ false = false_from_ne_true c.args.store.now.fresh (λ f. let idle = (e.idle f).0 in cc) in
    rw (p.1, p.2) (unread IsDocument (λ (records : List Record). begins records c.args.node.now (offer_view c.args.offer)) (λ q (d : Document). puts q (Offered c.args.node.now c.args.offer.id.value) d) (g.K.Keeper.held c.args.keeper.now) (g.K.Keeper.held c.refresh.new.keeper) c.args.store.now c.refresh.new.self c.in_err-refresh.field-0.0
    e.same before e.stale e.journal)

pub returns-in_err-document-clause-starts : goal.returns-in_err-document-clause-starts
returns-in_err-document-clause-starts g c =
    let p = err_from_is_err_and c.from_residual-in_err-document.result c.from_residual-in_err-document.ensures.1 in
    let e = c.in_ok-refresh.ensures in
    rw (p.1, p.2) (refused IsDocument (λ (records : List Record). begins records c.args.node.now (offer_view c.args.offer)) (λ q (d : Document). puts q (Offered c.args.node.now c.args.offer.id.value) d) (g.K.Keeper.held c.args.keeper.now) (g.K.Keeper.held c.refresh.new.keeper) c.args.store.now c.refresh.new.self c.in_err-document.field-0.0
    (record { told = e.same; holds = e.consistent e.fresh; few = e.few; fresh = e.fresh; same = λ f. (e.idle f).1 }) c.in_err-document.ensures.checks)

pub returns-in-Ok-clause-starts : goal.returns-in-Ok-clause-starts
returns-in-Ok-clause-starts g c =
    let e = c.in_ok-refresh.ensures in
    let k = c.in_ok-document.ensures.checks in
    put IsDocument (λ (records : List Record). begins records c.args.node.now (offer_view c.args.offer)) (λ q (d : Document). puts q (Offered c.args.node.now c.args.offer.id.value) d) (g.K.Keeper.held c.args.keeper.now) (g.K.Keeper.held c.refresh.new.keeper) (g.K.Keeper.held c.keep.new.keeper) c.args.store.now c.refresh.new.self c.keep.new.store c.in_ok-document.field-0.document k.0 (record_view c.in_ok-document.field-0.item) k.0 (Ok c.in-Ok.field-0)
    (record { told = e.same; holds = e.consistent e.fresh; few = e.few; fresh = e.fresh; same = λ f. (e.idle f).1 }) k.1 (λ q. ap (λ (r : Record). puts q r k.0) (sym k.2.item)) k.2.document c.in-Ok.ensures.keeps

pub returns-in-Err-clause-starts : goal.returns-in-Err-clause-starts
returns-in-Err-clause-starts g c =
    let e = c.in_ok-refresh.ensures in
    let k = c.in_ok-document.ensures.checks in
    put IsDocument (λ (records : List Record). begins records c.args.node.now (offer_view c.args.offer)) (λ q (d : Document). puts q (Offered c.args.node.now c.args.offer.id.value) d) (g.K.Keeper.held c.args.keeper.now) (g.K.Keeper.held c.refresh.new.keeper) (g.K.Keeper.held c.keep.new.keeper) c.args.store.now c.refresh.new.self c.keep.new.store c.in_ok-document.field-0.document k.0 (record_view c.in_ok-document.field-0.item) k.0 (Err c.in-Err.fault)
    (record { told = e.same; holds = e.consistent e.fresh; few = e.few; fresh = e.fresh; same = λ f. (e.idle f).1 }) k.1 (λ q. ap (λ (r : Record). puts q r k.0) (sym k.2.item)) k.2.document c.in-Err.ensures.keeps

pub returns-in-Err-clause-last : goal.returns-in-Err-clause-last
returns-in-Err-clause-last g c = λ is f.
    let k = c.in_ok-document.ensures.checks in
    passed_put (λ (records : List Record). begins records c.args.node.now (offer_view c.args.offer)) (g.K.Keeper.held c.refresh.new.keeper) (g.K.Keeper.held c.keep.new.keeper) c.args.store.now c.refresh.new.self c.keep.new.store k.0 (record_view c.in_ok-document.field-0.item) (Err c.in-Err.fault)
    k.1 c.in-Err.ensures.keeps (cc (is)) (c.in_ok-refresh.ensures.idle f).1
