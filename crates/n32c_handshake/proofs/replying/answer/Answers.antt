use Rattle.std.proofs.Common.{◌≡◌, false, List, Ok, Err, subst, refl}
use Rattle.std.proofs.lemmas.Result.{err_from_is_err_and}
use Rattle.std.proofs.lemmas.Bool.{false_from_ne_true}
use Rattle.spec_documents.specs.Gives.{Tells}
use Rattle.spec_records.specs.Records.{Record, Opened}
use Rattle.spec_handshake.specs.Calls.{replies, put_reply, Chose, OpenedBy}
use Rattle.context_records.specs.View.{context_view}
use Rattle.n32c_handshake.specs.declared.replying.Replied.TheVariants as replied
use Rattle.n32c_handshake.specs.declared.replying.Reply.TheVariants as reply
use Rattle.n32_values.specs.View.{tree_of}
use Rattle.n32c_handshake.specs.View.{offer_view}
use Rattle.n32c_handshake.specs.Faults.{told}
use Rattle.n32c_handshake.specs.Replies.{IsReplied, RepliesOut}
use Rattle.n32c_handshake.proofs.Calls.{unread, refused, given, put, passed_put}
use Rattle.n32c_handshake.proofs.replying.answer.Goals as goal

pub returns-in_err-refresh-clause-replies : goal.returns-in_err-refresh-clause-replies
returns-in_err-refresh-clause-replies g c =
    let p = err_from_is_err_and c.from_residual.result c.from_residual.ensures.1 in
    let e = c.in_err-refresh.ensures in
    let before : c.args.store.now.fresh ≡ false = false_from_ne_true c.args.store.now.fresh (λ f. let idle = (e.idle f).0 in cc) in
    rw (p.1, p.2) (unread IsReplied (λ (records : List Record). replies records c.args.node.now c.args.plmn.now (offer_view c.args.offer) c.args.document.now) put_reply (g.K.Keeper.held c.args.keeper.now) (g.K.Keeper.held c.refresh.new.keeper) c.args.store.now c.refresh.new.self c.in_err-refresh.field-0.0
    e.same before e.stale e.journal)

pub returns-in_err-document-clause-replies : goal.returns-in_err-document-clause-replies
returns-in_err-document-clause-replies g c =
    let p = err_from_is_err_and c.from_residual-in_err-document.result c.from_residual-in_err-document.ensures.1 in
    let e = c.in_ok-refresh.ensures in
    rw (p.1, p.2) (refused IsReplied (λ (records : List Record). replies records c.args.node.now c.args.plmn.now (offer_view c.args.offer) c.args.document.now) put_reply (g.K.Keeper.held c.args.keeper.now) (g.K.Keeper.held c.refresh.new.keeper) c.args.store.now c.refresh.new.self c.in_err-document.field-0.0
    (record { told = e.same; holds = e.consistent e.fresh; few = e.few; fresh = e.fresh; same = λ f. (e.idle f).1 })
    (subst (λ t. Tells (told c.in_err-document.field-0.0) (replies c.refresh.new.self.records c.args.node.now c.args.plmn.now (offer_view c.args.offer) t)) c.node.ensures.value c.in_err-document.ensures.checks))

pub returns-in_err-keep_opened-in-Opens-clause-replies : goal.returns-in_err-keep_opened-in-Opens-clause-replies
returns-in_err-keep_opened-in-Opens-clause-replies g c =
    let p = err_from_is_err_and c.from_residual-in_err-keep_opened-in-Opens.result c.from_residual-in_err-keep_opened-in-Opens.ensures.1 in
    let e = c.in_ok-refresh.ensures in
    let there = subst (λ x. RepliesOut c.refresh.new.self.records (replies c.refresh.new.self.records c.args.node.now c.args.plmn.now (offer_view c.args.offer) (tree_of c.node.result.now)) (Ok x)) c.in-Opens.is c.in_ok-document.ensures.checks in
    let k = subst (λ t. RepliesOut c.refresh.new.self.records (replies c.refresh.new.self.records c.args.node.now c.args.plmn.now (offer_view c.args.offer) t) (Ok (reply.Opens c.in-Opens.document c.in-Opens.context))) c.node.ensures.value there in
    rw (p.1, p.2) (put IsReplied (λ (records : List Record). replies records c.args.node.now c.args.plmn.now (offer_view c.args.offer) c.args.document.now) put_reply (g.K.Keeper.held c.args.keeper.now) (g.K.Keeper.held c.refresh.new.keeper) (g.K.Keeper.held c.keep_opened.new.keeper) c.args.store.now c.refresh.new.self c.keep_opened.new.store (replied.Opened c.in-Opens.document c.in-Opens.context.id) (OpenedBy k.0 (context_view c.in-Opens.context)) (Opened (context_view c.in-Opens.context)) (OpenedBy k.0 (context_view c.in-Opens.context)) (Err c.in_err-keep_opened-in-Opens.field-0.0)
    (record { told = e.same; holds = e.consistent e.fresh; few = e.few; fresh = e.fresh; same = λ f. (e.idle f).1 }) k.1 (λ q. refl) (k.2, refl) c.in_err-keep_opened-in-Opens.ensures.keeps)

pub returns-in_err-keep_opened-in-Opens-clause-last : goal.returns-in_err-keep_opened-in-Opens-clause-last
returns-in_err-keep_opened-in-Opens-clause-last g c = λ is f.
    let p = err_from_is_err_and c.from_residual-in_err-keep_opened-in-Opens.result c.from_residual-in_err-keep_opened-in-Opens.ensures.1 in
    let there = subst (λ x. RepliesOut c.refresh.new.self.records (replies c.refresh.new.self.records c.args.node.now c.args.plmn.now (offer_view c.args.offer) (tree_of c.node.result.now)) (Ok x)) c.in-Opens.is c.in_ok-document.ensures.checks in
    let k = subst (λ t. RepliesOut c.refresh.new.self.records (replies c.refresh.new.self.records c.args.node.now c.args.plmn.now (offer_view c.args.offer) t) (Ok (reply.Opens c.in-Opens.document c.in-Opens.context))) c.node.ensures.value there in
    passed_put (λ (records : List Record). replies records c.args.node.now c.args.plmn.now (offer_view c.args.offer) c.args.document.now) (g.K.Keeper.held c.refresh.new.keeper) (g.K.Keeper.held c.keep_opened.new.keeper) c.args.store.now c.refresh.new.self c.keep_opened.new.store (OpenedBy k.0 (context_view c.in-Opens.context)) (Opened (context_view c.in-Opens.context)) (Err c.in_err-keep_opened-in-Opens.field-0.0)
    k.1 c.in_err-keep_opened-in-Opens.ensures.keeps (cc (p.1, p.2, is)) (c.in_ok-refresh.ensures.idle f).1

pub returns-in-Chose-clause-replies : goal.returns-in-Chose-clause-replies
returns-in-Chose-clause-replies g c =
    let e = c.in_ok-refresh.ensures in
    let there = subst (λ x. RepliesOut c.refresh.new.self.records (replies c.refresh.new.self.records c.args.node.now c.args.plmn.now (offer_view c.args.offer) (tree_of c.node.result.now)) (Ok x)) c.in-Chose.is c.in_ok-document.ensures.checks in
    let k = subst (λ t. RepliesOut c.refresh.new.self.records (replies c.refresh.new.self.records c.args.node.now c.args.plmn.now (offer_view c.args.offer) t) (Ok (reply.Chose c.in-Chose.document))) c.node.ensures.value there in
    given IsReplied (λ (records : List Record). replies records c.args.node.now c.args.plmn.now (offer_view c.args.offer) c.args.document.now) put_reply (g.K.Keeper.held c.args.keeper.now) (g.K.Keeper.held c.refresh.new.keeper) c.args.store.now c.refresh.new.self (replied.Selected c.in-Chose.document) (Chose k.0) (Chose k.0)
    (record { told = e.same; holds = e.consistent e.fresh; few = e.few; fresh = e.fresh; same = λ f. (e.idle f).1 }) k.1 refl k.2

pub returns-in_ok-keep_opened-in-Opens-clause-replies : goal.returns-in_ok-keep_opened-in-Opens-clause-replies
returns-in_ok-keep_opened-in-Opens-clause-replies g c =
    let e = c.in_ok-refresh.ensures in
    let there = subst (λ x. RepliesOut c.refresh.new.self.records (replies c.refresh.new.self.records c.args.node.now c.args.plmn.now (offer_view c.args.offer) (tree_of c.node.result.now)) (Ok x)) c.in-Opens.is c.in_ok-document.ensures.checks in
    let k = subst (λ t. RepliesOut c.refresh.new.self.records (replies c.refresh.new.self.records c.args.node.now c.args.plmn.now (offer_view c.args.offer) t) (Ok (reply.Opens c.in-Opens.document c.in-Opens.context))) c.node.ensures.value there in
    put IsReplied (λ (records : List Record). replies records c.args.node.now c.args.plmn.now (offer_view c.args.offer) c.args.document.now) put_reply (g.K.Keeper.held c.args.keeper.now) (g.K.Keeper.held c.refresh.new.keeper) (g.K.Keeper.held c.keep_opened.new.keeper) c.args.store.now c.refresh.new.self c.keep_opened.new.store (replied.Opened c.in-Opens.document c.in-Opens.context.id) (OpenedBy k.0 (context_view c.in-Opens.context)) (Opened (context_view c.in-Opens.context)) (OpenedBy k.0 (context_view c.in-Opens.context)) (Ok c.in_ok-keep_opened-in-Opens.field-0)
    (record { told = e.same; holds = e.consistent e.fresh; few = e.few; fresh = e.fresh; same = λ f. (e.idle f).1 }) k.1 (λ q. refl) (k.2, refl) c.in_ok-keep_opened-in-Opens.ensures.keeps
