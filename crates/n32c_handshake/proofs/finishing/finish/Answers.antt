use Rattle.std.proofs.Common.{◌≡◌, false, Ok, Err, List, ap, subst, refl, ◌∙◌}
use Rattle.std.proofs.lemmas.Result.{err_from_is_err_and}
use Rattle.std.proofs.lemmas.Bool.{false_from_ne_true}
use Rattle.spec_documents.specs.Gives.{Tells}
use Rattle.spec_records.specs.Records.{Record, Opened}
use Rattle.spec_handshake.specs.Calls.{finishes, OpenedAs, Next, EndedTls}
use Rattle.n32_values.specs.View.{tree_of}
use Rattle.context_records.specs.View.{context_view}
use Rattle.n32c_handshake.specs.declared.finishing.Finished.TheVariants as finished
use Rattle.n32c_handshake.specs.declared.finishing.Progress.TheVariants as progress
use Rattle.n32c_handshake.specs.Faults.{told}
use Rattle.n32c_handshake.specs.Progress.{FinishesOut, Leaves, left, after_put_starts}
use Rattle.n32c_handshake.proofs.Calls.{passed_put}
use Rattle.n32c_handshake.proofs.Leaving.{awaits, unread, refused, given, put}
use Rattle.n32c_handshake.proofs.finishing.finish.Goals as goal

pub returns-in_err-refresh-clause-finishes : goal.returns-in_err-refresh-clause-finishes
returns-in_err-refresh-clause-finishes g c =
    let p = err_from_is_err_and c.from_residual.result c.from_residual.ensures.1 in
    let e = c.in_err-refresh.ensures in
    let before : c.args.store.now.fresh ≡ false = false_from_ne_true c.args.store.now.fresh (λ f. let idle = (e.idle f).0 in cc) in
    rw (p.1, p.2) (unread (g.K.Keeper.held c.args.keeper.now) (g.K.Keeper.held c.refresh.new.keeper) c.args.store.now c.refresh.new.self c.args.hands.now c.args.node.now c.args.plmn.now c.args.document.now c.in_err-refresh.field-0.0
    e.same before e.stale e.journal)

pub returns-in_err-document-clause-finishes : goal.returns-in_err-document-clause-finishes
returns-in_err-document-clause-finishes g c =
    let p = err_from_is_err_and c.from_residual-in_err-document.result c.from_residual-in_err-document.ensures.1 in
    let e = c.in_ok-refresh.ensures in
    let checks = subst (λ t. Tells (told c.in_err-document.field-0.0) (finishes c.refresh.new.self.records c.args.hands.now c.args.node.now c.args.plmn.now t)) c.node.ensures.value c.in_err-document.ensures.checks in
    let leaves = subst (λ t. c.take_reply.new.hands ≡ left (awaits c.args.node.now t) c.args.hands.now (told c.in_err-document.field-0.0)) c.node.ensures.value c.in_err-document.ensures.leaves in
    rw (p.1, p.2) (refused (g.K.Keeper.held c.args.keeper.now) (g.K.Keeper.held c.refresh.new.keeper) c.args.store.now c.refresh.new.self c.args.hands.now c.take_reply.new.hands c.args.node.now c.args.plmn.now c.args.document.now c.in_err-document.field-0.0
    (record { told = e.same; holds = e.consistent e.fresh; few = e.few; fresh = e.fresh; same = λ f. (e.idle f).1 }) checks leaves)

pub returns-in_err-open-in-Opens-clause-finishes : goal.returns-in_err-open-in-Opens-clause-finishes
returns-in_err-open-in-Opens-clause-finishes g c =
    let p = err_from_is_err_and c.from_residual-in_err-open-in-Opens.result c.from_residual-in_err-open-in-Opens.ensures.1 in
    let e = c.in_ok-refresh.ensures in
    let checks_there = subst (λ x. FinishesOut c.refresh.new.self.records (finishes c.refresh.new.self.records c.args.hands.now c.args.node.now c.args.plmn.now (tree_of c.node.result.now)) (Ok x)) c.in-Opens.is c.in_ok-document.ensures.checks in
    let leaves_there = subst (λ x. Leaves (awaits c.args.node.now (tree_of c.node.result.now)) c.args.hands.now c.take_reply.new.hands (Ok x)) c.in-Opens.is c.in_ok-document.ensures.leaves in
    let checks = subst (λ t. FinishesOut c.refresh.new.self.records (finishes c.refresh.new.self.records c.args.hands.now c.args.node.now c.args.plmn.now t) (Ok (progress.Opens c.in-Opens.at c.in-Opens.context))) c.node.ensures.value checks_there in
    let leaves = subst (λ t. Leaves (awaits c.args.node.now t) c.args.hands.now c.take_reply.new.hands (Ok (progress.Opens c.in-Opens.at c.in-Opens.context))) c.node.ensures.value leaves_there in
    rw (p.1, p.2) (put (g.K.Keeper.held c.args.keeper.now) (g.K.Keeper.held c.refresh.new.keeper) (g.K.Keeper.held c.open.new.keeper) c.args.store.now c.refresh.new.self c.open.new.store c.args.hands.now c.open.new.hands c.args.node.now c.args.plmn.now c.args.document.now (finished.Opened c.in-Opens.context.id) (context_view c.in-Opens.context) c.in-Opens.at (Err c.in_err-open-in-Opens.field-0.0)
    (record { told = e.same; holds = e.consistent e.fresh; few = e.few; fresh = e.fresh; same = λ f. (e.idle f).1 }) checks refl c.in_err-open-in-Opens.ensures.keeps leaves.2 (c.in_err-open-in-Opens.ensures.waits ∙ ap (λ z. after_put_starts c.in-Opens.at z (Err c.in_err-open-in-Opens.field-0.0)) leaves.0))

pub returns-in_err-open-in-Opens-clause-last : goal.returns-in_err-open-in-Opens-clause-last
returns-in_err-open-in-Opens-clause-last g c = λ is f.
    let p = err_from_is_err_and c.from_residual-in_err-open-in-Opens.result c.from_residual-in_err-open-in-Opens.ensures.1 in
    let checks_there = subst (λ x. FinishesOut c.refresh.new.self.records (finishes c.refresh.new.self.records c.args.hands.now c.args.node.now c.args.plmn.now (tree_of c.node.result.now)) (Ok x)) c.in-Opens.is c.in_ok-document.ensures.checks in
    let leaves_there = subst (λ x. Leaves (awaits c.args.node.now (tree_of c.node.result.now)) c.args.hands.now c.take_reply.new.hands (Ok x)) c.in-Opens.is c.in_ok-document.ensures.leaves in
    let checks = subst (λ t. FinishesOut c.refresh.new.self.records (finishes c.refresh.new.self.records c.args.hands.now c.args.node.now c.args.plmn.now t) (Ok (progress.Opens c.in-Opens.at c.in-Opens.context))) c.node.ensures.value checks_there in
    let leaves = subst (λ t. Leaves (awaits c.args.node.now t) c.args.hands.now c.take_reply.new.hands (Ok (progress.Opens c.in-Opens.at c.in-Opens.context))) c.node.ensures.value leaves_there in
    passed_put (λ (records : List Record). finishes records c.args.hands.now c.args.node.now c.args.plmn.now c.args.document.now) (g.K.Keeper.held c.refresh.new.keeper) (g.K.Keeper.held c.open.new.keeper) c.args.store.now c.refresh.new.self c.open.new.store (OpenedAs (context_view c.in-Opens.context)) (Opened (context_view c.in-Opens.context)) (Err c.in_err-open-in-Opens.field-0.0)
    checks c.in_err-open-in-Opens.ensures.keeps (cc (p.1, p.2, is)) (c.in_ok-refresh.ensures.idle f).1

pub returns-in-Next-clause-finishes : goal.returns-in-Next-clause-finishes
returns-in-Next-clause-finishes g c =
    let e = c.in_ok-refresh.ensures in
    let checks_there = subst (λ x. FinishesOut c.refresh.new.self.records (finishes c.refresh.new.self.records c.args.hands.now c.args.node.now c.args.plmn.now (tree_of c.node.result.now)) (Ok x)) c.in-Next.is c.in_ok-document.ensures.checks in
    let leaves_there = subst (λ x. Leaves (awaits c.args.node.now (tree_of c.node.result.now)) c.args.hands.now c.take_reply.new.hands (Ok x)) c.in-Next.is c.in_ok-document.ensures.leaves in
    let checks = subst (λ t. FinishesOut c.refresh.new.self.records (finishes c.refresh.new.self.records c.args.hands.now c.args.node.now c.args.plmn.now t) (Ok (progress.Next c.in-Next.document))) c.node.ensures.value checks_there in
    let leaves = subst (λ t. Leaves (awaits c.args.node.now t) c.args.hands.now c.take_reply.new.hands (Ok (progress.Next c.in-Next.document))) c.node.ensures.value leaves_there in
    given (g.K.Keeper.held c.args.keeper.now) (g.K.Keeper.held c.refresh.new.keeper) c.args.store.now c.refresh.new.self c.args.hands.now c.take_reply.new.hands c.args.node.now c.args.plmn.now c.args.document.now (finished.Next c.in-Next.document) (Next checks.0)
    (record { told = e.same; holds = e.consistent e.fresh; few = e.few; fresh = e.fresh; same = λ f. (e.idle f).1 }) checks.1 refl checks.2 leaves

pub returns-in-EndedTls-clause-finishes : goal.returns-in-EndedTls-clause-finishes
returns-in-EndedTls-clause-finishes g c =
    let e = c.in_ok-refresh.ensures in
    let checks_there = subst (λ x. FinishesOut c.refresh.new.self.records (finishes c.refresh.new.self.records c.args.hands.now c.args.node.now c.args.plmn.now (tree_of c.node.result.now)) (Ok x)) c.in-EndedTls.is c.in_ok-document.ensures.checks in
    let leaves_there = subst (λ x. Leaves (awaits c.args.node.now (tree_of c.node.result.now)) c.args.hands.now c.take_reply.new.hands (Ok x)) c.in-EndedTls.is c.in_ok-document.ensures.leaves in
    let checks = subst (λ t. FinishesOut c.refresh.new.self.records (finishes c.refresh.new.self.records c.args.hands.now c.args.node.now c.args.plmn.now t) (Ok (progress.EndedTls))) c.node.ensures.value checks_there in
    let leaves = subst (λ t. Leaves (awaits c.args.node.now t) c.args.hands.now c.take_reply.new.hands (Ok (progress.EndedTls))) c.node.ensures.value leaves_there in
    given (g.K.Keeper.held c.args.keeper.now) (g.K.Keeper.held c.refresh.new.keeper) c.args.store.now c.refresh.new.self c.args.hands.now c.take_reply.new.hands c.args.node.now c.args.plmn.now c.args.document.now finished.EndedTls EndedTls
    (record { told = e.same; holds = e.consistent e.fresh; few = e.few; fresh = e.fresh; same = λ f. (e.idle f).1 }) checks refl tt leaves

pub returns-in_ok-open-in-Opens-clause-finishes : goal.returns-in_ok-open-in-Opens-clause-finishes
returns-in_ok-open-in-Opens-clause-finishes g c =
    let e = c.in_ok-refresh.ensures in
    let checks_there = subst (λ x. FinishesOut c.refresh.new.self.records (finishes c.refresh.new.self.records c.args.hands.now c.args.node.now c.args.plmn.now (tree_of c.node.result.now)) (Ok x)) c.in-Opens.is c.in_ok-document.ensures.checks in
    let leaves_there = subst (λ x. Leaves (awaits c.args.node.now (tree_of c.node.result.now)) c.args.hands.now c.take_reply.new.hands (Ok x)) c.in-Opens.is c.in_ok-document.ensures.leaves in
    let checks = subst (λ t. FinishesOut c.refresh.new.self.records (finishes c.refresh.new.self.records c.args.hands.now c.args.node.now c.args.plmn.now t) (Ok (progress.Opens c.in-Opens.at c.in-Opens.context))) c.node.ensures.value checks_there in
    let leaves = subst (λ t. Leaves (awaits c.args.node.now t) c.args.hands.now c.take_reply.new.hands (Ok (progress.Opens c.in-Opens.at c.in-Opens.context))) c.node.ensures.value leaves_there in
    put (g.K.Keeper.held c.args.keeper.now) (g.K.Keeper.held c.refresh.new.keeper) (g.K.Keeper.held c.open.new.keeper) c.args.store.now c.refresh.new.self c.open.new.store c.args.hands.now c.open.new.hands c.args.node.now c.args.plmn.now c.args.document.now (finished.Opened c.in-Opens.context.id) (context_view c.in-Opens.context) c.in-Opens.at (Ok c.in_ok-open-in-Opens.field-0)
    (record { told = e.same; holds = e.consistent e.fresh; few = e.few; fresh = e.fresh; same = λ f. (e.idle f).1 }) checks refl c.in_ok-open-in-Opens.ensures.keeps leaves.2 (c.in_ok-open-in-Opens.ensures.waits ∙ ap (λ z. after_put_starts c.in-Opens.at z (Ok c.in_ok-open-in-Opens.field-0)) leaves.0)
