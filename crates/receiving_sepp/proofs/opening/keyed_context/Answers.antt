use Rattle.context_records.specs.View.{context_view, key_set_view}
use Rattle.spec_records.specs.Records.{open_context, keys}
use Rattle.spec_exchange.specs.ReceivingRefusals.{NoContext, NoReceiveKeys}
use Rattle.spec_exchange.proofs.AcceptLemmas.{stage_ok}
use Rattle.spec_exchange.proofs.ChainLemmas.{wanted_ok}
use Rattle.receiving_sepp.proofs.opening.keyed_context.Goals as goal

pub returns-clause-fit : goal.returns-clause-fit
returns-clause-fit c =
    let node = c.args.node.now in
    let id = c.args.id.value in
    let records = c.args.store.now.records in
    let x = context_view c.in_ok-context.context.now in
    let k = key_set_view c.in_ok-keys.keys.now in
    c.keys_fit_suite.ensures node id records x k (wanted_ok (open_context node id records) NoContext x (stage_ok _ x c.in_ok-context.ensures.context)) (wanted_ok (keys node id records) NoReceiveKeys k (stage_ok _ k c.in_ok-keys.ensures))
