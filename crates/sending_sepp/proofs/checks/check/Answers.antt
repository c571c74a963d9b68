use Rattle.context_records.specs.View.{context_view, key_set_view}
use Rattle.spec_records.specs.Records.{open_context, keys}
use Rattle.spec_exchange.specs.SendingRefusals.{ContextNotFound, NoKeys}
use Rattle.spec_exchange.proofs.ChainLemmas.{wanted_ok}
use Rattle.sending_sepp.proofs.checks.check.Goals as goal

pub sent_document-requires-clause-fits : goal.sent_document-requires-clause-fits
sent_document-requires-clause-fits c =
    let node = c.args.node.now in
    let id = c.args.id.value in
    let records = c.args.store.now.records in
    let x = context_view c.in_ok-context.context.now in
    let k = key_set_view c.in_ok-keys.keys.now in
    c.keys_fit_suite.ensures node id records x k (wanted_ok (open_context node id records) ContextNotFound x c.in_ok-context.ensures.value) (wanted_ok (keys node id records) NoKeys k c.in_ok-keys.ensures)
