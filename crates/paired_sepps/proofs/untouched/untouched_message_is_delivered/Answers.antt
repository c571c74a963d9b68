use Rattle.std.proofs.Common.{Option, subst, IsTrue}
use Rattle.spec_documents.specs.Tree.{Tree}
use Rattle.spec_messages.specs.Block.{is_ordered_body}
use Rattle.spec_messages.specs.Message.{Message}
use Rattle.http_message.specs.Reading.{message_view}
use Rattle.paired_sepps.specs.Untouched.{IsBodyDocument}
use Rattle.paired_sepps.proofs.Answered.{answered_values}
use Rattle.paired_sepps.proofs.untouched.untouched_message_is_delivered.Goals as goal

pub returns : goal.returns
returns c o kind answers passes v here peer s x k e is_open has_keys ready =
    let m : Message = message_view c.args.message.now in
    let body : IsBodyDocument m.body = subst IsBodyDocument c.body.ensures c.body_is_document.ensures.document in
    let ordered : IsTrue (is_ordered_body m.body) = subst (λ (b : Option Tree). IsTrue (is_ordered_body b)) c.body.ensures c.body_is_document.ensures.ordered in
    let names = c.context_is_named.ensures x is_open in
    let are = answered_values c.args.store.now.records c.args.node.now c.args.id.value o m s x k c.requires.whole ordered c.requires.shallow kind answers e is_open has_keys body names (c.context_has_keys.ensures k has_keys) in
    c.answered_message_is_delivered.ensures passes v c.args.store.now.records here c.args.node.now peer c.args.id.value o m s x k c.requires.whole ordered c.requires.shallow kind answers e is_open has_keys names are ready
