use Rattle.std.proofs.Common.{length}
use Rattle.spec_messages.specs.Split.{cleared}
use Rattle.spec_messages.specs.Block.{block_tree}
use Rattle.spec_exchange.specs.Calls.{metadata_for}
use Rattle.spec_exchange.specs.Untouched.{id_of, block_of, values_of}
use Rattle.spec_exchange.proofs.SentLemmas.{is_meta-for, split-limits, fill-back}
use Rattle.spec_exchange.proofs.UntouchedLemmas.{untouched}
use Rattle.spec_exchange.proofs.untouched.sealed_message_is_delivered.Goals as goal

pub returns : goal.returns
returns c passes v s node records sendable names are ready =
    let pol = s.context.policy in
    let k = s.mapping in
    let m = s.content in
    let meta = metadata_for s.context (id_of s) in
    let j = block_tree (block_of s) in
    let vs = values_of s in
    let holed = cleared pol k m in
    let block = c.sent_block_is_block.ensures pol k m meta (record {
      whole = sendable.whole;
      ordered = sendable.ordered;
      shallow = sendable.shallow;
      metadata = is_meta-for s.context (id_of s) names sendable.fits;
      limits = split-limits (block_of s) (length vs) sendable.limits;
    }) in
    untouched passes v s node records
    (record {
      fault = c.fault_decides.ensures.none j (length vs) holed block;
      clear = c.block_has_one_message.ensures.computed j (length vs) holed block;
      fill = fill-back vs holed m (c.fill_after_split.ensures pol k m sendable.whole sendable.shallow) (c.fill_fault_decides.ensures.some vs holed) (c.fill_fault_decides.ensures.none vs holed);
    })
    (c.sent_block_is_shallow.ensures pol k m meta sendable.shallow) sendable names are ready
