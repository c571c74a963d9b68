use Rattle.std.proofs.Common.{ap, sym}
use Rattle.spec_messages.specs.Block.{block_of}
use Rattle.spec_messages.specs.Policy.{values}
use Rattle.spec_messages.specs.Split.{cleared}
use Rattle.http_message.specs.Reading.{message_view}
use Rattle.block_forms.specs.Metadata.{meta_view}
use Rattle.block_forms.specs.Faults.{limit_view}
use Rattle.sending_sepp.proofs.Limits.{passed, kept, parts_are}
use Rattle.sending_sepp.proofs.splitting.split_message.Goals as goal

pub returns-in-Ok-clause-limit : goal.returns-in-Ok-clause-limit
returns-in-Ok-clause-limit c =
    let m = message_view c.args.message.now in
    kept (block_of (cleared c.args.policy.now c.args.mapping m) (meta_view c.args.meta)) (values c.args.policy.now c.args.mapping m) (c.in-Ok.parts.block, c.in-Ok.parts.values) c.in-Ok.ensures.outcome

pub returns-in-Ok-clause-block : goal.returns-in-Ok-clause-block
returns-in-Ok-clause-block c =
    let m = message_view c.args.message.now in
    sym (ap (λ p. p.0) (parts_are (block_of (cleared c.args.policy.now c.args.mapping m) (meta_view c.args.meta)) (values c.args.policy.now c.args.mapping m) (c.in-Ok.parts.block, c.in-Ok.parts.values) c.in-Ok.ensures.outcome))

pub returns-in-Ok-clause-values : goal.returns-in-Ok-clause-values
returns-in-Ok-clause-values c =
    let m = message_view c.args.message.now in
    sym (ap (λ p. p.1) (parts_are (block_of (cleared c.args.policy.now c.args.mapping m) (meta_view c.args.meta)) (values c.args.policy.now c.args.mapping m) (c.in-Ok.parts.block, c.in-Ok.parts.values) c.in-Ok.ensures.outcome))

pub returns-in-Err-Limit-clause-limit : goal.returns-in-Err-Limit-clause-limit
returns-in-Err-Limit-clause-limit c =
    let m = message_view c.args.message.now in
    passed (block_of (cleared c.args.policy.now c.args.mapping m) (meta_view c.args.meta)) (values c.args.policy.now c.args.mapping m) (limit_view c.in-Err-Limit.name) (rw c.in-Err-Limit.field-0-is at c.in-Err-Limit.ensures.outcome)
