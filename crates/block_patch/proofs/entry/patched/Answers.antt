use Rattle.std.proofs.Common.{ap₂, subst, map}
use Rattle.http_message.specs.Reading.{message_view}
use Rattle.json_patch6902.specs.View.{op_view}
use Rattle.spec_messages.specs.Block.{IsBlock}
use Rattle.spec_messages.specs.Outcome.{entry_outcome}
use Rattle.block_patch.specs.Answers.{Runs}
use Rattle.block_patch.proofs.entry.patched.Goals as goal

pub returns-in-Ok-clause-outcome : goal.returns-in-Ok-clause-outcome
returns-in-Ok-clause-outcome c = λ m b.
    let r = c.args.rules.now in
    let start = c.in-Ok.opened.start in
    let there = subst (λ t. IsBlock t r.holes (message_view start.message)) c.in-Ok.ensures.value c.in-Ok.ensures.block in
    let same = c.block_has_one_message.ensures.same c.args.block.now r.holes (message_view start.message) m there b in
    subst (λ x. Runs x c.all_steps.result) (ap₂ (λ j d. entry_outcome r.policy.now r.mapping r.ipx.now r.holes j d (map op_view c.args.operations.now)) c.in-Ok.ensures.value same) c.all_steps.ensures.outcome
