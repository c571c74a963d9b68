use Rattle.std.proofs.Common.{◌∙◌, arith}
use Rattle.http_message.specs.Reading.{message_view}
use Rattle.json_patch6902.specs.View.{op_view}
use Rattle.spec_messages.specs.Outcome.{Ground}
use Rattle.block_patch.specs.Answers.{patched_view}
use Rattle.block_patch.proofs.Entries.{told_later, told_refused, told_number, told_end}
use Rattle.block_patch.proofs.entry.all_steps.Goals as goal

pub loop-i-preserved : goal.loop-i-preserved
loop-i-preserved c =
    let r = c.args.rules.now in
    let l = c.loop-i.invariant in
    let j = c.loop-i.current.doc in
    let m = message_view c.loop-i.current.message in
    let g : Ground = record { policy = r.policy.now; mapping = r.mapping; ipx = r.ipx.now; holes = r.holes; tree = j; clear = m; block = l.block } in
    let a = c.operation_outcome_decides.ensures.made g (op_view c.item.result.now) (patched_view c.in-Ok.next) c.in-Ok.ensures in
    record {
      told = told_later r.policy.now r.mapping r.ipx.now r.holes c.loop-i.i c.args.operations.now c.item.result.now j m (patched_view c.in-Ok.next) _ c.item.ensures c.in-Ok.ensures l.told;
      block = a.block;
      holes = a.still ∙ l.holes;
    }

pub returns : goal.returns
returns c =
    let r = c.args.rules.now in
    let l = c.loop-i.invariant in
    record {
      outcome = told_end r.policy.now r.mapping r.ipx.now r.holes c.loop-i.i c.args.operations.now c.loop-i.current.doc (message_view c.loop-i.current.message) _ (omega arith) l.told;
      block = l.block;
    }

pub returns-in-Err-clause-outcome : goal.returns-in-Err-clause-outcome
returns-in-Err-clause-outcome c =
    let r = c.args.rules.now in
    let i = c.loop-i.i in
    let j = c.loop-i.current.doc in
    let m = message_view c.loop-i.current.message in
    told_number i c.in-Err.fault c.numbered.result _ _ c.in-Err.ensures c.numbered.ensures (λ why e. told_refused r.policy.now r.mapping r.ipx.now r.holes i c.args.operations.now c.item.result.now j m why _ c.item.ensures e c.loop-i.invariant.told)
