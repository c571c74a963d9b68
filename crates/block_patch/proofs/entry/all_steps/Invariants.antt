use Rattle.std.proofs.Common.{◌≡◌, suc, map, drop, Ok}
use Rattle.spec_documents.specs.Hole.{places}
use Rattle.spec_messages.specs.Block.{IsBlock}
use Rattle.spec_messages.specs.Outcome.{outcome_from, entry_outcome}
use Rattle.http_message.specs.Reading.{message_view}
use Rattle.json_patch6902.specs.View.{op_view}
use Rattle.block_patch.proofs.entry.all_steps.Given as goal

-- what the operations from i on make of the block so far is what all make of the first
abbrev pub invariant-loop-i : goal.invariant-loop-i
invariant-loop-i l = record {
  told : outcome_from l.rules.policy.now l.rules.mapping l.rules.ipx.now l.rules.holes (suc l.i) (map op_view (drop l.i l.operations)) l.current.doc (message_view l.current.message)
      ≡ entry_outcome l.rules.policy.now l.rules.mapping l.rules.ipx.now l.rules.holes l.fn.start.doc (message_view l.fn.start.message) (map op_view l.operations);
  block : IsBlock l.current.doc l.rules.holes (message_view l.current.message);
  holes : places l.current.doc l.rules.holes ≡ Ok l.holes;
}
