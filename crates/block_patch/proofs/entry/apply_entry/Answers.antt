use Rattle.std.proofs.Common.{◌≡◌, Ok, sym, subst, map}
use Rattle.http_message.specs.Reading.{message_view}
use Rattle.json_patch6902.specs.View.{op_view}
use Rattle.spec_messages.specs.Split.{fill_whole}
use Rattle.spec_messages.specs.Block.{IsBlock}
use Rattle.spec_messages.specs.Outcome.{entry_outcome}
use Rattle.spec_messages.specs.Steps.{EntryStep, ChainStep, EntryKept}
use Rattle.spec_messages.proofs.FilledStands.{fill_parts_of}
use Rattle.block_patch.specs.Answers.{Made}
use Rattle.block_patch.specs.Commutes.{BlockOf, ground, entry_step}
use Rattle.block_patch.proofs.Entries.{told_of, block_of, one_entry, one_chain, refused}
use Rattle.block_patch.proofs.entry.apply_entry.Goals as goal

pub into_block-requires : goal.into_block-requires
into_block-requires c = c.fault_decides.ensures.none c.in-Ok.made.doc c.holes.result (message_view c.in-Ok.made.message) c.in-Ok.ensures.block

pub returns-in-Ok : goal.returns-in-Ok
returns-in-Ok c =
    let pol = c.args.policy.now in
    let k = c.args.mapping in
    let ipx = c.args.ipx.now in
    let j = c.args.block.now in
    let n = c.holes.result in
    let ops = map op_view c.args.operations.now in
    let w = c.into_block.result in
    let d = message_view c.in-Ok.made.message in
    let made : (b : BlockOf j) → Made (ground pol k ipx j b) ops w = λ b.
    let g = ground pol k ipx j b in
    let told = λ (m : _) (is : IsBlock j n m). subst (λ t. entry_outcome pol k ipx n j m ops ≡ Ok (t, d)) (sym c.into_block.ensures.value) (c.in-Ok.ensures.outcome m is) in
    let outcome = told_of pol k ipx ops j n b (Ok (w, d)) c.holes.ensures told in
    record {
      message = d;
      outcome = outcome;
      applied = c.entry_outcome_decides.ensures.made g ops (w, d) outcome;
      block = block_of j n b w d c.holes.ensures (subst (λ t. IsBlock t n d) (sym c.into_block.ensures.value) c.in-Ok.ensures.block);
    } in
    let step : (b : BlockOf j) → EntryStep = λ b. entry_step (ground pol k ipx j b) ops w d (made b).applied in
    let chain : (b : BlockOf j) → ChainStep = λ b. one_chain (step b) in
    let law = c.patching_commutes_with_filling.ensures in
    record {
      answer = made;
      as_before = tt;
      filled = λ b. record {
        message = d;
        applied = (made b).applied;
        holds = record {
          tree = λ f. one_entry ops _ _ (law.tree (chain b) f);
          before = λ f. law.tree_before (chain b) f;
          after = λ f. law.tree_after (chain b) f;
          message = λ f. law.filled (chain b) f;
          stands = λ f o. law.stands (chain b) f o;
        };
      };
      values = λ b. record {
        message = d;
        applied = (made b).applied;
        holds = record { before = λ f h. law.value_before (chain b) f h; after = λ f h. law.value_after (chain b) f h };
      };
      changes = λ b. record {
        message = d;
        applied = (made b).applied;
        holds = record {
          modifiable = c.entries_keep.ensures.modifiable (step b);
          kept = λ f o. subst (λ m. EntryKept (step b) m (fill_whole f.values d)) (fill_parts_of b.clear f.values f.full f.is).1 (c.entries_keep.ensures.entry (step b) f.values o);
        };
      };
    }

pub returns-in-Err-clause-answer : goal.returns-in-Err-clause-answer
returns-in-Err-clause-answer c = λ b.
    refused c.args.policy.now c.args.mapping c.args.ipx.now (map op_view c.args.operations.now) c.args.block.now c.holes.result b c.in-Err.fault c.holes.ensures c.in-Err.ensures.outcome
    (λ g i why e. c.entry_outcome_decides.ensures.refused g (map op_view c.args.operations.now) i why e)
