use Rattle.std.proofs.Common.{map, Ok, Err}
use Rattle.json_patch6902.specs.View.{op_view}
use Rattle.jws_flat.specs.View.{entry_view}
use Rattle.block_patch.specs.Answers.{why_view}
use Rattle.entry_checks.specs.Views.{terms_view}
use Rattle.entry_checks.proofs.Operations.{changes_made}
use Rattle.entry_checks.proofs.changes.make_changes.Goals as goal

pub returns-in-Ok-apply_entry-clause-changes : goal.returns-in-Ok-apply_entry-clause-changes
returns-in-Ok-apply_entry-clause-changes c = λ b.
    let made = c.in-Ok-apply_entry.ensures.answer b in
    record {
      holed = made.message;
      made = changes_made (terms_view c.args.terms.now b.holes) (entry_view c.args.entry.now) c.args.block.now b.clear (map op_view c.in-Ok.operations) (Ok (c.apply_entry.new.block, made.message)) c.in-Ok.ensures.operations made.outcome;
      block = made.block;
    }

pub returns-in-Err-Operation-clause-changes : goal.returns-in-Err-Operation-clause-changes
returns-in-Err-Operation-clause-changes c = λ b.
    let refused = rw c.in-Err-Operation.field-0-is at c.in-Err-Operation.ensures.answer b in
    changes_made (terms_view c.args.terms.now b.holes) (entry_view c.args.entry.now) c.args.block.now b.clear (map op_view c.in-Ok.operations) (Err (c.in-Err-Operation.number, why_view c.in-Err-Operation.why)) c.in-Ok.ensures.operations refused.outcome
