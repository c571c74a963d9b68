use Rattle.std.proofs.Common.{ℕ, ap, ◌∙◌, subst}
use Rattle.spec_documents.specs.Tree.{Tree}
use Rattle.block_forms.specs.Faults.{Refuses}
use Rattle.spec_messages.specs.Fault.{block_fault}
use Rattle.block_patch.specs.Answers.{Reads, keeps_holes}
use Rattle.block_patch.proofs.Results.{refused_read}
use Rattle.block_patch.proofs.step.read_again.Goals as goal

pub returns-in-Ok : goal.returns-in-Ok
returns-in-Ok c =
    subst (λ (r : Tree × ℕ). Reads (keeps_holes r.1 c.args.holes.now r.0) c.message_of.result) (c.in-Ok.ensures.0 ∙ ap (λ (t : Tree). (t, c.args.count)) c.in_ok-copy.ensures) c.message_of.ensures

pub returns-in-Err-Refused : goal.returns-in-Err-Refused
returns-in-Err-Refused c =
    refused_read c.args.count c.args.holes.now c.args.doc.now c.in-Err-Refused.field-0 c.in-Err-Refused.field-0-is
    (subst (λ (t : Tree). Refuses c.in-Err-Refused.field-0 (block_fault t c.args.count)) c.in_ok-copy.ensures c.in-Err-Refused.ensures)
