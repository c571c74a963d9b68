use Rattle.std.proofs.Common.{◌≡◌, None, ap, ap₂, sym, ◌∙◌}
use Rattle.spec_messages.specs.Plain.{empty_policy}
use Rattle.http_message.specs.Reading.{message_view}
use Rattle.spec_messages.specs.Splitting.{splitting}
use Rattle.block_forms.specs.Metadata.{meta_view}
use Rattle.blocks_word.specs.BlockAnswers.{no_meta, or_limit_refusal}
use Rattle.blocks_word.proofs.answering.split_message.Goals as goal

pub returns-in-Ok : goal.returns-in-Ok
returns-in-Ok c =
    let same : splitting empty_policy None (message_view c.args.message.now) no_meta ≡ splitting c.empty.result None (message_view c.args.message.now) (meta_view c.in_ok-meta.meta)
    = ap₂ (λ p meta. splitting p None (message_view c.args.message.now) meta) (sym c.empty.ensures) (sym c.in_ok-meta.ensures) in
    ap or_limit_refusal (same ∙ c.in-Ok.ensures.outcome)

pub returns-in-Err-Limit : goal.returns-in-Err-Limit
returns-in-Err-Limit c =
    let same : splitting empty_policy None (message_view c.args.message.now) no_meta ≡ splitting c.empty.result None (message_view c.args.message.now) (meta_view c.in_ok-meta.meta)
    = ap₂ (λ p meta. splitting p None (message_view c.args.message.now) meta) (sym c.empty.ensures) (sym c.in_ok-meta.ensures) in
    ap or_limit_refusal (same ∙ (rw c.in-Err-Limit.field-0-is at c.in-Err-Limit.ensures.outcome))
