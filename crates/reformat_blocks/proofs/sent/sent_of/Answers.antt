use Rattle.std.proofs.Common.{◌≡◌, IfOk, length, ap, sym, subst, refl, ◌∙◌, ℕ, List}
use Rattle.spec_documents.specs.Tree.{Tree}
use Rattle.spec_messages.specs.Block.{sent_block, body_leaves, head_text, line_members}
use Rattle.spec_messages.specs.Message.{request}
use Rattle.spec_messages.specs.Policy.{values, line_secrets}
use Rattle.spec_messages.specs.Split.{cleared, hide_head}
use Rattle.n32_values.specs.View.{tree_of}
use Rattle.http_message.specs.Reading.{message_view, request_line}
use Rattle.http_message.specs.declared.message.Message.TheVariants.{Request, Response}
use Rattle.block_forms.specs.Metadata.{meta_view}
use Rattle.policy_tables.specs.Covered.{Asked}
use Rattle.reformat_blocks.specs.Sent.{stood}
use Rattle.reformat_blocks.proofs.Assembled.{assembled_block, assembled_items, assembled_values}
use Rattle.reformat_blocks.proofs.sent.sent_of.Goals as goal

pub returns-in_ok-line-in-Request-clause-block : goal.returns-in_ok-line-in-Request-clause-block
returns-in_ok-line-in-Request-clause-block c =
    let pol = c.args.policy.now in
    let k = c.args.mapping in
    let m = message_view (Request c.in-Request.request) in
    let known = c.in_ok-rules-in-Request.ensures in
    let lined = c.in_ok-line-in-Request.ensures.line ∙ ap (λ (a : Asked). line_members (head_text (hide_head a.policy a.mapping a.kind (request (request_line c.in-Request.request))))) known in
    let lined_values = c.in_ok-line-in-Request.ensures.values ∙ ap (λ (a : Asked). stood (line_secrets a.policy a.mapping a.kind (request (request_line c.in-Request.request)))) known in
    let is = assembled_block pol k m (meta_view c.args.meta.now) c.hidden_line.new.values _ lined_values lined
    ∙ ap (λ x. sent_block pol k (message_view x) (meta_view c.args.meta.now)) (sym c.in-Request.is) in
    subst (λ (t : Tree). IfOk c.sent_after.result (λ s. tree_of s.block ≡ t)) is (rw known at c.sent_after.ensures.block)

pub returns-in_ok-line-in-Request-clause-items : goal.returns-in_ok-line-in-Request-clause-items
returns-in_ok-line-in-Request-clause-items c =
    let pol = c.args.policy.now in
    let k = c.args.mapping in
    let m = message_view (Request c.in-Request.request) in
    let known = c.in_ok-rules-in-Request.ensures in
    let lined_values = c.in_ok-line-in-Request.ensures.values ∙ ap (λ (a : Asked). stood (line_secrets a.policy a.mapping a.kind (request (request_line c.in-Request.request)))) known in
    let is = assembled_items pol k m c.hidden_line.new.values lined_values ∙ ap (λ x. length (body_leaves (cleared pol k (message_view x)).body)) (sym c.in-Request.is) in
    subst (λ (n : ℕ). IfOk c.sent_after.result (λ s. s.items ≡ n)) is (rw known at c.sent_after.ensures.items)

pub returns-in_ok-line-in-Request-clause-values : goal.returns-in_ok-line-in-Request-clause-values
returns-in_ok-line-in-Request-clause-values c =
    let pol = c.args.policy.now in
    let k = c.args.mapping in
    let m = message_view (Request c.in-Request.request) in
    let known = c.in_ok-rules-in-Request.ensures in
    let lined_values = c.in_ok-line-in-Request.ensures.values ∙ ap (λ (a : Asked). stood (line_secrets a.policy a.mapping a.kind (request (request_line c.in-Request.request)))) known in
    let is = assembled_values pol k m c.hidden_line.new.values lined_values ∙ ap (λ x. values pol k (message_view x)) (sym c.in-Request.is) in
    subst (λ (vs : List Tree). IfOk c.sent_after.result (λ s. s.values ≡ vs)) is (rw known at c.sent_after.ensures.values)

pub returns-in_ok-rules-in-Response-clause-block : goal.returns-in_ok-rules-in-Response-clause-block
returns-in_ok-rules-in-Response-clause-block c =
    let pol = c.args.policy.now in
    let k = c.args.mapping in
    let m = message_view (Response c.in-Response.response) in
    let known = c.in_ok-rules-in-Response.ensures in
    let is = assembled_block pol k m (meta_view c.args.meta.now) c.new-values.result _ c.new-values.ensures refl ∙ ap (λ x. sent_block pol k (message_view x) (meta_view c.args.meta.now)) (sym c.in-Response.is) in
    subst (λ (t : Tree). IfOk c.sent_after-in-Response.result (λ s. tree_of s.block ≡ t)) is (rw known at c.sent_after-in-Response.ensures.block)

pub returns-in_ok-rules-in-Response-clause-items : goal.returns-in_ok-rules-in-Response-clause-items
returns-in_ok-rules-in-Response-clause-items c =
    let pol = c.args.policy.now in
    let k = c.args.mapping in
    let m = message_view (Response c.in-Response.response) in
    let known = c.in_ok-rules-in-Response.ensures in
    let is = assembled_items pol k m c.new-values.result c.new-values.ensures ∙ ap (λ x. length (body_leaves (cleared pol k (message_view x)).body)) (sym c.in-Response.is) in
    subst (λ (n : ℕ). IfOk c.sent_after-in-Response.result (λ s. s.items ≡ n)) is (rw known at c.sent_after-in-Response.ensures.items)

pub returns-in_ok-rules-in-Response-clause-values : goal.returns-in_ok-rules-in-Response-clause-values
returns-in_ok-rules-in-Response-clause-values c =
    let pol = c.args.policy.now in
    let k = c.args.mapping in
    let m = message_view (Response c.in-Response.response) in
    let known = c.in_ok-rules-in-Response.ensures in
    let is = assembled_values pol k m c.new-values.result c.new-values.ensures ∙ ap (λ x. values pol k (message_view x)) (sym c.in-Response.is) in
    subst (λ (vs : List Tree). IfOk c.sent_after-in-Response.result (λ s. s.values ≡ vs)) is (rw known at c.sent_after-in-Response.ensures.values)
