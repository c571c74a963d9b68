use Rattle.std.proofs.Common.{sym, ◌∙◌, ◌&&◌}
use Rattle.spec_messages.specs.Policy.{touches, header_at, is_secret_part}
use Rattle.http_message.specs.Reading.{header_view}
use Rattle.policy_tables.specs.View.{address_view}
use Rattle.policy_tables.proofs.TouchLemmas.{any_here, any_later}
use Rattle.policy_tables.proofs.secret.any_header.Goals as goal

pub loop-i-preserved : goal.loop-i-preserved
loop-i-preserved c = any_later header_view (λ h. touches (header_at h.name) (address_view c.args.address.now) && is_secret_part c.args.covered h.value) c.args.headers.now c.loop-i.i c.item.result.now _ c.item.ensures c.loop-i.invariant (sym c.is_header_at.ensures ∙ c.if-is_header_at.false)

pub returns-then-is_header_at : goal.returns-then-is_header_at
returns-then-is_header_at c = any_here header_view (λ h. touches (header_at h.name) (address_view c.args.address.now) && is_secret_part c.args.covered h.value) c.args.headers.now c.loop-i.i c.item.result.now _ c.item.ensures c.loop-i.invariant (sym c.is_header_at.ensures ∙ c.if-is_header_at.true)
