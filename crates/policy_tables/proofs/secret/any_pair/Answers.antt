use Rattle.std.proofs.Common.{sym, ◌∙◌, ◌&&◌}
use Rattle.spec_messages.specs.Policy.{touches, query, is_secret_value}
use Rattle.http_message.specs.Reading.{pair_view}
use Rattle.policy_tables.specs.View.{address_view}
use Rattle.policy_tables.proofs.TouchLemmas.{any_here, any_later}
use Rattle.policy_tables.proofs.secret.any_pair.Goals as goal

pub loop-i-preserved : goal.loop-i-preserved
loop-i-preserved c = any_later pair_view (λ p. touches (query p.name) (address_view c.args.address.now) && is_secret_value c.args.covered p.value) c.args.pairs.now c.loop-i.i c.item.result.now _ c.item.ensures c.loop-i.invariant (sym c.is_pair_at.ensures ∙ c.if-is_pair_at.false)

pub returns-then-is_pair_at : goal.returns-then-is_pair_at
returns-then-is_pair_at c = any_here pair_view (λ p. touches (query p.name) (address_view c.args.address.now) && is_secret_value c.args.covered p.value) c.args.pairs.now c.loop-i.i c.item.result.now _ c.item.ensures c.loop-i.invariant (sym c.is_pair_at.ensures ∙ c.if-is_pair_at.true)
