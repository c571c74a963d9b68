use Rattle.std.proofs.Common.{sym, ◌∙◌}
use Rattle.spec_messages.specs.Policy.{patterns_of, mapping_at}
use Rattle.http_message.specs.Reading.{part_view}
use Rattle.policy_tables.specs.View.{address_view}
use Rattle.policy_tables.proofs.TouchLemmas.{segment_here, segment_later}
use Rattle.policy_tables.proofs.secret.any_segment.Goals as goal

pub loop-i-preserved : goal.loop-i-preserved
loop-i-preserved c = segment_later part_view (patterns_of (mapping_at c.args.policy.now c.args.mapping)) (address_view c.args.address.now) c.args.covered c.args.parts.now c.loop-i.i c.item.result.now _ c.item.ensures c.loop-i.invariant (sym c.is_segment_at.ensures ∙ c.if-is_segment_at.false)

pub returns-then-is_segment_at : goal.returns-then-is_segment_at
returns-then-is_segment_at c = segment_here part_view (patterns_of (mapping_at c.args.policy.now c.args.mapping)) (address_view c.args.address.now) c.args.covered c.args.parts.now c.loop-i.i c.item.result.now _ c.item.ensures c.loop-i.invariant (sym c.is_segment_at.ensures ∙ c.if-is_segment_at.true)
