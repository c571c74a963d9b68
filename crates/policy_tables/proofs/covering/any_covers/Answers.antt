use Rattle.std.proofs.Common.{sym, ◌∙◌}
use Rattle.spec_messages.specs.Policy.{covers, is_sensitive}
use Rattle.http_message.specs.Reading.{kind_view}
use Rattle.policy_documents.specs.View.{element_view}
use Rattle.policy_tables.specs.View.{site_view}
use Rattle.policy_tables.proofs.CoverLemmas.{cover_here, cover_later}
use Rattle.policy_tables.proofs.covering.any_covers.Goals as goal

pub loop-i-preserved : goal.loop-i-preserved
loop-i-preserved c = cover_later element_view (covers (kind_view c.args.kind) (site_view c.args.site)) (is_sensitive c.args.policy.now) c.args.elements.now c.loop-i.i c.item.result.now _ c.item.ensures c.loop-i.invariant (sym c.counts.ensures ∙ c.if-counts.false)

pub returns-then-counts : goal.returns-then-counts
returns-then-counts c = cover_here element_view (covers (kind_view c.args.kind) (site_view c.args.site)) (is_sensitive c.args.policy.now) c.args.elements.now c.loop-i.i c.item.result.now _ c.item.ensures c.loop-i.invariant (sym c.counts.ensures ∙ c.if-counts.true)
