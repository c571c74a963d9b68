use Rattle.std.proofs.Common.{sym, ◌∙◌}
use Rattle.policy_tables.proofs.MappingLemmas.{lengths_differ, fits_at, fails_at}
use Rattle.policy_tables.proofs.mapping.fits_segments.Goals as goal

pub loop-i-preserved : goal.loop-i-preserved
loop-i-preserved c = fits_at c.args.patterns.now c.args.parts.now c.loop-i.i c.item.result.now c.item-in-loop-i.result.now _ c.item.ensures c.item-in-loop-i.ensures c.loop-i.invariant (sym c.fits_segment.ensures ∙ c.if-not-fits_segment.false)

pub returns-then-not-fits_segment : goal.returns-then-not-fits_segment
returns-then-not-fits_segment c = fails_at c.args.patterns.now c.args.parts.now c.loop-i.i c.item.result.now c.item-in-loop-i.result.now _ c.item.ensures c.item-in-loop-i.ensures c.loop-i.invariant (sym c.fits_segment.ensures ∙ c.if-not-fits_segment.true)

pub returns-then-len : goal.returns-then-len
returns-then-len c = sym (lengths_differ c.args.patterns.now c.args.parts.now (λ e. c.if-len.true (c.len.ensures ∙ e ∙ sym c.len-2.ensures)))
