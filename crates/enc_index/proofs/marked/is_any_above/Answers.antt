use Rattle.std.proofs.Common.{sym, ◌∙◌}
use Rattle.enc_index.specs.Marks.{mark_view}
use Rattle.enc_index.specs.About.{is_object_above}
use Rattle.enc_index.proofs.AboutLemmas.{any_here, any_later}
use Rattle.enc_index.proofs.marked.is_any_above.Goals as goal

pub loop-i-preserved : goal.loop-i-preserved
loop-i-preserved c = any_later mark_view (is_object_above c.args.place.now) c.args.found.now c.loop-i.i c.item.result.now _ c.item.ensures c.loop-i.invariant (sym c.is_above.ensures ∙ c.if-is_above.false)

pub returns-then-is_above : goal.returns-then-is_above
returns-then-is_above c = any_here mark_view (is_object_above c.args.place.now) c.args.found.now c.loop-i.i c.item.result.now _ c.item.ensures c.loop-i.invariant (sym c.is_above.ensures ∙ c.if-is_above.true)
