use Rattle.std.proofs.Common.{sym, ◌∙◌}
use Rattle.spec_documents.specs.Place.{is_prefix}
use Rattle.enc_index.specs.Marks.{mark_view}
use Rattle.enc_index.proofs.AboutLemmas.{any_here, any_later}
use Rattle.enc_index.proofs.marked.is_any_within.Goals as goal

pub loop-i-preserved : goal.loop-i-preserved
loop-i-preserved c = any_later mark_view (λ m. is_prefix c.args.place.now m.place.pointer) c.args.found.now c.loop-i.i c.item.result.now _ c.item.ensures c.loop-i.invariant (sym c.is_prefix.ensures ∙ c.if-is_prefix.false)

pub returns-then-is_prefix : goal.returns-then-is_prefix
returns-then-is_prefix c = any_here mark_view (λ m. is_prefix c.args.place.now m.place.pointer) c.args.found.now c.loop-i.i c.item.result.now _ c.item.ensures c.loop-i.invariant (sym c.is_prefix.ensures ∙ c.if-is_prefix.true)
