use Rattle.std.proofs.Common.{sym, ◌∙◌, arith}
use Rattle.block_patch.proofs.PlaceLists.{same_later, same_not, same_end, same_count}
use Rattle.block_patch.proofs.step.has_same_places.Goals as goal

pub loop-i-preserved : goal.loop-i-preserved
loop-i-preserved c = same_later c.loop-i.i c.args.one.now c.args.other.now _ (omega arith) (omega arith) c.loop-i.invariant (sym c.is_same_place_at.ensures ∙ c.if-not-is_same_place_at.false)

pub returns-then-len : goal.returns-then-len
returns-then-len c = sym (same_count c.args.one.now c.args.other.now (λ e. absurd (omega (arith, e))))

pub returns-then-not-is_same_place_at : goal.returns-then-not-is_same_place_at
returns-then-not-is_same_place_at c = same_not c.loop-i.i c.args.one.now c.args.other.now _ (omega arith) (omega arith) c.loop-i.invariant (sym c.is_same_place_at.ensures ∙ c.if-not-is_same_place_at.true)

pub returns : goal.returns
returns c = same_end c.loop-i.i c.args.one.now c.args.other.now _ (omega arith) (omega arith) c.loop-i.invariant
