use Rattle.std.proofs.Common.{sym, ◌∙◌}
use Rattle.n32_outside.proofs.FrontLemmas.{pattern_ends}
use Rattle.n32_outside.proofs.record_front.agrees.Goals as goal

pub returns-then-i-pattern : goal.returns-then-i-pattern
returns-then-i-pattern c = sym (pattern_ends c.args.text.now c.args.pattern.now c.loop-i.i c.loop-i-test.true c.if-i-pattern.true) ∙ c.loop-i.invariant
