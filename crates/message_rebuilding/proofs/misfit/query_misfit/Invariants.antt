use Rattle.std.proofs.Common.{◌≡◌, map, drop}
use Rattle.spec_messages.specs.Rebuilt.{lesser, least, value_misfit}
use Rattle.http_message.specs.Reading.{pair_view}
use Rattle.message_rebuilding.proofs.misfit.query_misfit.Given as goal

abbrev pub invariant-loop-i : goal.invariant-loop-i
invariant-loop-i l = lesser l.least (least (map (λ p. value_misfit l.values p.value) (map pair_view (drop l.i l.pairs)))) ≡ least (map (λ p. value_misfit l.values p.value) (map pair_view l.pairs))
