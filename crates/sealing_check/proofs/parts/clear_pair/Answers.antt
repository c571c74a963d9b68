use Rattle.std.proofs.Common.{Some, sym, ap, ◌∙◌}
use Rattle.spec_messages.specs.Policy.{query}
use Rattle.http_message.specs.Reading.{pair_view}
use Rattle.sealing_check.specs.Rules.{pair_test}
use Rattle.sealing_check.specs.Found.{pair_site}
use Rattle.sealing_check.proofs.FirstOfList.{first_here, first_later}
use Rattle.sealing_check.proofs.parts.clear_pair.Goals as goal

pub loop-i-preserved : goal.loop-i-preserved
loop-i-preserved c = first_later pair_view (pair_test c.args.sealed.now) pair_site c.args.pairs.now c.loop-i.i c.item-pair.result.now _ c.item-pair.ensures c.loop-i.invariant (sym c.is_pair_clear.ensures ∙ c.if-is_pair_clear.false)

pub returns-then-is_pair_clear : goal.returns-then-is_pair_clear
returns-then-is_pair_clear c = ap (λ n. Some (query n)) c.in_ok-name.ensures ∙ first_here pair_view (pair_test c.args.sealed.now) pair_site c.args.pairs.now c.loop-i.i c.item-pair.result.now _ c.item-pair.ensures c.loop-i.invariant (sym c.is_pair_clear.ensures ∙ c.if-is_pair_clear.true)
